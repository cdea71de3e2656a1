-- `seal::NoteContext::seal` meets its contract.
-- Assumes nothing.
use mathlib.Core.Path.{◌≡◌, sym, ap, ap₂, ◌∙◌}
use mathlib.Core.List.{List, [], ◌++◌}
use Prim.Native.Nat.{ℕ, ◌+◌}
use native.Mathlib.Omega.{arith}
use Rattle.std.specs.Prelude.{Err}
use Rattle.std.proofs.lemmas.Result.{err_from_is_err_and}
use lib.ListN.{length}
use Rattle.basics.specs.Answers.{answer_number}
use Rattle.basics.specs.Lists.{joined}
use Rattle.basics.specs.Numbers.{accepted}
use Rattle.basics.specs.Refusals.{first_number}
use Rattle.field.specs.Field.{field_of}
use Rattle.session.specs.Record.{squeezed_all}
use Rattle.session.specs.Calls.{squeeze}
use Rattle.session.specs.declared.Session.{Session}
use Rattle.seal.specs.Seal.{Context, leaving, keyed, after_blocks, cipher_blocks, mark_of, sealed, blocks_of, seal_rows}
use Rattle.seal.specs.Contexts.{context_of}
use Rattle.seal.specs.Steps.{AcceptsBlocks}
use Rattle.seal.proofs.Calls.{squeezed_written, is_ok_law, given_number, refused_law}
use Rattle.seal.proofs.Rows.{Passed, passed}
use Rattle.seal.proofs.Accepted.{Fit, Ready, text_fits, blocks_accepted, mark_accepted, keyed_ready, starts}
use Rattle.seal.proofs.Outcomes.{seal_accepted, seal_refused}
use Rattle.seal.proofs.NoteContext.seal.Goals as goal
use Rattle.seal.proofs.NoteContext.seal.Goals.{After-pass_blocks, After-split_at_mut-cipher, In_ok-check}

-- what the note is sealed under
abbrev given : In_ok-check → Context
given c = context_of c.args.self.now

number : (c : In_ok-check) → first_number (seal_rows (given c) c.args.plain.now c.args.out.now) ≡ accepted
unfolding seal_rows answer_number
number c = sym c.in_ok-check.ensures

pass : (c : In_ok-check) → Passed (given c) c.args.plain.now 0 (length c.args.out.now) 8
unfolding seal_rows
pass c = passed _ _ _ _ _ (number c)

pub returns-in_err-check : goal.returns-in_err-check
unfolding seal_rows
returns-in_err-check c =
    let err = err_from_is_err_and c.from_residual.result c.from_residual.ensures.1 in
    let number = c.in_err-check.ensures in
    ap (λ (n : ℕ). leaving n c.args.out.now) (ap answer_number (err.1 ∙ ap Err err.2) ∙ number)
    ∙ sym (seal_refused (context_of c.args.self.now) c.args.plain.now c.args.out.now (λ e. refused_law (Unit {0}) c.in_err-check.field-0.0 (number ∙ e)))

pub start-session-requires : goal.start-session-requires
start-session-requires c = starts (given c) (pass c)

room : (c : In_ok-check) → length c.args.out.now ≡ length c.args.plain.now + 8
room c = let p = pass c in omega (arith, p.text_long, p.buffer_long)

pub split_at_mut-cipher-requires : goal.split_at_mut-cipher-requires
split_at_mut-cipher-requires c = omega (arith, room (goal.at.split_at_mut-cipher-requires c).In_ok-check)

blocks_fit : (c : In_ok-check) → let s = c.args.self.now in Fit (field_of s.field) s.lengths.now (blocks_of s.lengths.now c.args.plain.now)
blocks_fit c =
    let p = pass c in
    let s = c.args.self.now in
    text_fits (field_of s.field) s.lengths.now c.args.plain.now (omega (arith, p.text_long)) p.elements

accepts : (c : In_ok-check) → let s = c.args.self.now in
    let blocks = blocks_of s.lengths.now c.args.plain.now in
    AcceptsBlocks (keyed (given c)) blocks × Ready (field_of s.field) [] (after_blocks (keyed (given c)) blocks)
accepts c =
    let p = pass c in
    let s = c.args.self.now in
    blocks_accepted (field_of s.field) s.lengths.now p.lengths.each (keyed (given c)) (keyed_ready (given c) p) (blocks_fit c)

pub pass_blocks-requires : goal.pass_blocks-requires
pass_blocks-requires c =
    let here = (goal.at.pass_blocks-requires c).In_ok-check in
    let p = pass here in (
      omega (arith, p.text_long),
      omega (arith, p.text_long, c.split_at_mut-cipher.ensures.front_len),
      rw c.start-session.ensures (accepts here).0,
    )

-- the second part of the buffer has room for the mark
eight : (c : After-split_at_mut-cipher) → 8 ≡ length c.split_at_mut-cipher.result.1.now
eight c = omega (arith, c.split_at_mut-cipher.ensures.back_len, room (goal.at.After-split_at_mut-cipher c).In_ok-check)

-- the cipher elements stand in the first part
cipher : (c : After-pass_blocks) → let s = c.args.self.now in
    c.pass_blocks.new.out ≡ joined (cipher_blocks (keyed (given (goal.at.After-pass_blocks c).In_ok-check)) (blocks_of s.lengths.now c.args.plain.now))
cipher c =
    let ns = c.args.self.now.lengths.now in
    c.pass_blocks.ensures.1
    ∙ ap (λ (r : Session). joined (cipher_blocks r (blocks_of ns c.args.plain.now))) c.start-session.ensures

left : (c : After-pass_blocks) → let s = c.args.self.now in
    c.pass_blocks.new.session ≡ after_blocks (keyed (given (goal.at.After-pass_blocks c).In_ok-check)) (blocks_of s.lengths.now c.args.plain.now)
left c =
    let ns = c.args.self.now.lengths.now in
    c.pass_blocks.ensures.0
    ∙ ap (λ (r : Session). after_blocks r (blocks_of ns c.args.plain.now)) c.start-session.ensures

squeezes : (c : After-pass_blocks) → (squeeze c.pass_blocks.new.session 8).number ≡ accepted
squeezes c =
    rw (left c) (mark_accepted (field_of c.args.self.now.field) _ (accepts (goal.at.After-pass_blocks c).In_ok-check).1).0

pub unwrap-requires : goal.unwrap-requires
unwrap-requires c =
    let here = goal.at.unwrap-requires c in
    is_ok_law _
    (given_number _ _ c.squeeze.ensures.0
    ∙ ap (λ (n : ℕ). (squeeze c.pass_blocks.new.session n).number) (sym (eight here.After-split_at_mut-cipher))
    ∙ squeezes here.After-pass_blocks)

pub returns : goal.returns
unfolding answer_number sealed mark_of
returns c =
    let here = goal.at.returns c in
    let mark = c.squeeze.ensures.1 ∙ squeezed_written c.pass_blocks.new.session _ 8 (eight here.After-split_at_mut-cipher) (squeezes here.After-pass_blocks) in
    ap (leaving accepted)
    (ap₂ (λ (a b : List ℕ). a ++ b) (cipher here.After-pass_blocks) (mark ∙ ap (λ (r : Session). squeezed_all r 8) (left here.After-pass_blocks)))
    ∙ sym (seal_accepted (given here.In_ok-check) c.args.plain.now c.args.out.now (number here.In_ok-check))
