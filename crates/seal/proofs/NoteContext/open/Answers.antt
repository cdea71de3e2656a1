-- `seal::NoteContext::open` meets its contract.
-- Assumes nothing.
use mathlib.Core.Path.{◌≡◌, sym, ap, ap₂, ◌∙◌}
use mathlib.Core.List.{List, []}
use Prim.Native.Nat.{ℕ, ◌-◌, ◌≤◌}
use native.Mathlib.Omega.{arith}
use Rattle.std.specs.Prelude.{Err}
use Rattle.std.proofs.lemmas.Result.{err_from_is_err_and}
use lib.ListN.{length, take, drop, replicate, length-drop}
use lib.Seq.{take_all}
use Rattle.basics.specs.Answers.{number_of, answer_number}
use Rattle.basics.specs.Lists.{joined, total}
use Rattle.basics.specs.Numbers.{accepted, mark_differs}
use Rattle.basics.specs.Refusals.{first_number}
use Rattle.field.specs.Field.{field_of}
use Rattle.session.specs.Record.{squeezed_all}
use Rattle.session.specs.declared.Session.{Session}
use Rattle.seal.specs.Seal.{Context, leaving, keyed, after_blocks, plain_blocks, mark_of, unsealed, is_mark, has_mark, blocks_of, note_rows}
use Rattle.seal.specs.Contexts.{context_of}
use Rattle.seal.specs.Steps.{AcceptsBlocks}
use Rattle.seal.proofs.Calls.{refused_law}
use Rattle.seal.proofs.Rows.{Passed, passed}
use Rattle.seal.proofs.Accepted.{Fit, Ready, fit_long, text_fits, plain_fits, blocks_accepted, mark_accepted, keyed_ready, starts}
use Rattle.seal.proofs.Outcomes.{open_accepted, open_differs, open_refused}
use borrow.Author.Rules.{rules}
use Rattle.seal.proofs.NoteContext.open.Goals as goal
use Rattle.seal.proofs.NoteContext.open.Goals.{After-has_mark, After-pass_blocks, In_ok-check}

-- what the note is sealed under
abbrev given : In_ok-check → Context
given c = context_of c.args.self.now

number : (c : In_ok-check) → first_number (note_rows (given c) c.args.note.now 8 (length c.args.out.now) 0) ≡ accepted
unfolding answer_number
number c = sym c.in_ok-check.ensures

pass : (c : In_ok-check) → Passed (given c) c.args.note.now 8 (length c.args.out.now) 0
pass c = passed _ _ _ _ _ (number c)

size : (c : In_ok-check) → length c.args.out.now ≡ total c.args.self.now.lengths.now
size c = let p = pass c in omega (arith, p.buffer_long)

pub returns-in_err-check : goal.returns-in_err-check
returns-in_err-check c =
    let err = err_from_is_err_and c.from_residual.result c.from_residual.ensures.1 in
    let number = c.in_err-check.ensures in
    ap (λ (n : ℕ). leaving n c.args.out.now) (ap answer_number (err.1 ∙ ap Err err.2) ∙ number)
    ∙ sym (open_refused (context_of c.args.self.now) c.args.note.now c.args.out.now (λ e. refused_law (Unit {0}) c.in_err-check.field-0.0 (number ∙ e)))

pub start-session-requires : goal.start-session-requires
start-session-requires c = starts (given c) (pass c)

-- the plain blocks, which are what the session absorbs
blocks_fit : (c : In_ok-check) → Fit (field_of c.args.self.now.field) c.args.self.now.lengths.now (unsealed (given c) c.args.note.now)
unfolding unsealed
blocks_fit c =
    let p = pass c in
    let ns = c.args.self.now.lengths.now in
    let f = field_of c.args.self.now.field in
    plain_fits f ns p.lengths.each (keyed (given c)) (keyed_ready (given c) p)
    (text_fits f ns c.args.note.now (omega (arith, p.text_long)) p.elements)

accepts : (c : In_ok-check) → let blocks = unsealed (given c) c.args.note.now in
    let r = keyed (given c) in
    AcceptsBlocks r blocks × Ready (field_of c.args.self.now.field) [] (after_blocks r blocks)
accepts c =
    let p = pass c in
    let s = c.args.self.now in
    blocks_accepted (field_of s.field) s.lengths.now p.lengths.each (keyed (given c)) (keyed_ready (given c) p) (blocks_fit c)

pub pass_blocks-requires : goal.pass_blocks-requires
unfolding unsealed
pass_blocks-requires c =
    let here = (goal.at.pass_blocks-requires c).In_ok-check in
    let p = pass here in
    (omega (arith, p.text_long), sym (size here), rw c.start-session.ensures (accepts here).0)

-- they stand in the buffer
plain : (c : After-pass_blocks) → c.pass_blocks.new.out ≡ joined (unsealed (given (goal.at.After-pass_blocks c).In_ok-check) c.args.note.now)
unfolding unsealed
plain c =
    let ns = c.args.self.now.lengths.now in
    c.pass_blocks.ensures.1
    ∙ ap (λ (r : Session). joined (plain_blocks r (blocks_of ns c.args.note.now))) c.start-session.ensures

plain_long : (c : After-pass_blocks) → length c.pass_blocks.new.out ≡ total c.args.self.now.lengths.now
plain_long c =
    ap length (plain c) ∙ fit_long (field_of c.args.self.now.field) (blocks_fit (goal.at.After-pass_blocks c).In_ok-check)

left : (c : After-pass_blocks) → let here = (goal.at.After-pass_blocks c).In_ok-check in
    c.pass_blocks.new.session ≡ after_blocks (keyed (given here)) (unsealed (given here) c.args.note.now)
unfolding unsealed
left c =
    let ns = c.args.self.now.lengths.now in
    c.pass_blocks.ensures.0
    ∙ ap (λ (r : Session). after_blocks r (plain_blocks r (blocks_of ns c.args.note.now))) c.start-session.ensures

-- the mark behind the cipher elements
behind : (c : After-pass_blocks) → let out = c.pass_blocks.new.out in
    take (length c.args.note.now - length out) (drop (length out) c.args.note.now) ≡ drop (total c.args.self.now.lengths.now) c.args.note.now
behind c =
    let note = c.args.note.now in
    let out = c.pass_blocks.new.out in
    take_all (length note - length out) (drop (length out) note) (omega (arith, length-drop (length out) note))
    ∙ ap (λ (n : ℕ). drop n note) (plain_long c)

-- the text has room for it
room : (c : After-pass_blocks) → length c.pass_blocks.new.out ≤ length c.args.note.now
room c =
    let p = pass (goal.at.After-pass_blocks c).In_ok-check in
    omega (arith, plain_long c, p.text_long)

pub slice_bounds-has_mark-count : goal.slice_bounds-has_mark-count
slice_bounds-has_mark-count c = room (goal.at.slice_bounds-has_mark-count c).After-pass_blocks

pub slice_bounds-has_mark-start : goal.slice_bounds-has_mark-start
slice_bounds-has_mark-start c = let fits = room (goal.at.slice_bounds-has_mark-start c).After-pass_blocks in search rules

pub has_mark-requires : goal.has_mark-requires
has_mark-requires c =
    let after = (goal.at.has_mark-requires c).After-pass_blocks in
    let here = (goal.at.has_mark-requires c).In_ok-check in
    let s = c.args.self.now in
    let p = pass here in (
      ap length (behind after) ∙ omega (arith, length-drop (total s.lengths.now) c.args.note.now, p.text_long),
      rw (left after) (mark_accepted (field_of s.field) _ (accepts here).1).0,
    )

-- it is compared
compared : (c : After-has_mark) → c.has_mark.result ≡ has_mark (given (goal.at.After-has_mark c).In_ok-check) c.args.note.now
unfolding has_mark mark_of
compared c =
    let here = (goal.at.After-has_mark c).After-pass_blocks in
    c.has_mark.ensures ∙ ap₂ (λ (r : Session) (l : List ℕ). is_mark (squeezed_all r 8) l) (left here) (behind here)

pub returns-then-not-has_mark : goal.returns-then-not-has_mark
unfolding answer_number number_of
returns-then-not-has_mark c =
    let here = goal.at.returns-then-not-has_mark c in
    ap (leaving mark_differs) (c.fill.ensures.after (λ y e. e) ∙ ap (λ (n : ℕ). replicate n 0) (plain_long here.After-pass_blocks))
    ∙ sym (open_differs (given here.In_ok-check) c.args.note.now c.args.out.now (number here.In_ok-check) (sym (compared here.After-has_mark) ∙ c.if-not-has_mark.true))

pub returns : goal.returns
unfolding answer_number
returns c =
    let here = goal.at.returns c in
    ap (leaving accepted) (plain here.After-pass_blocks)
    ∙ sym (open_accepted (given here.In_ok-check) c.args.note.now c.args.out.now (number here.In_ok-check) (sym (compared here.After-has_mark) ∙ c.if-not-has_mark.false))
