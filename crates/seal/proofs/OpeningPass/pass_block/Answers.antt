-- `seal::OpeningPass::pass_block` meets its contract.
-- Assumes nothing.
use mathlib.Core.Path.{◌≡◌, sym, ap, ap₂, subst, ◌∙◌}
use mathlib.Core.List.{List, ◌∷◌}
use Prim.Native.Nat.{ℕ, ◌+◌, ◌-◌, ◌%◌}
use lib.ListN.{length}
use borrow.Author.Rules.{rules}
use Rattle.field.specs.Field.{modulus}
use Rattle.field.specs.declared.Field.{Field}
use Rattle.session.specs.Record.{field_in, squeezed_all}
use Rattle.session.specs.Calls.{absorb, squeeze}
use Rattle.session.specs.declared.Session.{Session}
use Rattle.seal.specs.Seal.{keystream, after_block, after_blocks, minus, plain_blocks}
use Rattle.seal.specs.Steps.{AcceptsBlock, AcceptsBlocks}
use Rattle.seal.proofs.Blocks.{minus_length}
use Rattle.seal.proofs.Calls.{squeezed_written, is_ok_law, given_number, given_session}
use Rattle.seal.proofs.OpeningPass.pass_block.Goals as goal
use Rattle.seal.proofs.OpeningPass.pass_block.Goals.{After-combine, After-squeeze}

-- the plain block
abbrev opened : After-squeeze → List ℕ
opened c = let r = c.args.session.now in minus (field_in r) c.args.block.now (keystream r c.args.block.now)

long : (c : After-squeeze) → length (opened c) ≡ length c.args.block.now
long c = minus_length c.args.session.now c.args.block.now (field_in c.args.session.now)

-- both calls are accepted
accepts : (c : After-squeeze) → AcceptsBlock c.args.session.now (opened c)
unfolding AcceptsBlocks plain_blocks
accepts c = c.requires.asked.1.0

squeezes : (c : After-squeeze) → (squeeze c.args.session.now (length c.args.block.now)).number ≡ 0
squeezes c = ap (λ (n : ℕ). (squeeze c.args.session.now n).number) (sym (long c)) ∙ (accepts c).0

pub unwrap-requires : goal.unwrap-requires
unwrap-requires c =
    is_ok_law _
    (given_number _ _ c.squeeze.ensures.0
    ∙ ap (λ (n : ℕ). (squeeze c.args.session.now n).number) (sym c.requires.long)
    ∙ squeezes (goal.at.unwrap-requires c).After-squeeze)

-- the session squeezes the elements for the block, and is left behind them
stream : (c : After-squeeze) → c.squeeze.new.output ≡ squeezed_all c.args.session.now (length c.args.block.now)
stream c =
    c.squeeze.ensures.1 ∙ squeezed_written c.args.session.now c.args.out.now (length c.args.block.now) c.requires.long (squeezes c)

left : (c : After-squeeze) → c.squeeze.new.self ≡ (squeeze c.args.session.now (length (opened c))).session
left c =
    given_session _ _ c.squeeze.ensures.0 ∙ ap (λ (n : ℕ). (squeeze c.args.session.now n).session) (sym (long c ∙ c.requires.long))

-- the block in its place
plain : (c : After-combine) → c.combine.new.squeezed ≡ opened (goal.at.After-combine c).After-squeeze
unfolding minus
plain c =
    let f = c.field_of-field.result in
    c.combine.ensures (λ x y. (x + (modulus f - y)) % modulus f) (λ x y z p. search rules)
    ∙ ap₂ (λ (f : Field) (l : List ℕ). minus f c.args.block.now l) c.field_of-field.ensures (stream (goal.at.After-combine c).After-squeeze)

pub unwrap-requires-2 : goal.unwrap-requires-2
unwrap-requires-2 c =
    let here = (goal.at.unwrap-requires-2 c).After-squeeze in
    is_ok_law _
    (given_number _ _ c.absorb.ensures
    ∙ ap₂ (λ (s : Session) (l : List ℕ). (absorb s l).number) (left here) (plain (goal.at.unwrap-requires-2 c).After-combine)
    ∙ (accepts here).1)

pub returns : goal.returns
unfolding after_block after_blocks plain_blocks AcceptsBlocks
returns c =
    let here = (goal.at.returns c).After-squeeze in
    let plain = plain (goal.at.returns c).After-combine in
    let next : c.absorb.new.self ≡ after_block c.args.session.now (opened here) =
    given_session _ _ c.absorb.ensures ∙ ap₂ (λ (s : Session) (l : List ℕ). (absorb s l).session) (left here) plain in
    record {
      gives = λ blocks. ap₂ (λ (l : List ℕ) (s : Session). l ∷ plain_blocks s blocks) (sym plain) (sym next);
      leaves = λ blocks. ap (λ (s : Session). after_blocks s (plain_blocks s blocks)) (sym next);
      asks = λ blocks a. subst (λ (s : Session). AcceptsBlocks s (plain_blocks s blocks)) (sym next) a.1;
    }
