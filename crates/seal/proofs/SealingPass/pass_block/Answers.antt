-- `seal::SealingPass::pass_block` meets its contract.
-- Assumes nothing.
use mathlib.Core.Path.{◌≡◌, sym, ap, ap₂, subst, ◌∙◌}
use mathlib.Core.List.{List, ◌∷◌}
use Prim.Native.Nat.{ℕ, ◌+◌, ◌%◌}
use lib.ListN.{length}
use borrow.Author.Rules.{rules}
use Rattle.field.specs.Field.{modulus}
use Rattle.field.specs.declared.Field.{Field}
use Rattle.session.specs.Record.{field_in, squeezed_all}
use Rattle.session.specs.Calls.{absorb, squeeze}
use Rattle.session.specs.declared.Session.{Session}
use Rattle.seal.specs.Seal.{keystream, after_block, after_blocks, plus, cipher_blocks}
use Rattle.seal.specs.Steps.{AcceptsBlock, AcceptsBlocks}
use Rattle.seal.proofs.Calls.{squeezed_written, is_ok_law, given_number, given_session}
use Rattle.seal.proofs.SealingPass.pass_block.Goals as goal
use Rattle.seal.proofs.SealingPass.pass_block.Goals.{After-combine, After-squeeze}

-- both calls are accepted
accepts : (c : After-squeeze) → AcceptsBlock c.args.session.now c.args.block.now
unfolding AcceptsBlocks
accepts c = c.requires.asked.1.0

pub unwrap-requires : goal.unwrap-requires
unwrap-requires c =
    is_ok_law _
    (given_number _ _ c.squeeze.ensures.0
    ∙ ap (λ (n : ℕ). (squeeze c.args.session.now n).number) (sym c.requires.long)
    ∙ (accepts (goal.at.unwrap-requires c).After-squeeze).0)

-- the session squeezes the elements for the block, and is left behind them
stream : (c : After-squeeze) → c.squeeze.new.output ≡ squeezed_all c.args.session.now (length c.args.block.now)
stream c =
    c.squeeze.ensures.1 ∙ squeezed_written c.args.session.now c.args.out.now (length c.args.block.now) c.requires.long (accepts c).0

left : (c : After-squeeze) → c.squeeze.new.self ≡ (squeeze c.args.session.now (length c.args.block.now)).session
left c = given_session _ _ c.squeeze.ensures.0 ∙ ap (λ (n : ℕ). (squeeze c.args.session.now n).session) (sym c.requires.long)

-- the block in its place
cipher : (c : After-combine) → let r = c.args.session.now in
    c.combine.new.squeezed ≡ plus (field_in r) c.args.block.now (keystream r c.args.block.now)
unfolding plus
cipher c =
    let f = c.field_of-field.result in
    c.combine.ensures (λ x y. (x + y) % modulus f) (λ x y z p. search rules)
    ∙ ap₂ (λ (f : Field) (l : List ℕ). plus f c.args.block.now l) c.field_of-field.ensures (stream (goal.at.After-combine c).After-squeeze)

pub unwrap-requires-2 : goal.unwrap-requires-2
unwrap-requires-2 c =
    let here = (goal.at.unwrap-requires-2 c).After-squeeze in
    is_ok_law _
    (given_number _ _ c.absorb.ensures
    ∙ ap (λ (r : Session). (absorb r c.args.block.now).number) (left here)
    ∙ (accepts here).1)

pub returns : goal.returns
unfolding after_block after_blocks cipher_blocks AcceptsBlocks
returns c =
    let block = c.args.block.now in
    let next : c.absorb.new.self ≡ after_block c.args.session.now block =
    given_session _ _ c.absorb.ensures ∙ ap (λ (s : Session). (absorb s block).session) (left (goal.at.returns c).After-squeeze) in
    record {
      gives = λ blocks. ap₂ (λ (l : List ℕ) (s : Session). l ∷ cipher_blocks s blocks) (sym (cipher (goal.at.returns c).After-combine)) (sym next);
      leaves = λ blocks. ap (λ (s : Session). after_blocks s blocks) (sym next);
      asks = λ blocks a. subst (λ (s : Session). AcceptsBlocks s blocks) (sym next) a.1;
    }
