-- `sponge::permute_if_full` meets its contract.
-- Assumes nothing.
use mathlib.Core.Path.{sym, ◌∙◌}
use borrow.Author.Tests.{eq-eqb, ne_eqb}
use Rattle.basics.proofs.Cases.{if_true, if_false}
use Rattle.sponge.specs.Steps.{state_for, permutations_for}
use Rattle.sponge.proofs.permute_if_full.Goals as goal

pub returns-then-position-ne-RATE : goal.returns-then-position-ne-RATE
unfolding permutations_for state_for
returns-then-position-ne-RATE g c =
    let e = ne_eqb _ 8 c.if-position-ne-RATE.true in
    (sym (if_false _ _ _ e), sym (if_false _ _ _ e))

pub returns : goal.returns
unfolding permutations_for state_for
returns g c =
    let e = eq-eqb _ 8 c.if-position-ne-RATE.false in
    (sym (if_true _ _ _ e), c.permute.ensures ∙ sym (if_true _ _ _ e))
