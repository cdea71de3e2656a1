-- `owners::value` meets its contract.
-- Assumes nothing.
use mathlib.Core.Path.{sym, ◌∙◌}
use borrow.Author.Tests.{eq-eqb, ne_eqb}
use Rattle.basics.proofs.Cases.{if_true, if_false}
use Rattle.owners.specs.Owners.{value_of}
use Rattle.owners.proofs.value.Goals as goal

pub returns-then-asked-eq-ACCEPTED : goal.returns-then-asked-eq-ACCEPTED
unfolding value_of
returns-then-asked-eq-ACCEPTED c =
    c.from.ensures ∙ sym (if_true _ _ _ (eq-eqb _ _ c.if-asked-eq-ACCEPTED.true))

pub returns : goal.returns
unfolding value_of
returns c = sym (if_false _ _ _ (ne_eqb _ _ c.if-asked-eq-ACCEPTED.false))
