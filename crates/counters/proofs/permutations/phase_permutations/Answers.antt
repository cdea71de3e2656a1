-- `counters::permutations::phase_permutations` meets its contract.
-- Assumes nothing.
use mathlib.Core.Path.{sym, ◌∙◌}
use borrow.Author.Tests.{eq-eqb, ne_eqb}
use Rattle.basics.proofs.Cases.{if_true, if_false}
use Rattle.counters.specs.Permutations.{block_count, phase_permutations}
use Rattle.counters.proofs.permutations.phase_permutations.Goals as goal

pub returns-then-not-is_absorb : goal.returns-then-not-is_absorb
unfolding phase_permutations block_count
returns-then-not-is_absorb c = sym (if_false _ _ _ (sym c.is_absorb.ensures ∙ c.if-not-is_absorb.true))

pub returns-then-done-eq0 : goal.returns-then-done-eq0
unfolding phase_permutations block_count
returns-then-done-eq0 c =
    let absorbs = sym c.is_absorb.ensures ∙ c.if-not-is_absorb.false in
    sym (if_true _ _ _ absorbs ∙ if_true _ _ _ (eq-eqb _ 0 c.if-done-eq0.true))

pub returns : goal.returns
unfolding phase_permutations block_count
returns c =
    let absorbs = sym c.is_absorb.ensures ∙ c.if-not-is_absorb.false in
    sym (if_true _ _ _ absorbs ∙ if_false _ _ _ (ne_eqb _ 0 c.if-done-eq0.false))
