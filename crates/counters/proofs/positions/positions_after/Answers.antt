-- `counters::positions::positions_after` meets its contract.
-- Assumes nothing.
use mathlib.Core.Path.{sym, ◌∙◌}
use Rattle.basics.proofs.Cases.{if_true, if_false}
use Rattle.basics.specs.Figures.{rate}
use Rattle.counters.specs.Positions.{positions_after}
use Rattle.counters.proofs.positions.positions_after.Goals as goal

pub returns-then-is_absorb : goal.returns-then-is_absorb
unfolding positions_after
returns-then-is_absorb c =
    let absorbs = sym c.is_absorb.ensures ∙ c.if-is_absorb.true in
    (λ i. record { absorb = c.in_last_block-filled.ensures i; squeeze = rate }) ∙ sym (if_true _ _ _ absorbs)

pub returns-else-is_absorb : goal.returns-else-is_absorb
unfolding positions_after
returns-else-is_absorb c =
    let squeezes = sym c.is_absorb.ensures ∙ c.if-is_absorb.false in
    (λ i. record { absorb = 0; squeeze = c.in_last_block-filled.ensures i }) ∙ sym (if_false _ _ _ squeezes)
