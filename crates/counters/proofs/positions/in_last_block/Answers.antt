-- `counters::positions::in_last_block` meets its contract.
-- Assumes nothing.
use native.Mathlib.Omega.{arith}
use Rattle.counters.specs.Positions.{in_last_block}
use Rattle.counters.proofs.positions.in_last_block.Goals as goal

pub returns : goal.returns
unfolding in_last_block
returns c = omega arith
