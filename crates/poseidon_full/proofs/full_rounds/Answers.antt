-- `poseidon_full::full_rounds` meets its contract.
-- Assumes nothing.
use Rattle.std.proofs.Common.{arith}
use Rattle.poseidon_full.proofs.Full.{running_start, running_step, running_end}
use Rattle.poseidon_full.proofs.full_rounds.Goals as goal

pub loop-row-init : goal.loop-row-init
loop-row-init c = (running_start, λ h. h)

pub loop-row-preserved : goal.loop-row-preserved
loop-row-preserved c = (running_step (omega arith) c.loop-row.invariant.0 c.round_by_blocks-state.ensures, λ h. omega arith)

pub returns : goal.returns
returns c = running_end (omega arith) c.loop-row.invariant.0 c.loop-row.invariant.1
