-- `poseidon_full::powers` meets its contract.
-- Assumes nothing.
use Rattle.std.proofs.Common.{arith}
use Rattle.poseidon_full.proofs.Full.{raising_start, raising_step, raising_end}
use Rattle.poseidon_full.proofs.powers.Goals as goal

pub loop-i-init : goal.loop-i-init
loop-i-init c = raising_start

pub loop-i-preserved : goal.loop-i-preserved
loop-i-preserved c = raising_step c.raised-y.result c.loop-i.invariant (omega arith) c.raised-y.ensures

pub returns : goal.returns
returns c = raising_end c.loop-i.invariant (omega arith)
