-- `poseidon_full::powers_once` meets its contract.
-- Assumes nothing.
use Rattle.std.proofs.Common.{refl, arith}
use Rattle.poseidon_rounds.proofs.Places.{start, step, end}
use Rattle.poseidon_full.proofs.powers_once.Goals as goal

pub loop-i-init : goal.loop-i-init
loop-i-init c = start refl

pub loop-i-preserved : goal.loop-i-preserved
loop-i-preserved c = step _ c.loop-i.invariant (omega arith) c.raised.ensures

pub returns : goal.returns
returns c = end c.loop-i.invariant (omega arith)
