-- `poseidon_matrix::multiply` meets its contract.
-- Assumes nothing.
use Rattle.std.proofs.Common.{refl, arith}
use Rattle.poseidon_rounds.proofs.Places.{start, step, end}
use Rattle.poseidon_matrix.proofs.multiply.Goals as goal

pub loop-i-init : goal.loop-i-init
loop-i-init c = start refl

pub overflow_cast-out : goal.overflow_cast-out
overflow_cast-out c = omega (arith, c.row.ensures.narrow)

pub loop-i-preserved : goal.loop-i-preserved
loop-i-preserved c =
    step _ c.loop-i.invariant (omega arith) c.row.ensures

pub returns : goal.returns
returns c = end c.loop-i.invariant (omega arith)
