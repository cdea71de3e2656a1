-- `poseidon_partial::narrowed` meets its contract.
-- Assumes nothing.
use Rattle.std.proofs.Common.{refl, arith, rules}
use Rattle.poseidon_rounds.proofs.Places.{start, step, end}
use Rattle.poseidon_partial.proofs.Partial.{rest_of}
use Rattle.poseidon_partial.proofs.narrowed.Goals as goal

pub loop-i-init : goal.loop-i-init
loop-i-init c = start refl

pub loop-i-preserved : goal.loop-i-preserved
loop-i-preserved c = step _ c.loop-i.invariant (omega arith) refl

pub returns : goal.returns
returns c = rest_of (search rules) (end c.loop-i.invariant (omega arith))
