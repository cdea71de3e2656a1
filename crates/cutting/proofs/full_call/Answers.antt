-- `cutting::full_call` meets its contract.
-- Assumes nothing.
use native.Mathlib.Omega.{arith}
use Rattle.words.specs.Words.{length_of}
use Rattle.cutting.proofs.full_call.Goals as goal

pub overflow_sub-result-2 : goal.overflow_sub-result-2
unfolding length_of
overflow_sub-result-2 c = omega (arith, c.length_of.ensures)
