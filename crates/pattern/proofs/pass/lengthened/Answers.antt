-- `pattern::pass::lengthened` meets its contract.
-- Assumes nothing.
use native.Mathlib.Omega.{arith}
use Rattle.words.specs.Words.{length_of}
use Rattle.pattern.proofs.pass.lengthened.Goals as goal

pub overflow_add-result : goal.overflow_add-result
unfolding length_of
overflow_add-result c = omega (arith, c.requires)
