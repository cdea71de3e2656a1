-- `generator_check::sample` is safe: the places lent are as many as wanted.
-- Assumes nothing.
use mathlib.Core.Path.{sym}
use native.Mathlib.Omega.{arith}
use lib.Seq.{length-take-le}
use Rattle.generator_check.proofs.sample.Goals as goal

pub slice_bounds-generate_from-end : goal.slice_bounds-generate_from-end
slice_bounds-generate_from-end c = sym (length-take-le _ _ (omega arith))
