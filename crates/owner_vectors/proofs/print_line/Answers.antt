-- `owner_vectors::print_line` is safe and ends.
-- Assumes nothing.
use native.Mathlib.Omega.{arith}
use Rattle.owner_vectors.proofs.print_line.Goals as goal

pub returns : goal.returns
returns c =
    omega (arith, c.field_at-first.ensures.bytes_len.3 c.requires)
