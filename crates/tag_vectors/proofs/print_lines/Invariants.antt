-- The loop of `tag_vectors::print_lines` ends.
use Prim.Native.Nat.{◌-◌}
use lib.ListN.{length}
use Rattle.tag_vectors.proofs.print_lines.Given as goal

abbrev pub decreases-loop-at : goal.decreases-loop-at
decreases-loop-at l = length l.text - l.at
