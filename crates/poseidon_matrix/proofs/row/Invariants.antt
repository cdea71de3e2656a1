-- The loop of `poseidon_matrix::row`: the parts summed apart make the sum of the products so far.
use Rattle.std.proofs.Common.{◌≡◌, ◌+◌, ◌-◌, ◌*◌, ◌%◌, ◌≤◌}
use Rattle.basics.specs.Lists.{sum, Below}
use Rattle.poseidon_matrix.specs.Matrix.{two_products}
use Rattle.poseidon_matrix.proofs.row.Given as goal

abbrev pub invariant-loop-d : goal.invariant-loop-d
invariant-loop-d l =
    (l.d ≤ 12)
    × (l.d % 2 ≡ 0)
    × (l.low ≤ l.d * 140737488355328)
    × (l.high ≤ l.d * 32768)
    × (Below 2130706433 l.table → Below 2131755009 l.x → l.high * 281474976710656 + l.low ≡ sum l.d (two_products l.table l.x l.i))

abbrev pub decreases-loop-d : goal.decreases-loop-d
decreases-loop-d l = 12 - l.d
