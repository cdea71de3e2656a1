-- The loop of `poseidon_matrix::multiply`: the rows filled so far are the product's.
use Rattle.std.proofs.Common.{◌+◌, ◌-◌, ◌*◌, ◌%◌, get_or}
use Rattle.poseidon_rounds.proofs.Places.{Filling}
use Rattle.poseidon_matrix.specs.Matrix.{Row}
use Rattle.poseidon_matrix.proofs.multiply.Given as goal

abbrev pub invariant-loop-i : goal.invariant-loop-i
invariant-loop-i l = Filling 24 (λ k. Row l.table l.x k (get_or l.addends (24 * (l.addends_row % 11) + k) 0) l.m l.q l.r) l.out l.i

abbrev pub decreases-loop-i : goal.decreases-loop-i
decreases-loop-i l = 24 - l.i
