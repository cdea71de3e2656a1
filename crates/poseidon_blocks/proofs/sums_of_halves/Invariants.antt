-- The loop of `poseidon_blocks::sums_of_halves`: the places filled so far are the sums.
use Rattle.std.proofs.Common.{◌-◌, get_or}
use Rattle.poseidon_rounds.proofs.Places.{Filling}
use Rattle.poseidon_blocks.specs.Blocks.{Lowered}
use Rattle.poseidon_blocks.proofs.sums_of_halves.Given as goal

abbrev pub invariant-loop-i : goal.invariant-loop-i
invariant-loop-i l = Filling 24 (λ k. Lowered (get_or l.x k 0) (get_or l.y k 0) l.m) l.out l.i

abbrev pub decreases-loop-i : goal.decreases-loop-i
decreases-loop-i l = 24 - l.i
