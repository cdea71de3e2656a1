-- The loop of `poseidon_partial::widened`: the places filled so far are the same numbers.
use Rattle.std.proofs.Common.{◌≡◌, ◌-◌, get_or}
use Rattle.poseidon_rounds.proofs.Places.{Filling}
use Rattle.poseidon_partial.proofs.widened.Given as goal

abbrev pub invariant-loop-i : goal.invariant-loop-i
invariant-loop-i l = Filling 24 (λ k e. e ≡ get_or l.x k 0) l.out l.i

abbrev pub decreases-loop-i : goal.decreases-loop-i
decreases-loop-i l = 24 - l.i
