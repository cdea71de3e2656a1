-- The loop of `poseidon_partial::next_elements`: the elements so far are the next ones, and their sum.
use Rattle.std.proofs.Common.{◌-◌, ◌*◌, ◌%◌}
use Rattle.poseidon_partial.proofs.Partial.{Spreading}
use Rattle.poseidon_partial.proofs.next_elements.Given as goal

abbrev pub invariant-loop-i : goal.invariant-loop-i
invariant-loop-i l = Spreading l.sparse (48 * (l.round % 24)) l.y l.m l.q l.initial.v l.v l.sum l.high l.i

abbrev pub decreases-loop-i : goal.decreases-loop-i
decreases-loop-i l = 24 - l.i
