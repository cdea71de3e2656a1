-- The loop of `poseidon_full::add_constants`: the places filled so far are the sums.
use Rattle.std.proofs.Common.{◌-◌}
use Rattle.poseidon_rounds.proofs.Places.{Filling}
use Rattle.poseidon_full.specs.Full.{Summed}
use Rattle.poseidon_full.proofs.add_constants.Given as goal

abbrev pub invariant-loop-i : goal.invariant-loop-i
invariant-loop-i l = Filling 24 (Summed l.x l.addends l.row) l.out l.i

abbrev pub decreases-loop-i : goal.decreases-loop-i
decreases-loop-i l = 24 - l.i
