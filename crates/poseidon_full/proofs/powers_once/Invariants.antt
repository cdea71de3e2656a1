-- The loop of `poseidon_full::powers_once`: the places filled so far are powers.
use Rattle.std.proofs.Common.{◌-◌}
use Rattle.poseidon_rounds.proofs.Places.{Filling}
use Rattle.poseidon_full.specs.Full.{RaisedAt}
use Rattle.poseidon_full.proofs.powers_once.Given as goal

abbrev pub invariant-loop-i : goal.invariant-loop-i
invariant-loop-i l = Filling 24 (RaisedAt l.power l.x l.copies) l.out l.i

abbrev pub decreases-loop-i : goal.decreases-loop-i
decreases-loop-i l = 24 - l.i
