-- The loop of `poseidon_full::powers`: the places filled so far are powers.
use Rattle.std.proofs.Common.{◌-◌}
use Rattle.poseidon_full.proofs.Full.{Raising}
use Rattle.poseidon_full.proofs.powers.Given as goal

abbrev pub invariant-loop-i : goal.invariant-loop-i
invariant-loop-i l = Raising l.power l.x l.copies l.out l.i

abbrev pub decreases-loop-i : goal.decreases-loop-i
decreases-loop-i l = 24 - l.i
