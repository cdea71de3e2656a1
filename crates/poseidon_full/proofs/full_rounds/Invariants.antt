-- The loop of `poseidon_full::full_rounds`: the state is the one after the rounds so far.
use Rattle.std.proofs.Common.{◌-◌, ◌≤◌}
use Rattle.poseidon_full.proofs.Full.{Running}
use Rattle.poseidon_full.proofs.full_rounds.Given as goal

abbrev pub invariant-loop-row : goal.invariant-loop-row
invariant-loop-row l = Running l.m l.q l.r l.power l.table l.addends l.copies l.first l.last l.initial.state l.row l.state × (l.first ≤ l.last → l.row ≤ l.last)

abbrev pub decreases-loop-row : goal.decreases-loop-row
decreases-loop-row l = l.last - l.row
