-- The loop of `poseidon_partial::partial_rounds`: the state is the one after the rounds so far.
use Rattle.std.proofs.Common.{◌-◌}
use Rattle.poseidon_partial.proofs.Partial.{Going}
use Rattle.poseidon_partial.proofs.partial_rounds.Given as goal

abbrev pub invariant-loop-k : goal.invariant-loop-k
invariant-loop-k l = Going l.m l.q l.r l.power l.first_entry l.n l.sparse l.first_constants l.start l.k l.x l.v l.s.low l.s.high

abbrev pub decreases-loop-k : goal.decreases-loop-k
decreases-loop-k l = l.n - l.k
