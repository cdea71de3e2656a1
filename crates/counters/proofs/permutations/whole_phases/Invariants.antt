-- What the loop of `counters::permutations::whole_phases` keeps true.
use mathlib.Core.Path.{◌≡◌}
use Rattle.basics.specs.Lists.{sum}
use Rattle.counters.proofs.PermutationCounts.{whole_phase}
use Rattle.counters.proofs.permutations.whole_phases.Given as goal

abbrev pub invariant-loop-word : goal.invariant-loop-word
invariant-loop-word l = l.permutations ≡ sum l.word-index (whole_phase l.words)
