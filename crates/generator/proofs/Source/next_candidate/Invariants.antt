-- What the loop of `Source::next_candidate` keeps: the value is the number that the bits taken write.
use mathlib.Core.Path.{◌≡◌}
use mathlib.Core.List.{List, ◌++◌}
use Prim.Native.Nat.{ℕ, ◌+◌, ◌^◌, ◌≤◌, ◌<◌}
use lib.ListN.{length}
use Rattle.basics.specs.Digits.{number}
use Rattle.generator.specs.Steps.{outputs_left}
use Rattle.generator.specs.declared.Source.{Source}
use Rattle.generator.proofs.Source.next_candidate.Given as goal

-- size output bits are taken, and value is the number that they write
pub record Collected (before from : Source) (value size : ℕ) : Type 0 where
  pub bound : value < 2 ^ size
  pub fewer : from.left + size ≤ before.left
  pub word : List ℕ
  pub long : length word ≡ size
  pub writes : value ≡ number 2 word
  pub rest : outputs_left before ≡ word ++ outputs_left from

abbrev pub invariant-loop : goal.invariant-loop
invariant-loop l = Collected l.initial.self l.self l.value l.counter
