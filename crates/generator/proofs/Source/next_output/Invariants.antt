-- What the loop of `Source::next_output` keeps: the pairs passed give no output bit.
use mathlib.Core.Path.{◌≡◌}
use Prim.Native.Nat.{◌≤◌}
use Rattle.generator.specs.Steps.{outputs_left}
use Rattle.generator.proofs.Source.next_output.Given as goal

abbrev pub invariant-loop-self : goal.invariant-loop-self
invariant-loop-self l = (l.self.left ≤ l.initial.self.left) × (outputs_left l.initial.self ≡ outputs_left l.self)

abbrev pub decreases-loop-self : goal.decreases-loop-self
decreases-loop-self l = l.self.left
