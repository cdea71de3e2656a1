-- What the loop of `Source::next_constant` keeps: the candidates passed give no constant.
use mathlib.Core.Path.{◌≡◌}
use Rattle.generator.specs.Steps.{constants_left}
use Rattle.generator.proofs.Source.next_constant.Given as goal

abbrev pub invariant-loop-candidate : goal.invariant-loop-candidate
invariant-loop-candidate l = constants_left l.modulus l.initial.self ≡ constants_left l.modulus l.self

abbrev pub decreases-loop-candidate : goal.decreases-loop-candidate
decreases-loop-candidate l = l.self.left
