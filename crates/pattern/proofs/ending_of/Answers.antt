-- `pattern::ending_of` meets its contract.
-- Assumes nothing.
use mathlib.Core.Path.{◌≡◌, refl, ap, ◌∙◌}
use mathlib.Core.Bool.{Bool, true, false}
use mathlib.Core.List.{[]}
use Rattle.std.specs.Bool.{then_some}
use Rattle.basics.specs.Answers.{number_of}
use Rattle.basics.specs.Refusals.{◌gets◌⨾◌, first_number}
use Rattle.basics.specs.Logic.{when◌then◌else◌}
use Rattle.basics.specs.declared.Refusal.TheVariants.{SeparatorTooLong}
use Rattle.pattern.specs.Pass.{ending}
use Rattle.pattern.specs.Steps.{refusal_number}
use Rattle.pattern.proofs.ending_of.Goals as goal

by_length : (b : Bool) → refusal_number (then_some b SeparatorTooLong) ≡ first_number (b gets 6 ⨾ [])
unfolding refusal_number number_of first_number when◌then◌else◌
by_length true = refl
by_length false = refl

pub returns : goal.returns
unfolding ending
returns c = ap refusal_number c.then_some.ensures ∙ by_length _
