-- `session::Session::is_sound` meets its contract.
-- Assumes nothing.
use Rattle.std.proofs.Common.{arith}
use Rattle.std.proofs.lemmas.Grind.{common_steps}
use Rattle.basics.specs.Logic.{◌and◌}
use Rattle.session.specs.Soundness.{sound}
use Rattle.session.proofs.Session.is_sound.Goals as goal

pub returns-in_default : goal.returns-in_default
unfolding sound ◌and◌
returns-in_default c = grind (arith, common_steps)

pub returns-then-not-is_form : goal.returns-then-not-is_form
unfolding sound ◌and◌
returns-then-not-is_form c = grind (arith, common_steps)

pub returns-then-not-places_sound : goal.returns-then-not-places_sound
unfolding sound ◌and◌
returns-then-not-places_sound c = grind (arith, common_steps)

pub returns-then-not-is_sound : goal.returns-then-not-is_sound
unfolding sound ◌and◌
returns-then-not-is_sound c = grind (arith, common_steps)

pub returns-then-not-is_reduced : goal.returns-then-not-is_reduced
unfolding sound ◌and◌
returns-then-not-is_reduced c = grind (arith, common_steps)

pub returns-then-self-permutations_at : goal.returns-then-self-permutations_at
unfolding sound ◌and◌
returns-then-self-permutations_at c = grind (arith, common_steps)

pub returns-then-self-positions : goal.returns-then-self-positions
unfolding sound ◌and◌
returns-then-self-positions c = grind (arith, common_steps)

pub returns-else-self-positions : goal.returns-else-self-positions
unfolding sound ◌and◌
returns-else-self-positions c = grind (arith, common_steps)
