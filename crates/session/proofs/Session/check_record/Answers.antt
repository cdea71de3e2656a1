-- `session::Session::check_record` meets its contract.
-- Assumes nothing.
use Rattle.std.proofs.Common.{arith}
use Rattle.std.proofs.lemmas.Grind.{common_steps}
use Rattle.basics.specs.Answers.{number_of, answer_number}
use Rattle.basics.specs.Logic.{when◌then◌else◌}
use Rattle.basics.specs.Refusals.{first_number}
use Rattle.session.specs.Calls.{record_rows}
use Rattle.session.proofs.Session.check_record.Goals as goal

pub returns-then-self-ne-OPEN : goal.returns-then-self-ne-OPEN
unfolding record_rows first_number answer_number number_of when◌then◌else◌
returns-then-self-ne-OPEN c = grind (arith, common_steps)

pub returns-then-not-is_sound : goal.returns-then-not-is_sound
unfolding record_rows first_number answer_number number_of when◌then◌else◌
returns-then-not-is_sound c = grind (arith, common_steps)

pub returns : goal.returns
unfolding record_rows first_number answer_number number_of when◌then◌else◌
returns c = grind (arith, common_steps)
