-- What START answers with, as one record.
use Rattle.std.specs.Prelude.{Result, Ok, Err}
use Rattle.basics.specs.Numbers.{accepted}
use Rattle.basics.specs.Answers.{number_of}
use Rattle.basics.specs.declared.Refusal.{Refusal}
use Rattle.session.specs.Record.{wiped}
use Rattle.session.specs.Calls.{Answer, giving}
use Rattle.session.specs.declared.Session.{Session}

-- number 0 and the record that START opens; or the number of a refusal and a wiped record
unfoldable pub start_answer : Result Session Refusal → Answer
start_answer (Ok session) = giving accepted session
start_answer (Err refusal) = giving (number_of refusal) wiped
