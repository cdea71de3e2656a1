-- What writing answers with, as one record.
use Rattle.std.specs.Prelude.{ℕ, Result, Ok, Err}
use Rattle.basics.specs.Numbers.{accepted}
use Rattle.basics.specs.Answers.{number_of}
use Rattle.basics.specs.declared.Refusal.{Refusal}
use Rattle.tag.specs.TagString.{Written}

-- number 0 and the length of the string that was written; or the number of a refusal and 0
unfoldable pub written_answer : Result ℕ Refusal → Written
written_answer (Ok length) = record { number = accepted; length = length }
written_answer (Err refusal) = record { number = number_of refusal; length = 0 }
