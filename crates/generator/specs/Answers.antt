-- What the generator answers with, as one record.
use Rattle.std.specs.Prelude.{Result, Ok, Err, replicate}
use Rattle.basics.specs.Numbers.{accepted}
use Rattle.basics.specs.Answers.{number_of}
use Rattle.basics.specs.declared.Refusal.{Refusal}
use Rattle.generator.specs.Generator.{Generated}
use Rattle.generator.specs.declared.Constants.{Constants}

-- number 0 with the constants and how many they are; or the number of a refusal, zeros alone and none found
unfoldable pub generated_answer : Result Constants Refusal → Generated
generated_answer (Ok found) = record { number = accepted; constants = found.constants; count = found.count }
generated_answer (Err refusal) = record { number = number_of refusal; constants = replicate 744 0; count = 0 }
