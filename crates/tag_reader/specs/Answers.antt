-- What reading the parts of a tag string answers with, as one record.
use Rattle.std.specs.Prelude.{List, ℕ, Result, Ok, Err, length, replicate}
use Rattle.basics.specs.Numbers.{accepted}
use Rattle.basics.specs.Answers.{number_of}
use Rattle.basics.specs.declared.Refusal.{Refusal}
use Rattle.pattern.specs.Pattern.{max_words}
use Rattle.tag_reader.specs.Parts.{PartsRead}
use Rattle.tag_reader.specs.declared.Parts.{Parts}

-- number 0 and the parts of a string; or the number of a refusal, no words, and the empty part at the string's end
unfoldable pub parts_answer : List ℕ → Result Parts Refusal → PartsRead
parts_answer s (Ok parts) =
    record { number = accepted; words = parts.words.words; count = parts.words.count; start = parts.start; length = parts.length }
parts_answer s (Err refusal) =
    record { number = number_of refusal; words = replicate max_words 0; count = 0; start = length s; length = 0 }
