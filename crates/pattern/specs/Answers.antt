-- What a call answers with that gives words, or turns its caller away, as one record.
use Rattle.std.specs.Prelude.{[], Result, Ok, Err}
use Rattle.basics.specs.Numbers.{accepted}
use Rattle.basics.specs.Answers.{number_of}
use Rattle.basics.specs.declared.Refusal.{Refusal}
use Rattle.pattern.specs.Opening.{WordList, with_words}
use Rattle.pattern.specs.declared.list.Words.{Words}

-- number 0 and the words; or the number of a refusal and no words
unfoldable pub words_answer : Result Words Refusal → WordList
words_answer (Ok list) = record { number = accepted; words = list.words; count = list.count }
words_answer (Err refusal) = with_words (number_of refusal) []
