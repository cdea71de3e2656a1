-- The number of an answer is that of its record.
-- Assumes nothing.
use mathlib.Core.Path.{◌≡◌, refl}
use mathlib.Core.List.{List}
use Prim.Native.Nat.{ℕ}
use Rattle.std.specs.Prelude.{Result, Ok, Err}
use Rattle.basics.specs.Answers.{answer_number}
use Rattle.basics.specs.declared.Refusal.{Refusal}
use Rattle.pattern.specs.Opening.{with_words}
use Rattle.pattern.specs.Answers.{words_answer}
use Rattle.pattern.specs.declared.list.Words.{Words}
use Rattle.tag.specs.Answers.{written_answer}
use Rattle.tag_reader.specs.Answers.{parts_answer}
use Rattle.tag_reader.specs.declared.Parts.{Parts}

pub of_words : (r : Result Words Refusal) → answer_number r ≡ (words_answer r).number
unfolding answer_number words_answer with_words
of_words (Ok list) = refl
of_words (Err refusal) = refl

pub of_written : (r : Result ℕ Refusal) → answer_number r ≡ (written_answer r).number
unfolding answer_number written_answer
of_written (Ok length) = refl
of_written (Err refusal) = refl

pub of_parts : (string : List ℕ) (r : Result Parts Refusal) → answer_number r ≡ (parts_answer string r).number
unfolding answer_number parts_answer
of_parts string (Ok parts) = refl
of_parts string (Err refusal) = refl
