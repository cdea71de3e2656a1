-- Definitions that no public contract cites: what private functions of the crate take and give.
use Rattle.std.specs.Prelude.{◌≡◌, List, ℕ, eqb, replicate, Option, Some, None, Result, Ok, Err}
use Rattle.basics.specs.Logic.{when◌then◌else◌}
use Rattle.basics.specs.Numbers.{accepted}
use Rattle.pattern.specs.Pattern.{max_words, merged_words}
use Rattle.basics.specs.Answers.{number_of}
use Rattle.basics.specs.declared.Refusal.{Refusal}
use Rattle.pattern.specs.Opening.{WordList, with_words}

-- a list of 64 places holds the merged words of ws, which are so many
pub record Holds (ws list : List ℕ) (count : ℕ) : Type 0 where
  pub holds : with_words accepted (merged_words ws) ≡ record { number = accepted; words = list; count = count }

-- what a number, a list of 64 places and a count hold together: where the number is 0 the list's words, otherwise none
unfoldable pub holding : ℕ → List ℕ → ℕ → WordList
holding number list count =
    record { number = number; words = when eqb number accepted then list else replicate max_words 0; count = count }

-- the number of what a word earns: 0 where that is no refusal
unfoldable pub refusal_number : Option Refusal → ℕ
refusal_number None = accepted
refusal_number (Some refusal) = number_of refusal

-- how many words the list has beside which the pass holds this: none where it holds a refusal
unfoldable pub count_in : Result ℕ Refusal → ℕ
count_in (Ok count) = count
count_in (Err _) = 0
