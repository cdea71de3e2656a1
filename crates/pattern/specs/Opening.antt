-- What a tag string is made from, and the start check of document 01, "Calls turned away": "START checks 1 to 6 in number order, whichever word is
-- at fault"; and of document 02: P4 adds 19 "after 2 and before 3" and takes 5 away, P6 takes 4 away.
use Rattle.std.specs.Prelude.{not, List, [], ◌++◌, ℕ, ltb, eqb, length, get_or}
use Rattle.basics.specs.Logic.{when◌then◌else◌, ◌or◌, any}
use Rattle.basics.specs.Lists.{zero_padded}
use Rattle.basics.specs.Numbers.{accepted, word_count_out_of_range, word_length_zero, call_too_long, first_word_squeeze, separator_too_long}
use Rattle.basics.specs.Refusals.{Row, ◌gets◌⨾◌, first_number}
use Rattle.words.specs.Words.{is_absorb, length_of}
use Rattle.pattern.specs.Pattern.{max_words, merged_words}

-- what a tag string is made from, and START gets beside a field number: the words that declare a pattern, and the separator (SAFE's domain
-- separator), a string of bytes
pub record Opening : Type 0 where
  pub words : List ℕ
  pub separator : List ℕ

-- an opening of its parts
abbrev pub opening : List ℕ → List ℕ → Opening
opening ws separator = record { words = ws; separator = separator }

-- a number, 64 places for words, and how many are used
pub record WordList : Type 0 where
  pub number : ℕ
  pub words : List ℕ
  pub count : ℕ

-- the longest separator, in bytes
abbrev pub max_separator : ℕ
max_separator = 256

-- the longest call that a pattern may declare: "limits one declared call to 16,777,216 elements"
abbrev pub max_call : ℕ
max_call = 16777216

-- the rows about words alone, in the order in which they count
unfoldable pub word_rows : List ℕ → List Row
word_rows ws =
    eqb (length ws) 0 or ltb max_words (length ws) gets word_count_out_of_range ⨾
    any (λ w. eqb (length_of w) 0) ws gets word_length_zero ⨾
    any (λ w. ltb max_call (length_of w)) ws gets call_too_long ⨾
    not (is_absorb (get_or ws 0 0)) gets first_word_squeeze ⨾
    []

-- all rows, in the order in which they count: behind those about words the one about the separator
unfoldable pub opening_rows : Opening → List Row
opening_rows o = word_rows o.words ++ (ltb max_separator (length o.separator) gets separator_too_long ⨾ [])

-- the number that an opening gets
unfoldable pub opening_number : Opening → ℕ
opening_number o = first_number (opening_rows o)

-- what comes with a number: nothing if the call is refused
unfoldable pub given : ℕ → List ℕ → List ℕ
given number xs = when eqb number accepted then xs else []

-- a number with words: 64 places, unused ones 0, and how many are used
unfoldable pub with_words : ℕ → List ℕ → WordList
with_words number ws = record { number = number; words = zero_padded max_words ws; count = length ws }

-- an answer that holds words: its number, and the words if that is 0
unfoldable pub answer_with : ℕ → List ℕ → WordList
answer_with number ws = with_words number (given number ws)

-- the start check's answer: its number and the merged words
unfoldable pub checked : Opening → WordList
checked o = answer_with (opening_number o) (merged_words o.words)
