-- START's pass over the declared words: what it holds after each word. From document 02, P2, P4 and P6. Private contracts cite
-- these, and no public one.
use Rattle.std.specs.Prelude.{not, List, [], ◌∷◌, ◌++◌, ℕ, suc, ◌+◌, ◌*◌, leb, ltb, eqb, take}
use Rattle.basics.specs.Logic.{when◌then◌else◌, ◌and◌}
use Rattle.basics.specs.Numbers.{accepted, word_count_out_of_range, word_length_zero, call_too_long, first_word_squeeze, separator_too_long}
use Rattle.basics.specs.Refusals.{◌gets◌⨾◌, first_number}
use Rattle.words.specs.Words.{is_absorb, length_of}
use Rattle.pattern.specs.Pattern.{max_words, merged_words}
use Rattle.pattern.specs.Opening.{WordList, max_call, max_separator, word_rows, with_words, answer_with}

-- "the lowest number that the words so far earn, number 4 aside", where 19 counts "after 2 and before 3", and 4 is "no longer given": the rows about
-- words stand in this order
unfoldable pub pass_number : List ℕ → ℕ
pass_number ws = first_number (word_rows ws)

-- "After each word the pass holds the lowest number that the words so far earn, number 4 aside, else their merged words"
unfoldable pub passed : List ℕ → WordList
passed ws = answer_with (pass_number ws) (merged_words ws)

-- what it holds before the first word: no number, and no words
abbrev pub pass_begin : WordList
pass_begin = with_words accepted []

-- the number that a word earns by itself behind n words
unfoldable pub earned : ℕ → ℕ → ℕ
earned n w =
    first_number
    (leb max_words n gets word_count_out_of_range ⨾
    eqb (length_of w) 0 gets word_length_zero ⨾
    ltb max_call (length_of w) gets call_too_long ⨾
    eqb n 0 and not (is_absorb w) gets first_word_squeeze ⨾
    [])

-- where a number stands in the order of checking: as its double does among doubles, and 19 "after 2 and before 3"
unfoldable pub rank : ℕ → ℕ
rank n = when eqb n call_too_long then 2 * word_length_zero + 1 else 2 * n

-- the one of two numbers that is checked first, where 0 is none
unfoldable pub earlier : ℕ → ℕ → ℕ
earlier a b = when eqb a accepted then b else when eqb b accepted then a else when ltb (rank b) (rank a) then b else a

-- one word more behind n words: a number that is held stays, unless the word earns an earlier one; while there is none, the word is merged behind
-- the merged words, which is as merging all of them
unfoldable pub pass_step : ℕ → WordList → ℕ → WordList
pass_step n held w = answer_with (earlier held.number (earned n w)) (merged_words (take held.count held.words ++ (w ∷ [])))

-- words one after the other, behind n words
unfoldable pub pass_from : ℕ → WordList → List ℕ → WordList
pass_from n held [] = held
pass_from n held (w ∷ ws) = pass_from (suc n) (pass_step n held w) ws

-- the whole pass
unfoldable pub pass : List ℕ → WordList
pass ws = pass_from 0 pass_begin ws

-- what the pass holds after words, and before the first
unfoldable pub held_after : List ℕ → WordList
held_after [] = pass_begin
held_after (w ∷ ws) = passed (w ∷ ws)

-- what is left for the end: number 6, by the separator's length
unfoldable pub ending : ℕ → ℕ
ending separator = first_number (ltb max_separator separator gets separator_too_long ⨾ [])
