-- Longer words cut into calls that a pattern may declare. From document 02, P4: "what it reads is written again by cutting longer words into calls
-- of 16,777,216 and any rest, where 64 calls suffice."
use Rattle.std.specs.Prelude.{List, [], ◌∷◌, ◌++◌, map, ℕ, ◌/◌, ◌%◌, leb, ltb, eqb, length, replicate}
use Rattle.basics.specs.Logic.{when◌then◌else◌}
use Rattle.basics.specs.Numbers.{word_count_out_of_range}
use Rattle.basics.specs.Refusals.{◌gets◌⨾◌, first_number}
use Rattle.words.specs.Words.{Phase, phase_of, word_of}
use Rattle.pattern.specs.Pattern.{max_words}
use Rattle.pattern.specs.Opening.{max_call, answer_with}
use Rattle.pattern.specs.Opening.{WordList}

-- "any rest": nothing, where there is none
unfoldable pub rest_of : ℕ → List ℕ
rest_of n = when eqb n 0 then [] else n ∷ []

-- a length within the limit stays, 0 too; a longer one becomes lengths of the limit "and any rest"
unfoldable pub cut_length : ℕ → ℕ → List ℕ
cut_length limit n = when leb n limit then n ∷ [] else replicate (n / limit) limit ++ rest_of (n % limit)

-- a call, cut into calls of its kind
unfoldable pub cut_call : ℕ → Phase → List Phase
cut_call limit a = map (λ n. record { absorbs = a.absorbs; elements = n }) (cut_length limit a.elements)

-- words, each cut, in their order
unfoldable pub cut_words : ℕ → List ℕ → List ℕ
cut_words limit [] = []
cut_words limit (w ∷ ws) = map word_of (cut_call limit (phase_of w)) ++ cut_words limit ws

-- "where 64 calls suffice": number 1, which START would give, where they do not
unfoldable pub cut_number : List ℕ → ℕ
cut_number ws = first_number (ltb max_words (length (cut_words max_call ws)) gets word_count_out_of_range ⨾ [])

-- cutting's answer: its number and the calls as words
unfoldable pub cut_answer : List ℕ → WordList
cut_answer ws = answer_with (cut_number ws) (cut_words max_call ws)
