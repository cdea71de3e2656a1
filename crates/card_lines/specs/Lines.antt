-- The lines of an input, and the output. From document 01, "Cards".
use Rattle.std.specs.Prelude.{List, [], ◌∷◌, ◌++◌, ℕ, eqb}
use Rattle.basics.specs.Logic.{when◌then◌else◌}
use Rattle.card.specs.Answer.{answer, newline, with_newline}

-- a byte before the first of some lines; it is a line of its own if there is none
unfoldable pub before : ℕ → List (List ℕ) → List (List ℕ)
before b [] = (b ∷ []) ∷ []
before b (l ∷ ls) = (b ∷ l) ∷ ls

-- the lines: each ends at a newline, the last one also at the end of the input, "the last newline may be missing"
unfoldable pub lines : List ℕ → List (List ℕ)
lines [] = []
lines (b ∷ input) = when eqb b newline then [] ∷ lines input else before b (lines input)

-- answers with a newline behind each
unfoldable pub answers : List (List ℕ) → List ℕ
answers [] = []
answers (l ∷ ls) = with_newline (answer l) ++ answers ls

-- "For each line, in order": what the card program prints. "There is no header."
unfoldable pub output : List ℕ → List ℕ
output input = answers (lines input)
