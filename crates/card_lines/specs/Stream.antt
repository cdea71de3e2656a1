-- The input in pieces: what one call of `feed` takes and writes. `line` is the 2,049 places of the line in progress, which no newline has ended
-- yet, and n how many bytes it has; one of 2,049 bytes is too long, whatever follows. Document 01 leaves it to the program how input and output
-- are cut; what is common to every choice is `output`.
use Rattle.std.specs.Prelude.{Bool, List, [], ◌∷◌, ℕ, ◌+◌, ◌-◌, min, ltb, eqb, length, take}
use Rattle.basics.specs.Logic.{when◌then◌else◌}
use Rattle.basics.specs.Lists.{placed}
use Rattle.card.specs.Answer.{answer, newline, with_newline}
use Rattle.card_lines.specs.declared.Fed.{Fed}

-- the bytes before the first newline, or all
unfoldable pub first_line : List ℕ → List ℕ
first_line [] = []
first_line (b ∷ bs) = when eqb b newline then [] else b ∷ first_line bs

-- the piece has a newline
unfoldable pub ends_line : List ℕ → Bool
ends_line piece = ltb (length (first_line piece)) (length piece)

-- the line in progress with some bytes behind it: how many bytes it has, and its places
unfoldable pub extended_length : ℕ → List ℕ → ℕ
extended_length n bytes = min (n + length bytes) 2049

unfoldable pub extended : List ℕ → ℕ → List ℕ → List ℕ
extended line n bytes = placed line n (take (2049 - n) bytes)

-- the answer to the line in progress, with a newline
unfoldable pub held_answer : List ℕ → ℕ → List ℕ
held_answer line n = with_newline (answer (take n line))

-- what a call writes
unfoldable pub writes : List ℕ → ℕ → List ℕ → List ℕ
writes line n piece = when ends_line piece then held_answer (extended line n (first_line piece)) (extended_length n (first_line piece)) else []

-- what a call takes of its piece: up to the first newline, and the newline; all if there is no newline
unfoldable pub takes : List ℕ → List ℕ
takes piece = take (length (first_line piece) + 1) piece

-- the length of the line in progress after a call, and its places
unfoldable pub held_after : ℕ → List ℕ → ℕ
held_after n piece = when ends_line piece then 0 else extended_length n (first_line piece)

unfoldable pub line_after : List ℕ → ℕ → List ℕ → List ℕ
line_after line n piece = extended line n (first_line piece)

-- a call's numbers
unfoldable pub fed : List ℕ → ℕ → List ℕ → Fed
fed line n piece = record { held = held_after n piece; used = length (takes piece); written = length (writes line n piece) }

-- what is written at the end of the input: the answer to the line in progress, if it has a byte
unfoldable pub last_answer : List ℕ → ℕ → List ℕ
last_answer line n = when eqb n 0 then [] else held_answer line n
