-- The list of blocks. From document 01, "What the third demand compares", and document 00: "A block is eight neighbouring absorbed elements
-- of one merged call, counted from its start, the last filled up with zeros."
use Rattle.std.specs.Prelude.{List, [], ◌∷◌, ◌++◌, ℕ, zero, suc, ◌+◌, take, drop}
use Rattle.basics.specs.Logic.{when◌then◌else◌}
use Rattle.basics.specs.Lists.{zero_padded, joined}
use Rattle.words.specs.Words.{Phase}
use Rattle.counters.specs.Permutations.{block_count}

-- n blocks: "into eights from its start, its last filled up with zeros"
unfoldable pub eights : ℕ → List ℕ → List (List ℕ)
eights zero xs = []
eights (suc n) xs = zero_padded 8 (take 8 xs) ∷ eights n (drop 8 xs)

-- "For the list of blocks, cut the absorbed elements into the lengths of the ABSORB phases in turn, and each of those into eights"
unfoldable pub blocks : List Phase → List ℕ → List (List ℕ)
blocks [] xs = []
blocks (a ∷ ps) xs =
    when a.absorbs then eights (block_count a.elements) (take a.elements xs) ++ blocks ps (drop a.elements xs)
    else blocks ps xs

-- how many blocks a pattern has: ceil(n/8) for each ABSORB phase of n elements
unfoldable pub block_total : List Phase → ℕ
block_total [] = 0
block_total (a ∷ ps) = (when a.absorbs then block_count a.elements else 0) + block_total ps

-- what blocks hold: those of each ABSORB phase in turn, laid side by side and cut to the phase's length
unfoldable pub held_by : List Phase → List (List ℕ) → List ℕ
held_by [] bs = []
held_by (a ∷ ps) bs =
    when a.absorbs then take a.elements (joined (take (block_count a.elements) bs)) ++ held_by ps (drop (block_count a.elements) bs)
    else held_by ps bs
