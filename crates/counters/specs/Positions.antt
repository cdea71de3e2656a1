-- The positions that the steps give at a place of a pattern. From document 01, "Session steps". Words are those of the merged pattern.
use Rattle.std.specs.Prelude.{List, ℕ, zero, suc, ◌+◌, ◌%◌, get_or}
use Rattle.basics.specs.Logic.{when◌then◌else◌}
use Rattle.basics.specs.Figures.{rate}
use Rattle.words.specs.Words.{is_absorb, length_of}
use Rattle.counters.specs.declared.positions.Positions.{Positions}

-- how many elements the last of the blocks of n elements has, n at least 1: 1 to 8. Of 0 elements, which no sound
-- pattern has, it gives 8.
unfoldable pub in_last_block : ℕ → ℕ
in_last_block n = (n + 7) % rate + 1

-- the positions that the element d of a phase leaves, counted from 1: an ABSORB sets the squeeze position to 8, and since a SQUEEZE phase
-- begins with a permutation, the absorb position is 0 from its first element on
unfoldable pub positions_after : ℕ → ℕ → Positions
positions_after word d =
    when is_absorb word then record { absorb = in_last_block d; squeeze = rate } else record { absorb = 0; squeeze = in_last_block d }

-- the positions at a place: what the last element done left, of this phase or of the one before, and 0 at the start
unfoldable pub positions_at : List ℕ → ℕ → ℕ → Positions
positions_at ws phase (suc d) = positions_after (get_or ws phase 0) (suc d)
positions_at ws (suc k) zero = positions_after (get_or ws k 0) (length_of (get_or ws k 0))
positions_at ws zero zero = record { absorb = 0; squeeze = 0 }
