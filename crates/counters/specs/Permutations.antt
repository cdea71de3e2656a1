-- How many permutations a pattern takes. From document 01, "Session steps" and "Cards". Words are those of the merged pattern, where nothing
-- else is said.
use Rattle.std.specs.Prelude.{List, ℕ, ◌+◌, ◌-◌, ◌/◌, eqb, length, get_or}
use Rattle.basics.specs.Logic.{when◌then◌else◌}
use Rattle.basics.specs.Lists.{sum}
use Rattle.words.specs.Words.{is_absorb, length_of}
use Rattle.pattern.specs.Pattern.{merged_words}

-- how many blocks of eight n elements fill or begin: ceil(n/8)
unfoldable pub block_count : ℕ → ℕ
block_count n = (n + 7) / 8

-- "Permutations for d elements done in a phase: absorb, 0 if d = 0, else ceil(d/8) − 1; squeeze, ceil(d/8)."
unfoldable pub phase_permutations : ℕ → ℕ → ℕ
phase_permutations word d = when is_absorb word then (when eqb d 0 then 0 else block_count d - 1) else block_count d

-- "Their sum over phases is the count.": of all elements of the phases before, and of those done in this one
unfoldable pub permutations_at : List ℕ → ℕ → ℕ → ℕ
permutations_at ws phase done =
    sum phase (λ k. phase_permutations (get_or ws k 0) (length_of (get_or ws k 0))) + phase_permutations (get_or ws phase 0) done

-- "permutations of a full session": at the end of the merged pattern of the words that declare it
unfoldable pub full_permutations : List ℕ → ℕ
full_permutations ws = permutations_at (merged_words ws) (length (merged_words ws)) 0
