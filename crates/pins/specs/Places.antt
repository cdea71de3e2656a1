-- Places inside a phase, of which `done` elements are done.
use Rattle.std.specs.Prelude.{◌≡◌, refl, true, false, List, [], ◌∷◌, ℕ}
use Rattle.basics.specs.Logic.{when◌then◌else◌, ◌and◌, same}
use Rattle.basics.specs.Lists.{sum}
use Rattle.words.specs.Words.{is_absorb, length_of}
use Rattle.progress.specs.Place.{in_pattern, next_place}
use Rattle.counters.specs.Permutations.{block_count, phase_permutations, permutations_at}
use Rattle.counters.specs.Positions.{in_last_block, positions_after, positions_at}

-- Of ABSORB 20, SQUEEZE 20: 17 elements absorbed are in the third block, and 2 permutations were made; with 17 squeezed there are 5 in all.
pub within_a_phase :
    let ws : List ℕ = 0x80000014 ∷ 20 ∷ [] in
    (◌≡◌ {A = ℕ} (permutations_at ws 0 17) 2)
    × (◌≡◌ {A = ℕ} (permutations_at ws 1 17) 5)
    × (positions_at ws 0 17 ≡ record { absorb = 1; squeeze = 8 })
    × (positions_at ws 1 19 ≡ record { absorb = 0; squeeze = 3 })
unfolding permutations_at phase_permutations block_count positions_at positions_after in_last_block is_absorb length_of sum when◌then◌else◌
within_a_phase = (refl, refl, refl, refl)

-- Of ABSORB 3, SQUEEZE 2: "When a phase's last element is done, the phase number (from 0) rises by one and elements done is 0."
pub places_in_turn :
    let ws : List ℕ = 0x80000003 ∷ 2 ∷ [] in
    (next_place ws 0 0 ≡ record { phase = 0; done = 1 })
    × (next_place ws 0 1 ≡ record { phase = 0; done = 2 })
    × (next_place ws 0 2 ≡ record { phase = 1; done = 0 })
    × (next_place ws 1 1 ≡ record { phase = 2; done = 0 })
unfolding next_place length_of when◌then◌else◌
places_in_turn = (refl, refl, refl, refl)

-- Of ABSORB 2147483647, the longest phase: calls up to its end lie in it, whatever their length.
pub calls_in_the_longest_phase :
    let ws : List ℕ = 0xffffffff ∷ 1 ∷ [] in
    (in_pattern ws 2 0 0 true 2147483647 ≡ true)
    × (in_pattern ws 2 0 1 true 2147483647 ≡ false)
    × (in_pattern ws 2 0 1 true 2147483646 ≡ true)
    × (in_pattern ws 2 0 0 false 1 ≡ false)
    × (in_pattern ws 2 1 0 false 1 ≡ true)
    × (in_pattern ws 2 2 0 false 1 ≡ false)
unfolding in_pattern is_absorb length_of same ◌and◌
calls_in_the_longest_phase = (refl, refl, refl, refl, refl, refl)
