-- The place in a pattern: a phase number, from 0, and how many elements of that phase are done. From document 01, "Session steps".
-- Words are those of the merged pattern, of which so many are used.
use Rattle.std.specs.Prelude.{Bool, List, ℕ, suc, ◌+◌, leb, ltb, eqb, get_or}
use Rattle.basics.specs.Logic.{when◌then◌else◌, ◌and◌, same}
use Rattle.words.specs.Words.{is_absorb, length_of}
use Rattle.progress.specs.declared.place.Place.{Place}

-- how many elements a phase has
abbrev pub phase_length : List ℕ → ℕ → ℕ
phase_length ws phase = length_of (get_or ws phase 0)

-- "the phase number is at most the word count; elements done are below the phase's length, or 0 after the last phase"
unfoldable pub sound_place : List ℕ → ℕ → ℕ → ℕ → Bool
sound_place ws count phase done =
    leb phase count and (when ltb phase count then ltb done (phase_length ws phase) else eqb done 0)

-- the opposite of "wrong kind, past the phase's end, or after the last phase": n elements of a kind lie in the phase
unfoldable pub in_pattern : List ℕ → ℕ → ℕ → ℕ → Bool → ℕ → Bool
in_pattern ws count phase done absorbs n =
    ltb phase count and same absorbs (is_absorb (get_or ws phase 0)) and leb (done + n) (phase_length ws phase)

-- the place after one element more: "When a phase's last element is done, the phase number (from 0) rises by one and elements done is 0."
unfoldable pub next_place : List ℕ → ℕ → ℕ → Place
next_place ws phase done =
    when eqb (suc done) (phase_length ws phase) then record { phase = suc phase; done = 0 } else record { phase = phase; done = suc done }

-- the place after n elements more of the phase, of which no more are done than it has left
unfoldable pub place_after : List ℕ → ℕ → ℕ → ℕ → ℕ → Place
place_after ws count phase done n =
    when ltb phase count and ltb done (phase_length ws phase)
    then (when ltb (done + n) (phase_length ws phase) then record { phase = phase; done = done + n } else record { phase = suc phase; done = 0 })
    else record { phase = phase; done = done }
