-- How large counts and positions can be, so that code can hold them.
-- Assumes nothing.
use mathlib.Core.Path.{◌≡◌, refl}
use mathlib.Core.Logic.{◌≢◌}
use mathlib.Core.List.{List}
use Prim.Native.Nat.{ℕ, zero, suc, ◌-◌, ◌*◌, ◌≤◌, ◌<◌}
use native.Mathlib.Omega.{arith}
use lib.ListN.{get_or}
use Rattle.basics.specs.Figures.{rate}
use Rattle.basics.proofs.Cases.{by}
use Rattle.words.specs.Words.{length_of}
use Rattle.counters.specs.Permutations.{permutations_at}
use Rattle.counters.specs.Positions.{in_last_block, positions_after, positions_at}
use Rattle.counters.specs.declared.positions.Positions.{Positions}
use Rattle.counters.proofs.PermutationCounts.{phase_bound, sum_bound}

pub count_bound : (ws : List ℕ) (phase done : ℕ) → phase ≤ 64 → done < 2147483648 → permutations_at ws phase done ≤ 268435456 * 65
unfolding permutations_at
count_bound ws phase done h l = omega (arith, sum_bound ws phase, phase_bound (get_or ws phase 0) done)

-- positions are at most 8
pub record AtMostRate (at : Positions) : Type 0 where
  pub absorbs : at.absorb ≤ rate
  pub squeezes : at.squeeze ≤ rate

last_block_bound : (n : ℕ) → in_last_block n ≤ rate
unfolding in_last_block
last_block_bound n = omega arith

after_bound : (word d : ℕ) → AtMostRate (positions_after word d)
unfolding positions_after
after_bound word d =
    let last = last_block_bound d in
    by AtMostRate _ _ _ (λ _. record { absorbs = last; squeezes = omega arith }) λ _. record { absorbs = omega arith; squeezes = last }

pub positions_bound : (ws : List ℕ) (phase done : ℕ) → AtMostRate (positions_at ws phase done)
unfolding positions_at
positions_bound ws phase (suc d) = after_bound _ _
positions_bound ws (suc k) zero = after_bound _ _
positions_bound ws zero zero = record { absorbs = omega arith; squeezes = omega arith }

-- the positions at a place, case by case
pub inside_phase : (ws : List ℕ) (phase done : ℕ) → 0 < done → positions_at ws phase done ≡ positions_after (get_or ws phase 0) done
unfolding positions_at
inside_phase ws phase zero h = absurd (omega arith)
inside_phase ws phase (suc d) h = refl

pub at_start : (ws : List ℕ) (phase done : ℕ) → phase ≡ 0 → done ≡ 0 → positions_at ws phase done ≡ record { absorb = 0; squeeze = 0 }
unfolding positions_at
at_start ws phase done e z = rw (e, z) refl

pub between_phases : (ws : List ℕ) (phase done : ℕ) → phase ≢ 0 → done ≡ 0
    → positions_at ws phase done ≡ positions_after (get_or ws (phase - 1) 0) (length_of (get_or ws (phase - 1) 0))
unfolding positions_at
between_phases ws zero done n z = absurd (n refl)
between_phases ws (suc k) done n z = let e : suc k - 1 ≡ k = omega arith in rw (z, e) refl
