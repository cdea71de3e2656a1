-- The positions and permutations that document 01 fixes for a place, with one element more.
-- Assumes nothing.
use mathlib.Core.Path.{◌≡◌, refl, ◌∙◌}
use mathlib.Core.Bool.{true, false}
use mathlib.Core.Logic.{◌≢◌}
use mathlib.Core.List.{List}
use Prim.Native.Nat.{ℕ, zero, suc, ◌+◌, ◌-◌, ◌/◌}
use native.Mathlib.Omega.{arith}
use borrow.Author.Tests.{eqb-true, eqb-false}
use lib.ListN.{get_or}
use Rattle.basics.proofs.Cases.{by, if_true, if_false}
use Rattle.words.specs.Words.{is_absorb, length_of}
use Rattle.counters.specs.Permutations.{block_count, phase_permutations}
use Rattle.basics.specs.Figures.{rate}
use Rattle.counters.specs.Positions.{in_last_block, positions_after, positions_at}

-- the position that a phase moves, with d of its elements done: 0 where an ABSORB phase begins, 8 where a SQUEEZE phase does
unfoldable pub position : ℕ → ℕ → ℕ
position first zero = first
position first (suc d) = in_last_block (suc d)

absorb_permutations : (word d : ℕ) → is_absorb word ≡ true → phase_permutations word d ≡ (d - 1) / 8
unfolding phase_permutations block_count
absorb_permutations word d e =
    if_true _ _ _ e ∙ by (λ (n : ℕ). n ≡ (d - 1) / 8) _ _ _ (λ z. omega (arith, eqb-true d 0 z)) λ z. omega (arith, eqb-false d 0 z)

squeeze_permutations : (word d : ℕ) → is_absorb word ≡ false → phase_permutations word d ≡ (d + 7) / 8
unfolding phase_permutations block_count
squeeze_permutations word d e = if_false _ _ _ e

pub no_permutations : (word : ℕ) → phase_permutations word 0 ≡ 0
unfolding phase_permutations block_count
no_permutations word = by (λ (n : ℕ). n ≡ 0) _ _ _ (λ _. if_true _ _ _ refl) λ _. refl

-- what the element d + 1 of a phase does, where the position before it was so: the position after it, and the permutations
pub record Next (word d before permutations : ℕ) : Type 0 where
  pub after : before + 1 ≡ in_last_block (suc d)
  pub counted : phase_permutations word (suc d) ≡ phase_permutations word d + permutations

module _ (word : ℕ) (e : is_absorb word ≡ true) where
  pub absorb_full : (d : ℕ) → position 0 d ≡ rate → Next word d 0 1
  unfolding position in_last_block
  absorb_full zero q = absurd (omega arith)
  absorb_full (suc d) q =
      let now = absorb_permutations word (suc d) e in
      let later = absorb_permutations word (suc (suc d)) e in
      record { after = omega arith; counted = omega arith }

  pub absorb_room : (d : ℕ) → position 0 d ≢ rate → Next word d (position 0 d) 0
  unfolding position in_last_block
  absorb_room zero q = record { after = refl; counted = omega (arith, absorb_permutations word 0 e, absorb_permutations word 1 e) }
  absorb_room (suc d) q =
      let now = absorb_permutations word (suc d) e in
      let later = absorb_permutations word (suc (suc d)) e in
      record { after = omega arith; counted = omega arith }

module _ (word : ℕ) (e : is_absorb word ≡ false) where
  pub squeeze_full : (d : ℕ) → position rate d ≡ rate → Next word d 0 1
  unfolding position in_last_block
  squeeze_full zero q = record { after = refl; counted = omega (arith, squeeze_permutations word 0 e, squeeze_permutations word 1 e) }
  squeeze_full (suc d) q =
      let now = squeeze_permutations word (suc d) e in
      let later = squeeze_permutations word (suc (suc d)) e in
      record { after = omega arith; counted = omega arith }

  pub squeeze_room : (d : ℕ) → position rate d ≢ rate → Next word d (position rate d) 0
  unfolding position in_last_block
  squeeze_room zero q = absurd (q refl)
  squeeze_room (suc d) q =
      let now = squeeze_permutations word (suc d) e in
      let later = squeeze_permutations word (suc (suc d)) e in
      record { after = omega arith; counted = omega arith }

-- ---- the positions of a sound record

pub positions_absorb : (word d : ℕ) → is_absorb word ≡ true → positions_after word d ≡ record { absorb = in_last_block d; squeeze = rate }
unfolding positions_after
positions_absorb word d e = if_true _ _ _ e

pub positions_squeeze : (word d : ℕ) → is_absorb word ≡ false → positions_after word d ≡ record { absorb = 0; squeeze = in_last_block d }
unfolding positions_after
positions_squeeze word d e = if_false _ _ _ e

-- in an ABSORB phase
pub absorb_position : (ws : List ℕ) (k d : ℕ) → is_absorb (get_or ws k 0) ≡ true → ((j : ℕ) → k ≡ suc j → is_absorb (get_or ws j 0) ≡ false)
    → (positions_at ws k d).absorb ≡ position 0 d
unfolding positions_at position
absorb_position ws zero zero e f = refl
absorb_position ws (suc k) zero e f = rw (positions_squeeze (get_or ws k 0) (length_of (get_or ws k 0)) (f k refl))
absorb_position ws zero (suc d) e f = rw (positions_absorb (get_or ws 0 0) (suc d) e)
absorb_position ws (suc k) (suc d) e f = rw (positions_absorb (get_or ws (suc k) 0) (suc d) e)

-- in a SQUEEZE phase, which is never the first
pub squeeze_position : (ws : List ℕ) (k d : ℕ) → is_absorb (get_or ws (suc k) 0) ≡ false → is_absorb (get_or ws k 0) ≡ true
    → (positions_at ws (suc k) d).squeeze ≡ position rate d
unfolding positions_at position
squeeze_position ws k zero e f = rw (positions_absorb (get_or ws k 0) (length_of (get_or ws k 0)) f)
squeeze_position ws k (suc d) e f = rw (positions_squeeze (get_or ws (suc k) 0) (suc d) e)

pub squeeze_keeps_absorb : (ws : List ℕ) (k d : ℕ) → is_absorb (get_or ws k 0) ≡ false → position rate d ≢ rate → (positions_at ws k d).absorb ≡ 0
unfolding positions_at position
squeeze_keeps_absorb ws k zero e q = absurd (q refl)
squeeze_keeps_absorb ws k (suc d) e q = rw (positions_squeeze (get_or ws k 0) (suc d) e)
