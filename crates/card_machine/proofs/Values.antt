-- The values of digits.
-- Assumes nothing.
use mathlib.Core.Path.{◌≡◌}
use mathlib.Core.Bool.{false}
use Prim.Native.Nat.{ℕ, ◌+◌, ◌-◌, ◌≤◌, ◌<◌}
use borrow.Author.Tests.{ltb-true, ltb-false, leb-true, le-ltb, le-leb, lt-leb}
use lib.Dec.{leb, ltb}
use native.Mathlib.Omega.{arith}
use Rattle.basics.specs.Logic.{when◌then◌else◌}
use Rattle.basics.proofs.Cases.{cases}
use Rattle.card_grammar.specs.Machine.{hex_value, decimal_value}

module _ (b : ℕ) where
  pub hex_decimal : 48 ≤ b → b ≤ 57 → hex_value b ≡ b - 48
  unfolding hex_value when◌then◌else◌
  hex_decimal h l = simp (le-ltb b 48 h, le-leb b 57 l)

  pub hex_letter : 97 ≤ b → b ≤ 102 → hex_value b ≡ b - 97 + 10
  unfolding hex_value when◌then◌else◌
  hex_letter h l = simp (le-ltb b 48 (omega arith), lt-leb b 57 (omega arith), le-ltb b 97 h, le-leb b 102 l)

  pub hex_none : (48 ≤ b → b ≤ 57 → ⊥) → (97 ≤ b → b ≤ 102 → ⊥) → hex_value b ≡ 16
  unfolding hex_value when◌then◌else◌
  hex_none d l =
      cases (ltb b 48)
      (λ e. simp e)
      (λ e. cases (leb b 57)
      (λ f. absurd (d (ltb-false b 48 e) (leb-true b 57 f)))
      (λ f. cases (ltb b 97)
      (λ g. simp (e, f, g))
      (λ g. cases (leb b 102)
      (λ k. absurd (l (ltb-false b 97 g) (leb-true b 102 k)))
      (λ k. simp (e, f, g, k)))))

  pub decimal_digit : 48 ≤ b → b ≤ 57 → decimal_value b ≡ b - 48
  unfolding decimal_value when◌then◌else◌
  decimal_digit h l = simp (le-ltb b 48 h, le-leb b 57 l)

  pub decimal_none : (48 ≤ b → b ≤ 57 → ⊥) → decimal_value b ≡ 10
  unfolding decimal_value when◌then◌else◌
  decimal_none d =
      cases (ltb b 48)
      (λ e. simp e)
      (λ e. cases (leb b 57)
      (λ f. absurd (d (ltb-false b 48 e) (leb-true b 57 f)))
      (λ f. simp (e, f)))

-- a sum that does not fit is not below the bound
pub not_below : (a b : ℕ) → (a < b → ⊥) → ltb a b ≡ false
not_below a b h = cases (ltb a b) (λ e. absurd (h (ltb-true a b e))) (λ e. e)
