-- Arrays that a closure which changes nothing makes, element by element, and the parities among them.
-- Assumes nothing.
use Rattle.std.proofs.Common.{◌≡◌, ◌∙◌, ℕ, zero, suc, ◌+◌, ◌%◌, ◌<◌, ◌≤◌, List, get_or, arith}
use Rattle.std.specs.Array.{IsFromFnResultFrom, IsFromFnResult}
use denote.Param.Members.{Mut, Called}
use mathlib.Core.Path.{subst}
use mathlib.Core.Logic.{⊎_elim}
use native.Mathlib.Nat.{eq-or-lt_of_le, mod-mod}
use Rattle.keccak.specs.Permutation.{parity}

module _ {F : Type 0} (g : Mut F (ℕ × Unit {0}) ℕ) (v : ℕ → ℕ) (f : F) (step : (i y : ℕ) (q : F) → Called g f (i, tt) y q → (y ≡ v i) × (q ≡ f)) where
  at_from : (ys : List ℕ) (n i k : ℕ) → IsFromFnResultFrom g f ys i n → i ≤ k → k < i + n → get_or ys k 0 ≡ v k
  at_from ys zero i k h low high = absurd (omega arith)
  at_from ys (suc n) i k (q, y, is, called, rest) low high =
      let same = step i y q called in
      ⊎_elim
      (λ e. subst (λ j. get_or ys j 0 ≡ v j) e (is.1 0 ∙ same.0))
      (λ l. at_from ys n (i + 1) k (subst (λ p. IsFromFnResultFrom g p ys (i + 1) n) same.1 rest) (omega arith) (omega arith))
      (eq-or-lt_of_le low)

  -- what `array::from_fn` makes
  pub at_from_fn : {ys : List ℕ} {n : ℕ} → IsFromFnResult g f ys n → (k : ℕ) → k < n → get_or ys k 0 ≡ v k
  at_from_fn {ys} {n} h k below = at_from ys n 0 k h.each (omega arith) (omega arith)

pub parity_mod : (a : List ℕ) (x : ℕ) → parity a (x % 5) ≡ parity a x
unfolding parity
parity_mod a x = rw (mod-mod x 5)
