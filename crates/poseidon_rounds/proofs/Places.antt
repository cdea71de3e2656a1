-- A loop that fills a list of n elements from the front, so that P holds at each place in the end.
-- Assumes nothing.
use mathlib.Core.Path.{◌≡◌, ◌∙◌, sym, ap, refl, subst}
use mathlib.Core.List.{List}
use mathlib.Core.Logic.{⊎_elim, ◌⊎◌}
use Prim.Native.Nat.{ℕ, zero, suc, ◌+◌, ◌≤◌, ◌<◌, zero-le, suc-le-suc}
use native.Mathlib.Nat.{eq-or-lt_of_le, not-suc-le-zero}
use native.Mathlib.Omega.{arith}
use lib.ListN.{length, get_or, set, length-set}
use lib.Seq.{get_or-set_same, get_or-set_other}
use Rattle.poseidon_rounds.specs.Places.{Each}

pub record Filling (n : ℕ) (P : ℕ → ℕ → Type 0) (s : List ℕ) (i : ℕ) : Type 0 where
  pub within : i ≤ n
  pub long : length s ≡ n
  pub done : (k : ℕ) → k < i → P k (get_or s k 0)

pub start : {n : ℕ} {P : ℕ → ℕ → Type 0} {s : List ℕ} → length s ≡ n → Filling n P s 0
start e = record { within = zero-le; long = e; done = λ k h. absurd (not-suc-le-zero h) }

pub step : {n : ℕ} {P : ℕ → ℕ → Type 0} {s : List ℕ} {i : ℕ} (v : ℕ) → Filling n P s i → i < n → P i v → Filling n P (set s i v) (i + 1)
step {n} {P} {s} {i} v f h p =
    let placed : (k : ℕ) → (k ≡ i) ⊎ (k < i) → P k (get_or (set s i v) k 0) =
    λ k. ⊎_elim
    (λ e. subst (λ (j : ℕ). P j (get_or (set s i v) j 0)) (sym e) (subst (P i) (sym (get_or-set_same s i v 0 (omega arith))) p))
    (λ b. subst (P k) (sym (get_or-set_other s i k v 0 (λ e. omega arith))) (f.done k b)) in
    record {
      within = omega arith;
      long = length-set s i v ∙ f.long;
      done = λ k l. placed k (eq-or-lt_of_le (omega arith));
    }

pub end : {n : ℕ} {P : ℕ → ℕ → Type 0} {s : List ℕ} {i : ℕ} → Filling n P s i → n ≤ i → Each n P s
end {n} {P} {s} {i} f h = record { long = f.long; each = λ k l. f.done k (omega arith) }

-- a place is the one that was stored to, or another
pub either : (i k : ℕ) {Q : Type 0} → (k ≡ i → Q) → (k < i → Q) → (i < k → Q) → Q
either zero zero same less more = same refl
either zero (suc k) same less more = more (suc-le-suc zero-le)
either (suc i) zero same less more = less (suc-le-suc zero-le)
either (suc i) (suc k) same less more = either i k (λ e. same (ap suc e)) (λ h. less (suc-le-suc h)) (λ h. more (suc-le-suc h))
