-- A loop that writes a list over another one of its length, from the front.
-- Assumes nothing.
use mathlib.Core.Path.{◌≡◌, refl, sym, ap, ap₂, ◌∙◌}
use mathlib.Core.List.{List, [], ◌∷◌, ◌++◌, zip_with, append-nil}
use Prim.Native.Nat.{ℕ, zero, suc, ◌+◌, ◌≤◌, ◌<◌, zero-le}
use native.Mathlib.Nat.{suc_inj, not-suc-le-zero, le_of_suc-le-suc}
use native.Mathlib.Numerals.{add-one}
use native.Mathlib.Omega.{arith}
use lib.ListN.{length, get_or, take, drop, set, length-set, drop_of_length-le}
use lib.Seq.{length-take-le, take_all, take-suc, drop-cons, append_snoc, get_or_at, set_at}

-- the first i places hold those of s
pub record Over (entry s : List ℕ) (i : ℕ) (out : List ℕ) : Type 0 where
  pub within : i ≤ length entry
  pub fits : length s ≡ length entry
  pub long : length out ≡ length entry
  pub is : out ≡ take i s ++ drop i entry

pub over_begin : (entry s : List ℕ) → length s ≡ length entry → Over entry s 0 entry
over_begin entry s e = record { within = zero-le; fits = e; long = refl; is = refl }

module _ {entry s out : List ℕ} {i : ℕ} (k : Over entry s i out) where
  pub over_end : length entry ≤ i → out ≡ s
  over_end h =
      k.is
      ∙ ap₂ (λ (a b : List ℕ). a ++ b) (take_all i s (omega (arith, k.fits))) (drop_of_length-le entry h)
      ∙ append-nil s

  module _ (h : i < length entry) where
    -- the place that is written next is as it was
    pub over_at : get_or out i 0 ≡ get_or entry i 0
    over_at =
        ap (λ (l : List ℕ). get_or l i 0) k.is
        ∙ ap (λ (l : List ℕ). get_or (take i s ++ l) i 0) (drop-cons entry i 0 h)
        ∙ get_or_at (take i s) (get_or entry i 0) (drop (suc i) entry) 0 i (length-take-le i s (omega (arith, k.fits)))

    pub over_step : (v : ℕ) → v ≡ get_or s i 0 → Over entry s (i + 1) (set out i v)
    over_step v e =
        record {
          within = omega arith;
          fits = k.fits;
          long = length-set out i v ∙ k.long;
          is = rw add-one
              (ap₂ (λ (l : List ℕ) (x : ℕ). set l i x) k.is e
              ∙ ap (λ (l : List ℕ). set (take i s ++ l) i (get_or s i 0)) (drop-cons entry i 0 h)
              ∙ set_at (take i s) (get_or entry i 0) (drop (suc i) entry) (get_or s i 0) i (length-take-le i s (omega (arith, k.fits)))
              ∙ sym (append_snoc (take i s) (get_or s i 0) (drop (suc i) entry))
              ∙ ap (λ (l : List ℕ). l ++ drop (suc i) entry) (sym (take-suc s i 0 (omega (arith, k.fits)))));
        }

-- ---- lists taken together, element by element

module _ (f : ℕ → ℕ → ℕ) where
  pub zip_length : (xs ys : List ℕ) → length xs ≡ length ys → length (zip_with f xs ys) ≡ length ys
  unfolding zip_with
  zip_length [] [] e = refl
  zip_length [] (y ∷ ys) e = absurd (omega arith)
  zip_length (x ∷ xs) [] e = absurd (omega arith)
  zip_length (x ∷ xs) (y ∷ ys) e = ap suc (zip_length xs ys (suc_inj e))

  pub zip_at : (xs ys : List ℕ) → length xs ≡ length ys → (i : ℕ) → i < length ys → get_or (zip_with f xs ys) i 0 ≡ f (get_or xs i 0) (get_or ys i 0)
  unfolding zip_with
  zip_at [] [] e i h = absurd (not-suc-le-zero h)
  zip_at [] (y ∷ ys) e i h = absurd (omega arith)
  zip_at (x ∷ xs) [] e i h = absurd (omega arith)
  zip_at (x ∷ xs) (y ∷ ys) e zero h = refl
  zip_at (x ∷ xs) (y ∷ ys) e (suc i) h = zip_at xs ys (suc_inj e) i (le_of_suc-le-suc h)
