-- Laws of the generator's lists of bits, candidates and constants: what one step of the code takes off the front
-- of each.
-- Assumes nothing.
use mathlib.Core.Path.{◌≡◌, ◌∙◌, refl, sym, ap}
use mathlib.Core.List.{List, [], ◌∷◌, ◌++◌}
use Prim.Native.Nat.{ℕ, zero, suc, ◌+◌, ◌-◌, ◌/◌, ◌≤◌, ◌<◌}
use native.Mathlib.Nat.{div-eq_of_lt, mod-lt}
use native.Mathlib.Omega.{arith}
use borrow.Author.Tests.{lt-ltb, le-ltb, eq-eqb, ne_eqb}
use lib.Dec.{lit<, eqb, ltb}
use lib.ListN.{length, take, drop, set, length-append}
use lib.Seq.{set_at, drop-drop, drop_at, take_at}
use Rattle.basics.specs.Digits.{number}
use Rattle.basics.proofs.Cases.{if_true, if_false}
use Rattle.generator.specs.Generator.{next_bit, shifted, new_bits, output_bits, first_candidates, candidates, kept}

-- ---- the register and its new bits

pub bit_bound : (r : List ℕ) → next_bit r < 2
unfolding next_bit
bit_bound r = mod-lt _ (lit< tt)

-- the register turned by one place, with a bit in the place of the oldest
pub shift_in : (r : List ℕ) (bit : ℕ) → length r ≡ 80 → set (drop 1 r ++ take 1 r) 79 bit ≡ drop 1 r ++ (bit ∷ [])
shift_in [] bit long = absurd (omega arith)
shift_in (x ∷ r) bit long = set_at r x [] bit 79 (omega arith)

drop_first : (n : ℕ) (r : List ℕ) → drop 1 (new_bits n r) ≡ new_bits (n - 1) (shifted r)
unfolding new_bits
drop_first zero r = refl
drop_first (suc n) r = let e : suc n - 1 ≡ n = omega arith in rw e

-- one new bit more is dropped, if there is one
pub drop_next : (first r : List ℕ) (i n : ℕ) → drop i (new_bits n first) ≡ new_bits (n - i) r → drop (i + 1) (new_bits n first) ≡ new_bits (n - (i + 1)) (shifted r)
drop_next first r i n e =
    let less : n - i - 1 ≡ n - (i + 1) = omega arith in
    sym (drop-drop 1 i (new_bits n first)) ∙ ap (drop 1) e ∙ drop_first (n - i) r ∙ ap (λ (k : ℕ). new_bits k (shifted r)) less

-- ---- output bits

-- two new bits
pub pair : (n : ℕ) (r : List ℕ) → 2 ≤ n → new_bits n r ≡ next_bit r ∷ next_bit (shifted r) ∷ new_bits (n - 2) (shifted (shifted r))
unfolding new_bits
pair zero r h = absurd (omega arith)
pair (suc zero) r h = absurd (omega arith)
pair (suc (suc n)) r h = let e : suc (suc n) - 2 ≡ n = omega arith in rw e

module _ (n : ℕ) (r : List ℕ) {first second : ℕ} (e₁ : first ≡ next_bit r) (e₂ : second ≡ next_bit (shifted r)) (enough : 2 ≤ n) where
  pub output_some : first ≡ 1 → output_bits (new_bits n r) ≡ second ∷ output_bits (new_bits (n - 2) (shifted (shifted r)))
  unfolding output_bits
  output_some e =
      rw (e₂, pair n r enough, if_true (eqb (next_bit r) 1) (next_bit (shifted r) ∷ []) [] (eq-eqb _ _ (sym e₁ ∙ e)))

  pub output_skip : (first ≡ 1 → ⊥) → output_bits (new_bits n r) ≡ output_bits (new_bits (n - 2) (shifted (shifted r)))
  unfolding output_bits
  output_skip e =
      rw (pair n r enough, if_false (eqb (next_bit r) 1) (next_bit (shifted r) ∷ []) [] (ne_eqb _ _ (λ (h : next_bit r ≡ 1). e (e₁ ∙ h))))

pub output_none : (n : ℕ) (r : List ℕ) → n < 2 → output_bits (new_bits n r) ≡ []
unfolding new_bits output_bits
output_none zero r h = refl
output_none (suc zero) r h = refl
output_none (suc (suc n)) r h = absurd (omega arith)

-- ---- candidates

-- 31 bits make a candidate
pub candidate_whole : (word rest : List ℕ) → length word ≡ 31 → candidates (word ++ rest) ≡ number 2 word ∷ candidates rest
unfolding candidates first_candidates
candidate_whole word rest e =
    let size : length (word ++ rest) / 31 ≡ suc (length rest / 31) = rw (length-append word rest, e) (omega arith) in
    rw (size, take_at word rest 31 e, drop_at word rest 31 e)

-- fewer make none
pub candidate_part : (word : List ℕ) → length word < 31 → candidates word ≡ []
unfolding candidates first_candidates
candidate_part word h = rw (div-eq_of_lt h)

-- ---- constants

-- a candidate below the modulus is kept
pub kept_below : (modulus candidate : ℕ) (rest : List ℕ) → candidate < modulus → kept modulus (candidate ∷ rest) ≡ candidate ∷ kept modulus rest
unfolding kept
kept_below modulus candidate rest h = rw (if_true (ltb candidate modulus) (candidate ∷ []) [] (lt-ltb _ _ h))

-- any other is dropped
pub skip : (modulus candidate : ℕ) (rest : List ℕ) → modulus ≤ candidate → kept modulus (candidate ∷ rest) ≡ kept modulus rest
unfolding kept
skip modulus candidate rest h = rw (if_false (ltb candidate modulus) (candidate ∷ []) [] (le-ltb _ _ h))
