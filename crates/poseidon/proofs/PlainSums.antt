-- An unreduced sum goes through the power and the matrix as the reduced one does. Over any parameters.
-- Assumes nothing.
use mathlib.Core.Path.{◌≡◌, ◌∙◌, sym, ap}
use mathlib.Core.List.{List}
use Prim.Native.Nat.{ℕ, ◌+◌, ◌*◌, ◌%◌, ◌^◌, ◌<◌}
use native.Mathlib.Omega.{arith}
use borrow.Author.Tests.{eqb-true, eqb-false}
use lib.Dec.{ltb, eqb}
use lib.ListN.{length, get_or, set, length-set}
use lib.Seq.{get_or-set_same, get_or-set_other}
use Rattle.basics.specs.Logic.{when◌then◌else◌}
use Rattle.basics.specs.Lists.{Below}
use Rattle.basics.proofs.Below.{below_at, below_tabulate}
use Rattle.basics.proofs.Cases.{cases}
use Rattle.basics.proofs.Fill.{length_tabulate, tabulate_at, tabulate_same}
use Rattle.field.proofs.Congruence.{Congruent, reflexive, remainder, mul_congruent}
use Rattle.poseidon_rounds.specs.PlainSums.{plain_sums}
use Rattle.poseidon_rounds.proofs.Congruence.{pow_congruent, sum_congruent}
use Rattle.poseidon.specs.Permutation.{Parameters, add_constants, raise_all, raise_first, raise, matrix, multiply}

module _ (F : Parameters) where
  -- 24 elements that are congruent, one by one
  pub record Alike (s t : List ℕ) : Type 0 where
    pub long : length s ≡ 24
    pub as_long : length t ≡ 24
    pub each : (k : ℕ) → k < 24 → Congruent F.modulus (get_or s k 0) (get_or t k 0)

  raised_all : (s t : List ℕ) → Alike s t → raise_all F s ≡ raise_all F t
  unfolding raise_all
  raised_all s t a = tabulate_same 24 _ _ (λ k l. (pow_congruent F.power (a.each k l)).same)

  reflexive_all : (s t : List ℕ) → s ≡ t → length s ≡ 24 → Alike s t
  reflexive_all s t e long =
      record { long = long; as_long = sym (ap length e) ∙ long; each = λ k l. record { same = ap (λ (u : List ℕ). get_or u k 0 % F.modulus) e } }

  raised_first : (s t : List ℕ) → Alike s t → Alike (raise_first F s) (raise_first F t)
  unfolding raise_first
  raised_first s t a =
      let long = a.long in
      let as_long = a.as_long in
      let x = get_or s 0 0 ^ F.power % F.modulus in
      let y = get_or t 0 0 ^ F.power % F.modulus in
      let same : x ≡ y = (pow_congruent F.power (a.each 0 (omega arith))).same in
      record {
        long = length-set s 0 x ∙ long;
        as_long = length-set t 0 y ∙ as_long;
        each = λ k l.
            cases (eqb k 0)
            (λ e.
            let z = eqb-true k 0 e in
            record {
              same = ap (λ (n : ℕ). n % F.modulus)
                  (ap (λ (j : ℕ). get_or (set s 0 x) j 0) z
                  ∙ get_or-set_same s 0 x 0 (omega arith)
                  ∙ same
                  ∙ sym (get_or-set_same t 0 y 0 (omega arith))
                  ∙ sym (ap (λ (j : ℕ). get_or (set t 0 y) j 0) z));
            })
            λ e.
            let other = eqb-false k 0 e in
            record {
              same = ap (λ (n : ℕ). n % F.modulus) (get_or-set_other s 0 k x 0 other)
                  ∙ (a.each k l).same
                  ∙ ap (λ (n : ℕ). n % F.modulus) (sym (get_or-set_other t 0 k y 0 other));
            };
      }

  all_alike : (s t : List ℕ) → Alike s t → Alike (raise_all F s) (raise_all F t)
  unfolding raise_all
  all_alike s t a = reflexive_all _ _ (raised_all s t a) (length_tabulate 24 _)

  raised : (r : ℕ) (s t : List ℕ) → Alike s t → Alike (raise F r s) (raise F r t)
  unfolding raise when◌then◌else◌
  raised r s t a =
      cases (ltb r 4)
      (λ e. rw e (all_alike s t a))
      λ e.
      cases (ltb r (4 + F.partial_rounds))
      (λ f. rw (e, f) (raised_first s t a))
      λ f. rw (e, f) (all_alike s t a)

  multiplied : (s t : List ℕ) → Alike s t → multiply F s ≡ multiply F t
  unfolding multiply
  multiplied s t a =
      tabulate_same 24 _ _ (λ i _. (sum_congruent 24 _ _ (λ j l. mul_congruent (reflexive (matrix F i j)) (a.each j l))).same)

  -- the plain sums stand for the reduced ones
  sums_alike : (r : ℕ) (s : List ℕ) → Alike (plain_sums F.constants r s) (add_constants F r s)
  unfolding plain_sums add_constants
  sums_alike r s =
      let f : ℕ → ℕ = λ i. get_or s i 0 + get_or F.constants (24 * r + i) 0 in
      record {
        long = length_tabulate 24 f;
        as_long = length_tabulate 24 (λ i. f i % F.modulus);
        each = λ k l.
            record {
              same = ap (λ (x : ℕ). x % F.modulus) (tabulate_at 24 f k l)
                  ∙ sym (remainder F.modulus (f k)).same
                  ∙ ap (λ (x : ℕ). x % F.modulus) (sym (tabulate_at 24 (λ i. f i % F.modulus) k l));
            };
      }

  -- "since the products that follow reduce anyway": a round with the plain sums is the definition's round
  pub round_of_plain_sums : (r : ℕ) (s : List ℕ) → multiply F (raise F r (plain_sums F.constants r s)) ≡ multiply F (raise F r (add_constants F r s))
  round_of_plain_sums r s = multiplied _ _ (raised r _ _ (sums_alike r s))

  -- ---- "below 2p for inputs below p"

  module _ (pos : 0 < F.modulus) where
    pub sums_below : (r : ℕ) (s : List ℕ) → Below F.modulus s → Below F.modulus F.constants → Below (2 * F.modulus) (plain_sums F.constants r s)
    unfolding plain_sums
    sums_below r s hs hc =
        below_tabulate (2 * F.modulus) 24 _ (λ i. omega (arith, below_at F.modulus pos s hs i, below_at F.modulus pos F.constants hc (24 * r + i)))
