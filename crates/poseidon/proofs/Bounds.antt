-- Every step of the permutation gives 24 reduced elements, over any modulus.
-- Assumes nothing.
use mathlib.Core.Path.{◌≡◌, subst, ◌∙◌}
use mathlib.Core.List.{List}
use Prim.Native.Nat.{ℕ, zero, suc, ◌+◌, ◌<◌}
use native.Mathlib.Nat.{mod-lt}
use native.Mathlib.Omega.{arith}
use borrow.Author.Tests.{lt-ltb}
use lib.Dec.{ltb}
use lib.ListN.{length, length-set}
use Rattle.basics.specs.Lists.{tabulate, is_below, Below}
use Rattle.basics.proofs.Below.{below_tabulate}
use Rattle.basics.proofs.Cases.{by, all_set}
use Rattle.basics.proofs.Fill.{length_tabulate}
use Rattle.poseidon.specs.Permutation.{Parameters, add_constants, raise_all, raise_first, raise, multiply, rounds, permutation}
use Rattle.poseidon.specs.Steps.{remainders}

-- 24 elements below m
pub record State (m : ℕ) (s : List ℕ) : Type 0 where
  pub long : length s ≡ 24
  pub reduced : Below m s

tabulated : (m : ℕ) (f : ℕ → ℕ) → ((i : ℕ) → f i < m) → State m (tabulate 24 f)
tabulated m f h = record { long = length_tabulate 24 f; reduced = below_tabulate m 24 f h }

pub remainders_reduced : (m : ℕ) → 0 < m → (s : List ℕ) → Below m (remainders m s)
unfolding remainders
remainders_reduced m pos s = (tabulated m _ (λ i. mod-lt _ pos)).reduced

module _ (F : Parameters) (pos : 0 < F.modulus) where
  pub added : (r : ℕ) (s : List ℕ) → State F.modulus (add_constants F r s)
  unfolding add_constants
  added r s = tabulated _ _ (λ i. mod-lt _ pos)

  raised_all : (s : List ℕ) → State F.modulus (raise_all F s)
  unfolding raise_all
  raised_all s = tabulated _ _ (λ i. mod-lt _ pos)

  raised_first : (s : List ℕ) → State F.modulus s → State F.modulus (raise_first F s)
  unfolding raise_first
  raised_first s h =
      record {
        long = length-set s 0 _ ∙ h.long;
        reduced = all_set (is_below F.modulus) s 0 _ h.reduced (lt-ltb _ _ (mod-lt _ pos));
      }

  pub raised : (r : ℕ) (s : List ℕ) → State F.modulus s → State F.modulus (raise F r s)
  unfolding raise
  raised r s h =
      by (State F.modulus) (ltb r 4) _ _ (λ e. raised_all s)
      (λ e. by (State F.modulus) (ltb r (4 + F.partial_rounds)) _ _ (λ e'. raised_first s h) (λ e'. raised_all s))

  pub multiplied : (s : List ℕ) → State F.modulus (multiply F s)
  unfolding multiply
  multiplied s = tabulated _ _ (λ i. mod-lt _ pos)

  after_rounds : (n : ℕ) (s : List ℕ) → State F.modulus s → State F.modulus (rounds F n s)
  unfolding rounds
  after_rounds zero s h = h
  after_rounds (suc n) s h = multiplied _

  -- what callers of the permutation go by: it leads from states to states
  pub permutation_state : (s : List ℕ) → State F.modulus s → State F.modulus (permutation F s)
  unfolding permutation
  permutation_state s h = after_rounds _ s h

  -- whatever goes in, reduced elements come out
  pub permutation_reduced : (s : List ℕ) → Below F.modulus (permutation F s)
  unfolding permutation rounds
  permutation_reduced s =
      let last : suc (F.partial_rounds + 7) ≡ 4 + F.partial_rounds + 4 = omega arith in
      subst (λ (n : ℕ). Below F.modulus (rounds F n s)) last (multiplied _).reduced
