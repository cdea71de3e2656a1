-- A round goes by the remainders of the state's elements alone, so that the permutation of a state is that of its remainders. Over any parameters.
-- Assumes nothing.
use mathlib.Core.Path.{◌≡◌, ◌∙◌, ap, subst}
use mathlib.Core.List.{List}
use Prim.Native.Nat.{ℕ, zero, suc, ◌+◌, ◌*◌, ◌%◌, ◌<◌}
use native.Mathlib.Nat.{mod-mod}
use native.Mathlib.Omega.{arith}
use lib.ListN.{get_or}
use Rattle.basics.proofs.Fill.{tabulate_at, tabulate_same}
use Rattle.field.proofs.Congruence.{Congruent, reflexive, add_congruent}
use Rattle.poseidon.specs.Permutation.{Parameters, add_constants, raise, multiply, round, rounds, permutation}
use Rattle.poseidon.specs.Steps.{remainders}

-- states that are congruent element by element have equal rounds
pub round_congruent : (F : Parameters) (r : ℕ) (s t : List ℕ)
    → ((k : ℕ) → k < 24 → Congruent F.modulus (get_or s k 0) (get_or t k 0)) → round F r s ≡ round F r t
unfolding add_constants
round_congruent F r s t h =
    ap (λ (u : List ℕ). multiply F (raise F r u))
    (tabulate_same 24 _ _ (λ k l. (add_congruent (h k l) (reflexive (get_or F.constants (24 * r + k) 0))).same))

module _ (F : Parameters) (s : List ℕ) where
  congruent : (k : ℕ) → k < 24 → Congruent F.modulus (get_or (remainders F.modulus s) k 0) (get_or s k 0)
  unfolding remainders
  congruent k l = record { same = ap (λ (x : ℕ). x % F.modulus) (tabulate_at 24 (λ k. get_or s k 0 % F.modulus) k l) ∙ mod-mod (get_or s k 0) F.modulus }

  -- one round at least
  rounds_remainders : (n : ℕ) → rounds F (suc n) (remainders F.modulus s) ≡ rounds F (suc n) s
  unfolding rounds
  rounds_remainders zero = round_congruent F 0 _ s congruent
  rounds_remainders (suc n) = ap (round F (suc n)) (rounds_remainders n)

  pub permutation_of_remainders : permutation F (remainders F.modulus s) ≡ permutation F s
  unfolding permutation
  permutation_of_remainders =
      let last : suc (F.partial_rounds + 7) ≡ 4 + F.partial_rounds + 4 = omega arith in
      subst (λ (n : ℕ). rounds F n (remainders F.modulus s) ≡ rounds F n s) last (rounds_remainders _)
