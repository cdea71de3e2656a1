-- The definition's rounds, element by element and with no remainder taken.
-- Assumes nothing.
use mathlib.Core.Path.{◌≡◌, ◌∙◌, sym, ap, refl, subst}
use mathlib.Core.List.{List, [], ◌∷◌}
use Prim.Native.Nat.{ℕ, zero, suc, ◌+◌, ◌*◌, ◌%◌, ◌^◌, ◌<◌, ◌≤◌, zero-le, suc-le-suc}
use native.Mathlib.Nat.{add-suc, add-zero, mod-lt}
use native.Mathlib.Omega.{arith}
use borrow.Author.Tests.{lt-ltb, le-ltb}
use lib.ListN.{length, get_or, set}
use lib.Seq.{get_or-set_same}
use Rattle.basics.specs.Logic.{when◌then◌else◌}
use Rattle.basics.specs.Lists.{sum}
use Rattle.basics.proofs.Fill.{tabulate_at, length_tabulate}
use Rattle.poseidon.specs.Permutation.{Parameters, matrix, multiply, raise, raise_all, raise_first, add_constants, round, rounds, permutation}
use Rattle.poseidon.specs.Steps.{instance, full_round, full_rounds, rounds_from}
use Rattle.field.proofs.Congruence.{Congruent, reflexive, transitive, remainder, add_congruent, mul_congruent}
use Rattle.poseidon_rounds.specs.Instance as any
use Rattle.poseidon_rounds.proofs.Congruence.{sum_congruent, pow_congruent}
use Rattle.poseidon_rounds.proofs.Linear.{sum_first}

-- constant i of round r
abbrev constant : Parameters → ℕ → ℕ → ℕ
constant F r i = get_or F.constants (24 * r + i) 0

module _ (F : Parameters) where
  abbrev Is : ℕ → ℕ → Type 0
  Is a b = Congruent F.modulus a b

  added_at : (r : ℕ) (z : List ℕ) (i : ℕ) → i < 24 → Is (get_or (add_constants F r z) i 0) (get_or z i 0 + constant F r i)
  unfolding add_constants
  added_at r z i h =
      rw (tabulate_at 24 (λ j. (get_or z j 0 + get_or F.constants (24 * r + j) 0) % F.modulus) i h) (remainder F.modulus (get_or z i 0 + constant F r i))

  added_long : (r : ℕ) (z : List ℕ) → length (add_constants F r z) ≡ 24
  unfolding add_constants
  added_long r z = length_tabulate 24 (λ i. (get_or z i 0 + get_or F.constants (24 * r + i) 0) % F.modulus)

  multiplied_at : (w : List ℕ) (i : ℕ) → i < 24 → Is (get_or (multiply F w) i 0) (sum 24 (λ j. matrix F i j * get_or w j 0))
  unfolding multiply
  multiplied_at w i h =
      rw (tabulate_at 24 (λ k. sum 24 (λ j. matrix F k j * get_or w j 0) % F.modulus) i h) (remainder F.modulus (sum 24 (λ j. matrix F i j * get_or w j 0)))

  raised_at : (w : List ℕ) (i : ℕ) → i < 24 → Is (get_or (raise_all F w) i 0) (get_or w i 0 ^ F.power)
  unfolding raise_all
  raised_at w i h =
      rw (tabulate_at 24 (λ k. get_or w k 0 ^ F.power % F.modulus) i h) (remainder F.modulus (get_or w i 0 ^ F.power))

  full_at : (r : ℕ) (z : List ℕ) (i : ℕ) → i < 24
      → Is (get_or (full_round F r z) i 0) (sum 24 (λ j. matrix F i j * (get_or z j 0 + constant F r j) ^ F.power))
  full_at r z i h =
      transitive (multiplied_at (raise_all F (add_constants F r z)) i h)
      (sum_congruent 24 (λ j. matrix F i j * get_or (raise_all F (add_constants F r z)) j 0) (λ j. matrix F i j * (get_or z j 0 + constant F r j) ^ F.power)
      (λ j l.
      mul_congruent (reflexive (matrix F i j)) (transitive (raised_at (add_constants F r z) j l) (pow_congruent F.power (added_at r z j l)))))

  raise_partial : (s : ℕ) (w : List ℕ) → s < F.partial_rounds → raise F (4 + s) w ≡ raise_first F w
  unfolding raise when◌then◌else◌
  raise_partial s w h = simp (le-ltb (4 + s) 4 (omega arith), lt-ltb (4 + s) (4 + F.partial_rounds) (omega arith))

  raise_early : (r : ℕ) (w : List ℕ) → r < 4 → raise F r w ≡ raise_all F w
  unfolding raise when◌then◌else◌
  raise_early r w h = simp (lt-ltb r 4 h)

  raise_late : (r : ℕ) (w : List ℕ) → 4 + F.partial_rounds ≤ r → raise F r w ≡ raise_all F w
  unfolding raise when◌then◌else◌
  raise_late r w h = simp (le-ltb r 4 (omega arith), le-ltb r (4 + F.partial_rounds) h)

  partial_at : (s : ℕ) (z : List ℕ) (i : ℕ) → s < F.partial_rounds → i < 24
      → Is (get_or (round F (4 + s) z) i 0)
      (matrix F i 0 * (get_or z 0 0 + constant F (4 + s) 0) ^ F.power + sum 23 (λ j. matrix F i (suc j) * (get_or z (suc j) 0 + constant F (4 + s) (suc j))))
  unfolding raise_first
  partial_at s z i hs h =
      let r : ℕ = 4 + s in
      let a : List ℕ = add_constants F r z in
      let v : ℕ = get_or a 0 0 ^ F.power % F.modulus in
      let e : round F r z ≡ multiply F (set a 0 v) = ap (multiply F) (raise_partial s a hs) in
      let l : 0 < length a = omega (arith, added_long r z) in
      let first : Is (matrix F i 0 * get_or (set a 0 v) 0 0) (matrix F i 0 * (get_or z 0 0 + constant F r 0) ^ F.power) =
      mul_congruent (reflexive (matrix F i 0))
      (rw (get_or-set_same a 0 v 0 l) (transitive (remainder F.modulus (get_or a 0 0 ^ F.power)) (pow_congruent F.power (added_at r z 0 (suc-le-suc zero-le))))) in
      let rest : (j : ℕ) → j < 23 → Is (matrix F i (suc j) * get_or (set a 0 v) (suc j) 0) (matrix F i (suc j) * (get_or z (suc j) 0 + constant F r (suc j))) =
      λ j hj. mul_congruent (reflexive (matrix F i (suc j)))
      (subst (λ (x : ℕ). Is x (get_or z (suc j) 0 + constant F r (suc j))) (sym (other a v j)) (added_at r z (suc j) (suc-le-suc hj))) in
      subst (λ (l : List ℕ). Is (get_or l i 0) (matrix F i 0 * (get_or z 0 0 + constant F r 0) ^ F.power + sum 23 (λ j. matrix F i (suc j) * (get_or z (suc j) 0 + constant F r (suc j))))) (sym e)
      (transitive (multiplied_at (set a 0 v) i h)
      (subst (λ (x : ℕ). Is x (matrix F i 0 * (get_or z 0 0 + constant F r 0) ^ F.power + sum 23 (λ j. matrix F i (suc j) * (get_or z (suc j) 0 + constant F r (suc j)))))
      (sym (sum_first 23 (λ j. matrix F i j * get_or (set a 0 v) j 0)))
      (add_congruent first (sum_congruent 23 (λ j. matrix F i (suc j) * get_or (set a 0 v) (suc j) 0) (λ j. matrix F i (suc j) * (get_or z (suc j) 0 + constant F r (suc j))) rest))))
    where
      other : (a : List ℕ) (v j : ℕ) → get_or (set a 0 v) (suc j) 0 ≡ get_or a (suc j) 0
      other [] v j = refl
      other (x ∷ a) v j = refl

  -- full rounds are the definition's rounds, before and after the partial ones
  early_rounds : (r n : ℕ) (z : List ℕ) → r + n ≤ 4 → rounds_from F r n z ≡ full_rounds F r n z
  unfolding rounds_from full_rounds
  early_rounds r zero z h = refl
  early_rounds r (suc n) z h =
      ap (λ (l : List ℕ). multiply F l) (raise_early (r + n) (add_constants F (r + n) (rounds_from F r n z)) (omega arith))
      ∙ ap (full_round F (r + n)) (early_rounds r n z (omega arith))

  late_rounds : (r n : ℕ) (z : List ℕ) → 4 + F.partial_rounds ≤ r → rounds_from F r n z ≡ full_rounds F r n z
  unfolding rounds_from full_rounds
  late_rounds r zero z h = refl
  late_rounds r (suc n) z h =
      ap (λ (l : List ℕ). multiply F l) (raise_late (r + n) (add_constants F (r + n) (rounds_from F r n z)) (omega arith))
      ∙ ap (full_round F (r + n)) (late_rounds r n z h)

  rounds_split : (a b : ℕ) (s : List ℕ) → rounds F (a + b) s ≡ rounds_from F a b (rounds F a s)
  unfolding rounds rounds_from
  rounds_split a zero s = ap (λ (n : ℕ). rounds F n s) (add-zero a)
  rounds_split a (suc b) s = ap (λ (n : ℕ). rounds F n s) (add-suc a b) ∙ ap (round F (a + b)) (rounds_split a b s)

  -- the permutation, in its three parts
  pub three_parts : (s : List ℕ) → permutation F s ≡ full_rounds F (4 + F.partial_rounds) 4 (rounds_from F 4 F.partial_rounds (full_rounds F 0 4 s))
  unfolding permutation
  three_parts s =
      let n : ℕ = F.partial_rounds in
      let first : rounds F 4 s ≡ full_rounds F 0 4 s = rounds_split 0 4 s ∙ (unfold rounds in early_rounds 0 4 s (omega arith)) in
      rounds_split (4 + n) 4 s
      ∙ late_rounds (4 + n) 4 (rounds F (4 + n) s) (omega arith)
      ∙ ap (full_rounds F (4 + n) 4) (rounds_split 4 n s ∙ ap (rounds_from F 4 n) first)

  pub full_long : (r n : ℕ) (z : List ℕ) → length (full_rounds F r (suc n) z) ≡ 24
  unfolding full_rounds multiply
  full_long r n z = length_tabulate 24 (λ i. sum 24 (λ j. matrix F i j * get_or (raise_all F (add_constants F (r + n) (full_rounds F r n z))) j 0) % F.modulus)

  pub full_below : (r n : ℕ) (z : List ℕ) (i : ℕ) → 0 < F.modulus → i < 24 → get_or (full_rounds F r (suc n) z) i 0 < F.modulus
  unfolding full_rounds multiply
  full_below r n z i h l =
      let f : ℕ → ℕ = λ k. sum 24 (λ j. matrix F k j * get_or (raise_all F (add_constants F (r + n) (full_rounds F r n z))) j 0) % F.modulus in
      subst (λ (x : ℕ). x < F.modulus) (sym (tabulate_at 24 f i l)) (mod-lt _ h)

  -- the definition's rounds are those of its instance
  pub full_round_law : (r : ℕ) (z : List ℕ) → any.FullRound (instance F) r z (full_round F r z)
  unfolding any.matrix matrix
  full_round_law r z = record { at = full_at r z }

  pub partial_round : (s : ℕ) (z : List ℕ) → s < F.partial_rounds → any.PartialRound (instance F) (4 + s) z (round F (4 + s) z)
  unfolding any.matrix matrix
  partial_round s z h = record { at = λ i l. partial_at s z i h l }
