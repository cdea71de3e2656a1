-- Tables that pass the tests are right.
-- Assumes nothing.
use mathlib.Core.Path.{◌≡◌, ◌∙◌, sym, ap, ap₂, refl, subst}
use mathlib.Core.Bool.{true}
use mathlib.Core.List.{List, [], ◌∷◌}
use mathlib.Core.Logic.{⊎_elim}
use Prim.Native.Nat.{ℕ, zero, suc, ◌+◌, ◌*◌, ◌-◌, ◌%◌, ◌<◌, ◌≤◌, zero-le, suc-le-suc}
use native.Mathlib.Nat.{mul_assoc, mul_comm, one-mul, zero-mul, eq-or-lt_of_le, add_assoc}
use native.Mathlib.Omega.{arith}
use lib.ListN.{length, get_or, drop}
use lib.Seq.{get_or-drop}
use borrow.Author.Tests.{eqb-true}
use Rattle.basics.specs.Logic.{◌and◌}
use Rattle.basics.specs.Lists.{sum, tabulate}
use Rattle.basics.proofs.Cases.{and_left, and_right}
use Rattle.basics.proofs.Sums.{sum_same}
use Rattle.basics.proofs.Fill.{tabulate_at, length_tabulate}
use Rattle.field.proofs.Congruence.{Congruent, reflexive, transitive, add_congruent, mul_congruent}
use Rattle.poseidon_rounds.specs.Linear.{turn, times, inner}
use Rattle.poseidon_rounds.specs.Instance.{Instance, matrix, constant}
use Rattle.poseidon_rounds.specs.Sparse.{running, carried, lower, SparseTables}
use Rattle.poseidon_rounds.specs.Tests.{alike, dot, turned, column_of, row_of, column_test, row_test, zero_test, running_with, running_of, first_constant_test, first_constants_from, sparse_test, first_constants_test, scaled_by, after_test, before_test, constants_test, zeros_test}
use Rattle.poseidon_rounds.proofs.Congruence.{opposite, sum_congruent}
use Rattle.poseidon_rounds.proofs.Dots.{alike_at, every_at, dot_23, products_long, products_at}
use Rattle.poseidon_rounds.proofs.Linear.{sum_times, times_scale, times_same, times_turn, row_turn, turn_scaled}

module _ (F : Instance) where
  abbrev Is : ℕ → ℕ → Type 0
  Is a b = Congruent F.modulus a b

  turned_long : (B : ℕ) (v : List ℕ) → length (turned F B v) ≡ 23
  unfolding turned
  turned_long B v = products_long F.modulus B 23 v (drop 2 F.inverses)

  -- the matrix is symmetric: row i is column i
  turned_row : (B : ℕ) (v : List ℕ) (i : ℕ) → i < 23 → length v ≡ 23 → Is (get_or (turned F B v) i 0) (B * sum 23 (λ j. matrix F (suc i) (suc j) * get_or v j 0))
  unfolding turned matrix
  turned_row B v i l e =
      subst (Is (get_or (turned F B v) i 0))
      (ap (λ (x : ℕ). B * x)
      (sum_same 23 (λ j. get_or (drop 2 F.inverses) (i + j) 0 * get_or v j 0) (λ j. get_or F.inverses (suc i + suc j) 0 * get_or v j 0)
      (λ j r. ap (λ (x : ℕ). x * get_or v j 0) (get_or-drop 2 F.inverses (i + j) 0 ∙ ap (λ (k : ℕ). get_or F.inverses k 0) (omega arith)))))
      (products_at F.modulus B 23 v (drop 2 F.inverses) i l e)

  turned_at : (B : ℕ) (v : List ℕ) (i : ℕ) → i < 23 → length v ≡ 23 → Is (get_or (turned F B v) i 0) (turn (lower F B) (λ j. get_or v j 0) i)
  turned_at B v i l e =
      subst (Is (get_or (turned F B v) i 0)) (sym (ap (λ (f : ℕ → ℕ). f i) (turn_scaled B (inner (matrix F)) (λ j. get_or v j 0)))) (unfold turn in turned_row B v i l e)

  column_at : (B : ℕ) (v : List ℕ) (j : ℕ) → j < 23 → length v ≡ 23 → Is (get_or (turned F B v) j 0) (sum 23 (λ i. get_or v i 0 * lower F B i j))
  unfolding matrix
  column_at B v j l e =
      subst (Is (get_or (turned F B v) j 0))
      (sym (sum_times 23 B (λ i. get_or F.inverses (suc j + suc i) 0 * get_or v i 0))
      ∙ sum_same 23 (λ i. B * (get_or F.inverses (suc j + suc i) 0 * get_or v i 0)) (λ i. get_or v i 0 * (B * get_or F.inverses (suc i + suc j) 0))
      (λ i r. sym (mul_assoc B (get_or F.inverses (suc j + suc i) 0) (get_or v i 0)) ∙ mul_comm (B * get_or F.inverses (suc j + suc i) 0) (get_or v i 0)
      ∙ ap (λ (k : ℕ). get_or v i 0 * (B * get_or F.inverses k 0)) (omega arith)))
      (turned_row B v j l e)

  module _ (B K : ℕ) (sparse : List ℕ) where
    sparse_column : ℕ → ℕ → ℕ
    sparse_column s i = get_or sparse (48 * s + 48 + 2 * suc i) 0

    column_long : (s : ℕ) → length (column_of sparse s) ≡ 23
    unfolding column_of
    column_long s = length_tabulate 23 (λ i. get_or sparse (48 * s + 48 + 2 * suc i) 0)

    column_entry : (s i : ℕ) → i < 23 → get_or (column_of sparse s) i 0 ≡ sparse_column s i
    unfolding column_of sparse_column
    column_entry s i l = tabulate_at 23 (λ k. get_or sparse (48 * s + 48 + 2 * suc k) 0) i l

    sparse_row : ℕ → ℕ → ℕ
    sparse_row s i = get_or sparse (48 * s + 2 * suc i + 1) 0

    row_long : (s : ℕ) → length (row_of sparse s) ≡ 23
    unfolding row_of
    row_long s = length_tabulate 23 (λ i. get_or sparse (48 * s + 2 * suc i + 1) 0)

    row_entry : (s i : ℕ) → i < 23 → get_or (row_of sparse s) i 0 ≡ sparse_row s i
    unfolding row_of sparse_row
    row_entry s i l = tabulate_at 23 (λ k. get_or sparse (48 * s + 2 * suc k + 1) 0) i l

    module _ (tests : (s k : ℕ) → s + suc k ≡ F.partial_rounds → (column_test F B K sparse s k ≡ true) × (row_test F B sparse s k ≡ true) × (zero_test F sparse s ≡ true)) where
      columns_from : (s k : ℕ) → s + suc k ≡ F.partial_rounds → (i : ℕ) → i < 23
          → Is (sparse_column s i) (K * B * times (lower F B) k (λ j. matrix F (suc j) 0) i)
      unfolding column_test times
      columns_from s zero e i l =
          let f : ℕ → ℕ = λ j. K * B * matrix F (suc j) 0 in
          subst (Is (sparse_column s i)) (tabulate_at 23 f i l)
          (subst (λ (x : ℕ). Is x (get_or (tabulate 23 f) i 0)) (column_entry s i l) (alike_at F.modulus (column_of sparse s) (tabulate 23 f) (tests s zero e).0 i))
      columns_from s (suc k) e i l =
          let a : ℕ → ℕ = λ j. matrix F (suc j) 0 in
          let rest : (j : ℕ) → j < 23 → Is (get_or (column_of sparse (suc s)) j 0) (K * B * times (lower F B) k a j) =
          λ j r. subst (λ (x : ℕ). Is x (K * B * times (lower F B) k a j)) (sym (column_entry (suc s) j r)) (columns_from (suc s) k (omega arith) j r) in
          let one : Is (sparse_column s i) (turn (lower F B) (λ j. get_or (column_of sparse (suc s)) j 0) i) =
          subst (λ (x : ℕ). Is x (turn (lower F B) (λ j. get_or (column_of sparse (suc s)) j 0) i)) (column_entry s i l)
          (transitive (alike_at F.modulus (column_of sparse s) (turned F B (column_of sparse (suc s))) (tests s (suc k) e).0 i) (turned_at B (column_of sparse (suc s)) i l (column_long (suc s)))) in
          let two : Is (turn (lower F B) (λ j. get_or (column_of sparse (suc s)) j 0) i) (turn (lower F B) (λ j. K * B * times (lower F B) k a j) i) =
          times_same (lower F B) 1 (λ j. get_or (column_of sparse (suc s)) j 0) (λ j. K * B * times (lower F B) k a j) rest i l in
          transitive one (subst (Is (turn (lower F B) (λ j. get_or (column_of sparse (suc s)) j 0) i))
          (ap (λ (f : ℕ → ℕ). f i) (times_scale (lower F B) 1 (K * B) (times (lower F B) k a)) ∙ ap (λ (f : ℕ → ℕ). K * B * f i) (sym (times_turn (lower F B) k a))) two)

      -- one turn of the matrix goes from the vector to the row
      rows_over : (s k : ℕ) (z : ℕ → ℕ) (r : ℕ)
          → Is (sum 23 (λ j. get_or (turned F B (row_of sparse s)) j 0 * times (lower F B) k z j)) r
          → Is (sum 23 (λ i. sparse_row s i * times (lower F B) (suc k) z i)) r
      unfolding times
      rows_over s k z r rest =
          let h : ℕ → ℕ = λ i. get_or (row_of sparse s) i 0 in
          let w : ℕ → ℕ = times (lower F B) k z in
          let turned-over : sum 23 (λ i. sparse_row s i * times (lower F B) k (turn (lower F B) z) i) ≡ sum 23 (λ j. sum 23 (λ i. h i * lower F B i j) * w j) =
          sum_same 23 (λ i. sparse_row s i * times (lower F B) k (turn (lower F B) z) i) (λ i. h i * turn (lower F B) w i)
          (λ i l. ap₂ (λ (x y : ℕ). x * y) (sym (row_entry s i l)) (ap (λ (f : ℕ → ℕ). f i) (times_turn (lower F B) k z)))
          ∙ row_turn (lower F B) h w in
          let next : Is (sum 23 (λ j. sum 23 (λ i. h i * lower F B i j) * w j)) (sum 23 (λ j. get_or (turned F B (row_of sparse s)) j 0 * w j)) =
          sum_congruent 23 (λ j. sum 23 (λ i. h i * lower F B i j) * w j) (λ j. get_or (turned F B (row_of sparse s)) j 0 * w j)
          (λ j l. mul_congruent (opposite (column_at B (row_of sparse s) j l (row_long s))) (reflexive (w j))) in
          subst (λ (x : ℕ). Is x r) (sym turned-over) (transitive next rest)

      rows_from_law : (s k : ℕ) → s + suc k ≡ F.partial_rounds → (z : ℕ → ℕ)
          → Is (sum 23 (λ i. sparse_row s i * times (lower F B) (suc k) z i)) (B * sum 23 (λ j. matrix F 0 (suc j) * z j))
      unfolding row_test
      rows_from_law s zero e z =
          let f : ℕ → ℕ = λ j. B * matrix F 0 (suc j) in
          let w : ℕ → ℕ = times (lower F B) 0 z in
          let wz : w ≡ z = unfold times in refl in
          rows_over s zero z (B * sum 23 (λ j. matrix F 0 (suc j) * z j))
          (subst (Is (sum 23 (λ j. get_or (turned F B (row_of sparse s)) j 0 * w j)))
          (sum_same 23 (λ j. get_or (tabulate 23 f) j 0 * w j) (λ j. B * (matrix F 0 (suc j) * z j))
          (λ j l. ap₂ (λ (x y : ℕ). x * y) (tabulate_at 23 f j l) (ap (λ (g : ℕ → ℕ). g j) wz) ∙ mul_assoc B (matrix F 0 (suc j)) (z j))
          ∙ sum_times 23 B (λ j. matrix F 0 (suc j) * z j))
          (sum_congruent 23 (λ j. get_or (turned F B (row_of sparse s)) j 0 * w j) (λ j. get_or (tabulate 23 f) j 0 * w j)
          (λ j l. mul_congruent (alike_at F.modulus (turned F B (row_of sparse s)) (tabulate 23 f) (tests s zero e).1 j) (reflexive (w j)))))
      rows_from_law s (suc k) e z =
          let w : ℕ → ℕ = times (lower F B) (suc k) z in
          rows_over s (suc k) z (B * sum 23 (λ j. matrix F 0 (suc j) * z j))
          (transitive
          (sum_congruent 23 (λ j. get_or (turned F B (row_of sparse s)) j 0 * w j) (λ j. sparse_row (suc s) j * w j)
          (λ j l. mul_congruent
          (subst (Is (get_or (turned F B (row_of sparse s)) j 0)) (row_entry (suc s) j l)
          (alike_at F.modulus (turned F B (row_of sparse s)) (row_of sparse (suc s)) (tests s (suc k) e).1 j))
          (reflexive (w j))))
          (rows_from_law (suc s) k (omega arith) z))

  -- the running constants, as the tests compute them
  running_long : (s : ℕ) → length (running_of F s) ≡ 23
  unfolding running_of
  running_long zero = length_tabulate 23 (λ i. 0)
  running_long (suc s) = turned_long 1 (running_with F s (running_of F s))

  with_long : (s : ℕ) (e : List ℕ) → length (running_with F s e) ≡ 23
  unfolding running_with
  with_long s e = length_tabulate 23 (λ j. get_or e j 0 + get_or F.constants (24 * (4 + s) + suc j) 0)

  mutual_with : (s : ℕ) (e : List ℕ) → ((i : ℕ) → i < 23 → Is (get_or e i 0) (running F s i)) → (i : ℕ) → i < 23
      → Is (get_or (running_with F s e) i 0) (running F s i + constant F (4 + s) (suc i))
  unfolding running_with
  mutual_with s e h i l =
      subst (λ (x : ℕ). Is x (running F s i + constant F (4 + s) (suc i))) (sym (tabulate_at 23 (λ j. get_or e j 0 + get_or F.constants (24 * (4 + s) + suc j) 0) i l))
      (add_congruent (h i l) (reflexive (constant F (4 + s) (suc i))))

  pub running_at : (s i : ℕ) → i < 23 → Is (get_or (running_of F s) i 0) (running F s i)
  unfolding running_of running
  running_at zero i l = rw (tabulate_at 23 (λ j. 0) i l) (reflexive 0)
  running_at (suc s) i l =
      let w : List ℕ = running_with F s (running_of F s) in
      let g : ℕ → ℕ = λ j. running F s j + constant F (4 + s) (suc j) in
      transitive (turned_row 1 w i l (with_long s (running_of F s)))
      (subst (λ (x : ℕ). Is x (sum 23 (λ j. matrix F (suc i) (suc j) * g j))) (sym (one-mul (sum 23 (λ j. matrix F (suc i) (suc j) * get_or w j 0))))
      (sum_congruent 23 (λ j. matrix F (suc i) (suc j) * get_or w j 0) (λ j. matrix F (suc i) (suc j) * g j)
      (λ j r. mul_congruent (reflexive (matrix F (suc i) (suc j))) (mutual_with s (running_of F s) (running_at s) j r))))

  first_constants_from_law : (B : ℕ) (first_constants : List ℕ) (s k : ℕ) → first_constant_test F B first_constants s k ≡ true
      → Is (get_or first_constants s 0) ((sum 23 (λ j. matrix F 0 (suc j) * (running F s j + constant F (4 + s) (suc j))) + carried F k (suc s)) * B)
  unfolding first_constant_test matrix
  first_constants_from_law B first_constants s k e =
      let w : List ℕ = running_with F s (running_of F s) in
      let g : ℕ → ℕ = λ j. running F s j + constant F (4 + s) (suc j) in
      let one : Is (get_or first_constants s 0) ((dot w (drop 1 F.inverses) + carried F k (suc s)) * B) = record { same = eqb-true _ _ e } in
      let row : Is (dot w (drop 1 F.inverses)) (sum 23 (λ j. get_or F.inverses (0 + suc j) 0 * g j)) =
      subst (λ (x : ℕ). Is x (sum 23 (λ j. get_or F.inverses (0 + suc j) 0 * g j))) (sym (dot_23 w (drop 1 F.inverses) (with_long s (running_of F s))))
      (sum_congruent 23 (λ j. get_or (drop 1 F.inverses) j 0 * get_or w j 0) (λ j. get_or F.inverses (0 + suc j) 0 * g j)
      (λ j r. mul_congruent
      (subst (Is (get_or (drop 1 F.inverses) j 0)) (get_or-drop 1 F.inverses j 0 ∙ ap (λ (n : ℕ). get_or F.inverses n 0) (omega arith)) (reflexive (get_or (drop 1 F.inverses) j 0)))
      (mutual_with s (running_of F s) (running_at s) j r))) in
      transitive one (mul_congruent (add_congruent row (reflexive (carried F k (suc s)))) (reflexive B))

  -- the test of all rounds goes through the test of each
  first_constant_at : (B : ℕ) (first_constants : List ℕ) (n s a k : ℕ) → first_constants_from F B first_constants s n (running_of F s) ≡ true → s ≤ a → a + suc k ≡ s + n
      → first_constant_test F B first_constants a k ≡ true
  unfolding first_constants_from first_constant_test running_of
  first_constant_at B first_constants zero s a k e l q = absurd (omega arith)
  first_constant_at B first_constants (suc n) s a k e l q =
      ⊎_elim
      (λ z. subst (λ (b : ℕ). first_constant_test F B first_constants b k ≡ true) z
      (subst (λ (d : ℕ). first_constant_test F B first_constants s d ≡ true) (let z' : s ≡ a = z in omega arith) (and_left _ _ e)))
      (λ h. first_constant_at B first_constants n (suc s) a k (and_right _ _ e) h (omega arith))
      (eq-or-lt_of_le l)

  rest_of : (s k : ℕ) → s + suc k ≡ F.partial_rounds → F.partial_rounds - suc s ≡ k
  rest_of s k e = omega arith

  -- the tables of the partial rounds
  pub sparse_tables : (B K first_entry : ℕ) (sparse first_constants : List ℕ) → first_entry % F.modulus ≡ (K * B * matrix F 0 0) % F.modulus
      → sparse_test F B K sparse ≡ true → first_constants_test F B first_constants ≡ true → SparseTables F B K first_entry sparse first_constants
  unfolding sparse_test first_constants_test sparse_column sparse_row zero_test running_of
  sparse_tables B K first_entry sparse first_constants hc hm hk =
      let test : (s k : ℕ) → s + suc k ≡ F.partial_rounds → column_test F B K sparse s k and row_test F B sparse s k and zero_test F sparse s ≡ true =
      λ s k e. subst (λ (n : ℕ). column_test F B K sparse s n and row_test F B sparse s n and zero_test F sparse s ≡ true) (rest_of s k e)
      (every_at (λ a. column_test F B K sparse a (F.partial_rounds - suc a) and row_test F B sparse a (F.partial_rounds - suc a) and zero_test F sparse a) F.partial_rounds s k hm e) in
      let tests : (s k : ℕ) → s + suc k ≡ F.partial_rounds → (column_test F B K sparse s k ≡ true) × (row_test F B sparse s k ≡ true) × (zero_test F sparse s ≡ true) =
      λ s k e. (and_left _ _ (test s k e), and_left _ _ (and_right _ _ (test s k e)), and_right _ _ (and_right _ _ (test s k e))) in
      record {
        first_entry_right = record { same = hc };
        columns = columns_from B K sparse tests;
        rows = rows_from_law B K sparse tests;
        rows_zero = λ s k e. record { same = eqb-true _ _ (tests s k e).2 };
        first_constants_right = λ s k e. first_constants_from_law B first_constants s k (first_constant_at B first_constants F.partial_rounds 0 s k hk zero-le (omega arith));
      }

  -- the rows of the table of addends
  row_alike : (k at : ℕ) (addends ys : List ℕ) → alike F.modulus (tabulate k (λ i. get_or addends (at + i) 0)) ys ≡ true → (i : ℕ) → i < k → Is (get_or addends (at + i) 0) (get_or ys i 0)
  row_alike k at addends ys e i l =
      subst (λ (x : ℕ). Is x (get_or ys i 0)) (tabulate_at k (λ j. get_or addends (at + j) 0) i l) (alike_at F.modulus (tabulate k (λ j. get_or addends (at + j) 0)) ys e i)

  scaled_at : (B : ℕ) (xs : List ℕ) (i : ℕ) → get_or (scaled_by B xs) i 0 ≡ get_or xs i 0 * B
  unfolding scaled_by
  scaled_at B [] i = sym (zero-mul B)
  scaled_at B (x ∷ xs) zero = refl
  scaled_at B (x ∷ xs) (suc i) = scaled_at B xs i

  pub after_first : (B : ℕ) (addends : List ℕ) (at : ℕ) → after_test F B addends at ≡ true → Is (get_or addends (at + 0) 0) 0
  unfolding after_test
  after_first B addends at e = row_alike 24 at addends (0 ∷ scaled_by B (running_of F F.partial_rounds)) e 0 (suc-le-suc zero-le)

  pub after_rest : (B : ℕ) (addends : List ℕ) (at : ℕ) → after_test F B addends at ≡ true → (i : ℕ) → i < 23 → Is (get_or addends (at + suc i) 0) (running F F.partial_rounds i * B)
  unfolding after_test
  after_rest B addends at e i l =
      let r : List ℕ = running_of F F.partial_rounds in
      transitive (row_alike 24 at addends (0 ∷ scaled_by B r) e (suc i) (suc-le-suc l))
      (subst (λ (x : ℕ). Is x (running F F.partial_rounds i * B)) (sym (scaled_at B r i)) (mul_congruent (running_at F.partial_rounds i l) (reflexive B)))

  pub before_first : (B : ℕ) (addends : List ℕ) (at : ℕ) → before_test F B addends at ≡ true → Is (get_or addends (at + 0) 0) (carried F F.partial_rounds 0 * B)
  unfolding before_test
  before_first B addends at e = row_alike 24 at addends (carried F F.partial_rounds 0 * B ∷ tabulate 23 (λ i. 0)) e 0 (suc-le-suc zero-le)

  pub before_rest : (B : ℕ) (addends : List ℕ) (at : ℕ) → before_test F B addends at ≡ true → (i : ℕ) → i < 23 → Is (get_or addends (at + suc i) 0) 0
  unfolding before_test
  before_rest B addends at e i l =
      subst (Is (get_or addends (at + suc i) 0)) (tabulate_at 23 (λ j. 0) i l) (row_alike 24 at addends (carried F F.partial_rounds 0 * B ∷ tabulate 23 (λ j. 0)) e (suc i) (suc-le-suc l))

  pub zeros_right : (addends : List ℕ) (at : ℕ) → zeros_test F addends at ≡ true → (i : ℕ) → i < 24 → Is (get_or addends (at + i) 0) 0
  unfolding zeros_test
  zeros_right addends at e i l = subst (Is (get_or addends (at + i) 0)) (tabulate_at 24 (λ j. 0) i l) (row_alike 24 at addends (tabulate 24 (λ j. 0)) e i l)

  pub constants_right : (addends : List ℕ) (at r : ℕ) → constants_test F addends at r ≡ true → (k i : ℕ) → k < 4 → i < 24
      → Is (get_or addends (at + 24 * k + i) 0) (constant F (r + k) i)
  unfolding constants_test
  constants_right addends at r e k i hk hi =
      let f : ℕ → ℕ = λ j. get_or F.constants (24 * r + j) 0 in
      let one : Is (get_or addends (at + (24 * k + i)) 0) (f (24 * k + i)) =
      subst (Is (get_or addends (at + (24 * k + i)) 0)) (tabulate_at 96 f (24 * k + i) (omega arith)) (row_alike 96 at addends (tabulate 96 f) e (24 * k + i) (omega arith)) in
      subst (λ (j : ℕ). Is (get_or addends j 0) (constant F (r + k) i)) (sym (add_assoc at (24 * k) i))
      (subst (λ (j : ℕ). Is (get_or addends (at + (24 * k + i)) 0) (get_or F.constants j 0)) (omega arith) one)
