-- Tables that pass their tests are those of the instance F.
-- Assumes nothing.
use mathlib.Core.Path.{◌≡◌, ◌∙◌, sym, ap, refl, subst}
use mathlib.Core.Bool.{Bool, true}
use mathlib.Core.List.{List, [], ◌∷◌}
use Prim.Native.Nat.{ℕ, zero, suc, ◌+◌, ◌*◌, ◌-◌, ◌%◌, ◌/◌, ◌<◌}
use native.Mathlib.Nat.{mul_assoc, mul_comm, mod-lt, zero-mul, zero-lt-suc, add-suc, suc-add, le_of_suc-le-suc, not-suc-le-zero, add-zero}
use native.Mathlib.Omega.{arith}
use lib.ListN.{length, get_or, drop}
use lib.Seq.{get_or-drop}
use borrow.Author.Tests.{eqb-true}
use Rattle.basics.specs.Logic.{◌and◌}
use Rattle.basics.specs.Lists.{sum, tabulate}
use Rattle.basics.proofs.Cases.{and_left, and_right}
use Rattle.basics.proofs.Sums.{sum_same}
use Rattle.basics.proofs.Fill.{tabulate_at}
use Rattle.field.proofs.Congruence.{Congruent, reflexive, transitive, mul_congruent}
use Rattle.montgomery.specs.Montgomery.{scale}
use Rattle.poseidon_rounds.specs.Instance.{Instance, matrix}
use Rattle.poseidon_rounds.specs.Linear.{times}
use Rattle.poseidon_rounds.specs.Sparse.{lower, SparseTables}
use Rattle.poseidon_rounds.specs.Tests.{alike, products, diagonal_place, diagonal_row, shared_row, whole_row, matrix_test, raised_to, lower_rows, pre_sparse_from, pre_sparse_test, after_test, before_test, constants_test, zeros_test}
use Rattle.poseidon_rounds.specs.Tables.{Diagonals, block_place, Blocks, pre_sparse, addend_before, addend_after, TablesOf}
use Rattle.poseidon_rounds.proofs.Congruence.{opposite}
use Rattle.poseidon_rounds.proofs.Dots.{alike_at, every_at, products_at}
use Rattle.poseidon_rounds.proofs.MatrixPowers.{MatrixPower, raised_power, lower_power}
use Rattle.poseidon_rounds.proofs.Tests.{after_first, after_rest, before_first, before_rest, zeros_right, constants_right}

-- the places of the diagonals
near_place : (i d : ℕ) → i < 24 → d < 12 → diagonal_place i ((i + d) % 24) ≡ 48 * d + 2 * i
near_place i d hi hd =
    let e : ((i + d) % 24 + 24 - i) % 24 ≡ d = omega arith in
    let a : d % 12 ≡ d = omega arith in
    let b : d / 12 ≡ 0 = omega arith in
    (λ n. 48 * (e n % 12) + 2 * i + e n / 12) ∙ (λ n. 48 * a n + 2 * i + b n) ∙ add-zero (48 * d + 2 * i)

far_place : (i d : ℕ) → i < 24 → d < 12 → diagonal_place i ((i + d + 12) % 24) ≡ 48 * d + 2 * i + 1
far_place i d hi hd =
    let e : ((i + d + 12) % 24 + 24 - i) % 24 ≡ d + 12 = omega arith in
    let a : (d + 12) % 12 ≡ d = omega arith in
    let b : (d + 12) / 12 ≡ 1 = omega arith in
    (λ n. 48 * (e n % 12) + 2 * i + e n / 12) ∙ (λ n. 48 * a n + 2 * i + b n)

-- a table that holds a matrix place by place
diagonals : (m c : ℕ) (A : ℕ → ℕ → ℕ) (t : List ℕ) → ((i j : ℕ) → i < 24 → j < 24 → Congruent m (get_or t (diagonal_place i j) 0) (c * A i j)) → Diagonals m c A t
diagonals m c A t h =
    record {
      near = λ i d hi hd. subst (λ (k : ℕ). Congruent m (get_or t k 0) (c * A i ((i + d) % 24))) (near_place i d hi hd) (h i ((i + d) % 24) hi (mod-lt (i + d) (zero-lt-suc _)));
      far = λ i d hi hd. subst (λ (k : ℕ). Congruent m (get_or t k 0) (c * A i ((i + d + 12) % 24))) (far_place i d hi hd) (h i ((i + d + 12) % 24) hi (mod-lt (i + d + 12) (zero-lt-suc _)));
    }

module _ (F : Instance) where
  abbrev Is : ℕ → ℕ → Type 0
  Is a b = Congruent F.modulus a b

  row_at : (t ys : List ℕ) (i : ℕ) → alike F.modulus (diagonal_row t i) ys ≡ true → (j : ℕ) → j < 24 → Is (get_or t (diagonal_place i j) 0) (get_or ys j 0)
  unfolding diagonal_row
  row_at t ys i e j l =
      subst (λ (x : ℕ). Is x (get_or ys j 0)) (tabulate_at 24 (λ k. get_or t (diagonal_place i k) 0) j l)
      (alike_at F.modulus (tabulate 24 (λ k. get_or t (diagonal_place i k) 0)) ys e j)

  matrix_row : (c : ℕ) (t : List ℕ) (i : ℕ) → alike F.modulus (diagonal_row t i) (tabulate 24 (λ j. c * matrix F i j)) ≡ true
      → (j : ℕ) → j < 24 → Is (get_or t (diagonal_place i j) 0) (c * matrix F i j)
  matrix_row c t i e j l =
      subst (Is (get_or t (diagonal_place i j) 0)) (tabulate_at 24 (λ k. c * matrix F i k) j l) (row_at t (tabulate 24 (λ k. c * matrix F i k)) i e j l)

  -- the matrix in blocks; its entries depend on the sum of row and column alone
  module _ (c : ℕ) (t : List ℕ) (e : matrix_test F c t ≡ true) where
    test_at : (i : ℕ) → i < 12
        → (alike F.modulus (shared_row t i) (tabulate 12 (λ j. c * matrix F i (12 + j)))
        and alike F.modulus (whole_row t 0 i) (tabulate 12 (λ j. c * matrix F i j))
        and alike F.modulus (whole_row t 1 i) (tabulate 12 (λ j. c * matrix F (12 + i) (12 + j)))) ≡ true
    unfolding matrix_test
    test_at i h = every_at _ 12 i (11 - i) e (omega arith)

    tabulated : (f g : ℕ → ℕ) → alike F.modulus (tabulate 12 f) (tabulate 12 g) ≡ true → (j : ℕ) → j < 12 → Is (f j) (g j)
    tabulated f g h j l =
        subst (λ (x : ℕ). Is x (g j)) (tabulate_at 12 f j l)
        (subst (Is (get_or (tabulate 12 f) j 0)) (tabulate_at 12 g j l) (alike_at F.modulus (tabulate 12 f) (tabulate 12 g) h j))

    shared_at : (i j : ℕ) → i < 12 → j < 12 → Is (get_or t (block_place 2 i j) 0) (c * matrix F i (12 + j))
    unfolding shared_row
    shared_at i j hi hj = tabulated (λ k. get_or t (block_place 2 i k) 0) (λ k. c * matrix F i (12 + k)) (and_left _ _ (test_at i hi)) j hj

    pub matrix_blocks : Blocks F.modulus c (matrix F) t
    unfolding whole_row matrix
    matrix_blocks =
        record {
          first = λ i j hi hj.
              tabulated (λ k. get_or t (block_place 0 i k) 0 + get_or t (block_place 2 i k) 0) (λ k. c * matrix F i k) (and_left _ _ (and_right _ _ (test_at i hi))) j hj;
          last = λ i j hi hj.
              tabulated (λ k. get_or t (block_place 1 i k) 0 + get_or t (block_place 2 i k) 0) (λ k. c * matrix F (12 + i) (12 + k)) (and_right _ _ (and_right _ _ (test_at i hi))) j hj;
          columns = shared_at;
          rows = λ i j hi hj.
              let place : i + (12 + j) ≡ 12 + i + j = omega arith in
              subst (λ (k : ℕ). Is (get_or t (block_place 2 i j) 0) (c * get_or F.inverses k 0)) place (shared_at i j hi hj);
        }

  from_at : (B c : ℕ) (t : List ℕ) (i : ℕ) (rows : List (List ℕ)) → pre_sparse_from F B c t i rows ≡ true → (k : ℕ) → k < length rows
      → alike F.modulus (diagonal_row t (i + k)) (products F.modulus (c * B) 24 (get_or rows k []) (drop 1 F.inverses)) ≡ true
  unfolding pre_sparse_from
  from_at B c t i [] e k h = absurd (not-suc-le-zero h)
  from_at B c t i (r ∷ rows) e zero h = rw (add-zero i) (and_left _ _ e)
  from_at B c t i (r ∷ rows) e (suc k) h =
      subst (λ (n : ℕ). alike F.modulus (diagonal_row t n) (products F.modulus (c * B) 24 (get_or rows k []) (drop 1 F.inverses)) ≡ true)
      (suc-add i k ∙ sym (add-suc i k)) (from_at B c t (suc i) rows (and_right _ _ e) k (le_of_suc-le-suc h))

  -- an entry of the pre-sparse matrix, by a row of the power of the matrix's lower part
  entry_is : (B c : ℕ) (rows : List (List ℕ)) → MatrixPower F.modulus (lower F B) F.partial_rounds rows → (i j : ℕ) → i < 23 → j < 24
      → Is (get_or (products F.modulus (c * B) 24 (get_or rows i []) (drop 1 F.inverses)) j 0) (c * pre_sparse F B (suc i) j)
  unfolding pre_sparse matrix
  entry_is B c rows p i j hi hj =
      let r : List ℕ = get_or rows i [] in
      let f : ℕ → ℕ = λ l. get_or F.inverses (suc l + j) 0 in
      let one : Is (get_or (products F.modulus (c * B) 24 r (drop 1 F.inverses)) j 0) (c * B * sum 23 (λ l. get_or (drop 1 F.inverses) (j + l) 0 * get_or r l 0)) =
      products_at F.modulus (c * B) 24 r (drop 1 F.inverses) j hj (p.rows_long i hi) in
      let same : sum 23 (λ l. get_or (drop 1 F.inverses) (j + l) 0 * get_or r l 0) ≡ sum 23 (λ l. get_or r l 0 * f l) =
      sum_same 23 (λ l. get_or (drop 1 F.inverses) (j + l) 0 * get_or r l 0) (λ l. get_or r l 0 * f l)
      (λ l h. ap (λ (x : ℕ). x * get_or r l 0) (get_or-drop 1 F.inverses (j + l) 0 ∙ ap (λ (k : ℕ). get_or F.inverses k 0) (omega arith)) ∙ mul_comm (f l) (get_or r l 0)) in
      let two : Is (sum 23 (λ l. get_or r l 0 * f l)) (times (lower F B) F.partial_rounds f i) = opposite (p.by_rows f i hi) in
      transitive (subst (λ (x : ℕ). Is (get_or (products F.modulus (c * B) 24 r (drop 1 F.inverses)) j 0) (c * B * x)) same one)
      (subst (Is (c * B * sum 23 (λ l. get_or r l 0 * f l))) (mul_assoc c B (times (lower F B) F.partial_rounds f i)) (mul_congruent (reflexive (c * B)) two))

  entry_at : (B c : ℕ) (t : List ℕ) (rows : List (List ℕ)) → MatrixPower F.modulus (lower F B) F.partial_rounds rows
      → alike F.modulus (diagonal_row t 0) (tabulate 24 (λ j. c * matrix F 0 j)) ≡ true → pre_sparse_from F B c t 1 rows ≡ true
      → (i j : ℕ) → i < 24 → j < 24 → Is (get_or t (diagonal_place i j) 0) (c * pre_sparse F B i j)
  unfolding pre_sparse
  entry_at B c t rows p h0 h zero j hi hj = matrix_row c t 0 h0 j hj
  entry_at B c t rows p h0 h (suc i) j hi hj =
      let l : i < 23 = le_of_suc-le-suc hi in
      transitive
      (row_at t (products F.modulus (c * B) 24 (get_or rows i []) (drop 1 F.inverses)) (suc i)
      (subst (λ (n : ℕ). alike F.modulus (diagonal_row t n) (products F.modulus (c * B) 24 (get_or rows i []) (drop 1 F.inverses)) ≡ true) (omega arith)
      (from_at B c t 1 rows h i (omega (arith, p.long)))) j hj)
      (entry_is B c rows p i j l hj)

  -- the pre-sparse matrix
  pub pre_sparse_diagonals : (B c : ℕ) (t : List ℕ) (bits : List Bool) → pre_sparse_test F B c t bits ≡ true → Diagonals F.modulus c (pre_sparse F B) t
  unfolding pre_sparse_test
  pre_sparse_diagonals B c t bits e =
      let rows : List (List ℕ) = raised_to F.modulus (lower_rows F B) bits in
      let p : MatrixPower F.modulus (lower F B) F.partial_rounds rows =
      subst (λ (n : ℕ). MatrixPower F.modulus (lower F B) n rows) (eqb-true _ _ (and_left _ _ e)) (raised_power F.modulus (lower F B) (lower_rows F B) (lower_power F B) bits) in
      diagonals F.modulus c (pre_sparse F B) t (entry_at B c t rows p (and_left _ _ (and_right _ _ e)) (and_right _ _ (and_right _ _ e)))

  module _ (addends : List ℕ) where
    before_right : before_test F 4294967296 addends 96 ≡ true → (i : ℕ) → i < 24 → Is (get_or addends (96 + i) 0) (addend_before F i * 4294967296)
    unfolding addend_before
    before_right h zero l = before_first F 4294967296 addends 96 h
    before_right h (suc i) l = subst (Is (get_or addends (96 + suc i) 0)) (sym (zero-mul 4294967296)) (before_rest F 4294967296 addends 96 h i (omega arith))

    after_right : after_test F 4294967296 addends 120 ≡ true → (i : ℕ) → i < 24 → Is (get_or addends (120 + i) 0) (addend_after F i * 4294967296)
    unfolding addend_after
    after_right h zero l = subst (Is (get_or addends (120 + 0) 0)) (sym (zero-mul 4294967296)) (after_first F 4294967296 addends 120 h)
    after_right h (suc i) l = after_rest F 4294967296 addends 120 h i (omega arith)

  pub tables_of_law : (word first_entry u c : ℕ) (t e sparse first_constants addends : List ℕ)
      → Is (u * 4294967296) 1 → Is c (4294967296 * scale F.power) → Is word 4294967296
      → Blocks F.modulus c (matrix F) t → Diagonals F.modulus c (pre_sparse F 4294967296) e
      → SparseTables F 4294967296 (scale F.power) first_entry sparse first_constants
      → constants_test F addends 0 0 ≡ true → constants_test F addends 144 (4 + F.partial_rounds) ≡ true
      → before_test F 4294967296 addends 96 ≡ true → after_test F 4294967296 addends 120 ≡ true → zeros_test F addends 240 ≡ true
      → TablesOf F F.modulus F.power F.partial_rounds word first_entry u c t e sparse first_constants addends
  tables_of_law word first_entry u c t e sparse first_constants addends hu hc hw dt de hs c1 c2 h1 h2 hz =
      record {
        full = record { modulus = refl; power_right = refl; unit = hu; factor = hc; blocks = dt; zeros = zeros_right F addends 240 hz };
        rounds = refl;
        early = record { right = constants_right F addends 0 0 c1 };
        late = record { right = constants_right F addends 144 (4 + F.partial_rounds) c2 };
        pre_sparse_diagonals = de;
        before = before_right addends h1;
        after = after_right addends h2;
        word_right = hw;
        sparse_right = hs;
      }
