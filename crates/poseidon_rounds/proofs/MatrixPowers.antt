-- Powers of a matrix by squarings, as the tests compute them. The product of two matrices is that of the rows of both, so that no matrix is turned
-- round: the powers of a symmetric matrix act by their rows and by their columns alike.
-- Assumes nothing.
use mathlib.Core.Path.{◌≡◌, ◌∙◌, sym, ap, refl, subst}
use mathlib.Core.Bool.{Bool, true, false}
use mathlib.Core.List.{List, [], ◌∷◌}
use Prim.Native.Nat.{ℕ, zero, suc, ◌+◌, ◌*◌, ◌%◌, ◌<◌}
use native.Mathlib.Nat.{mul_comm, add_comm, add-zero, add-suc, suc-add, zero-add, le_of_suc-le-suc, not-suc-le-zero}
use native.Mathlib.Omega.{arith}
use lib.ListN.{length, get_or}
use Rattle.basics.specs.Lists.{sum, tabulate}
use Rattle.basics.proofs.Sums.{sum_same}
use Rattle.basics.proofs.Fill.{tabulate_at, length_tabulate}
use Rattle.field.proofs.Congruence.{Congruent, reflexive, transitive, remainder, mul_congruent}
use Rattle.poseidon_rounds.specs.Instance.{Instance, matrix}
use Rattle.poseidon_rounds.specs.Linear.{turn, times}
use Rattle.poseidon_rounds.specs.Sparse.{lower}
use Rattle.poseidon_rounds.specs.Tests.{dot, row_products, matrix_product, rows_from, lower_rows, exponent, squared, raised_to}
use Rattle.poseidon_rounds.proofs.Congruence.{opposite, sum_congruent}
use Rattle.poseidon_rounds.proofs.Linear.{row_turn}
use Rattle.poseidon_rounds.proofs.Dots.{dot_23}

abbrev pub at : List (List ℕ) → ℕ → ℕ → ℕ
at a i j = get_or (get_or a i []) j 0

-- a is the power k of L
pub record MatrixPower (m : ℕ) (L : ℕ → ℕ → ℕ) (k : ℕ) (a : List (List ℕ)) : Type 0 where
  pub long : length a ≡ 23
  pub rows_long : (i : ℕ) → i < 23 → length (get_or a i []) ≡ 23
  pub by_rows : (v : ℕ → ℕ) (i : ℕ) → i < 23 → Congruent m (times L k v i) (sum 23 (λ j. at a i j * v j))
  pub by_columns : (v : ℕ → ℕ) (j : ℕ) → j < 23 → Congruent m (times L k v j) (sum 23 (λ i. at a i j * v i))

products_long : (m : ℕ) (r : List ℕ) (bs : List (List ℕ)) → length (row_products m r bs) ≡ length bs
unfolding row_products
products_long m r [] = refl
products_long m r (b ∷ bs) = ap suc (products_long m r bs)

products_at : (m : ℕ) (r : List ℕ) (bs : List (List ℕ)) (j : ℕ) → j < length bs → get_or (row_products m r bs) j 0 ≡ dot (get_or bs j []) r % m
unfolding row_products
products_at m r [] j h = absurd (not-suc-le-zero h)
products_at m r (b ∷ bs) zero h = refl
products_at m r (b ∷ bs) (suc j) h = products_at m r bs j (le_of_suc-le-suc h)

product_long : (m : ℕ) (a b : List (List ℕ)) → length (matrix_product m a b) ≡ length a
unfolding matrix_product
product_long m [] b = refl
product_long m (r ∷ a) b = ap suc (product_long m a b)

product_row : (m : ℕ) (a b : List (List ℕ)) (i : ℕ) → i < length a → get_or (matrix_product m a b) i [] ≡ row_products m (get_or a i []) b
unfolding matrix_product
product_row m [] b i h = absurd (not-suc-le-zero h)
product_row m (r ∷ a) b zero h = refl
product_row m (r ∷ a) b (suc i) h = product_row m a b i (le_of_suc-le-suc h)

times_add : (L : ℕ → ℕ → ℕ) (k l : ℕ) (v : ℕ → ℕ) → times L (k + l) v ≡ times L k (times L l v)
unfolding times
times_add L k zero v = ap (λ (n : ℕ). times L n v) (add-zero k)
times_add L k (suc l) v = ap (λ (n : ℕ). times L n v) (add-suc k l) ∙ times_add L k l (turn L v)

module _ (m : ℕ) (L : ℕ → ℕ → ℕ) where
  -- two powers, one after the other: p is a row of one, q has the other's by its rows
  after_each_other : (k l : ℕ) (v p : ℕ → ℕ) (q : ℕ → ℕ → ℕ) (i : ℕ) → i < 23
      → ((w : ℕ → ℕ) → Congruent m (times L k w i) (sum 23 (λ j. p j * w j)))
      → ((j : ℕ) → j < 23 → Congruent m (times L l v j) (sum 23 (λ n. q n j * v n)))
      → Congruent m (times L (k + l) v i) (sum 23 (λ n. sum 23 (λ j. p j * q n j) * v n))
  unfolding turn
  after_each_other k l v p q i h hp hq =
      subst (λ (x : ℕ). Congruent m x (sum 23 (λ n. sum 23 (λ j. p j * q n j) * v n))) (sym (ap (λ (f : ℕ → ℕ). f i) (times_add L k l v)))
      (transitive (hp (times L l v))
      (subst (Congruent m (sum 23 (λ j. p j * times L l v j))) (row_turn (λ j n. q n j) p v)
      (sum_congruent 23 (λ j. p j * times L l v j) (λ j. p j * sum 23 (λ n. q n j * v n)) (λ j r. mul_congruent (reflexive (p j)) (hq j r)))))

  module _ (k l : ℕ) (a b : List (List ℕ)) (ha : MatrixPower m L k a) (hb : MatrixPower m L l b) where
    entry : (i j : ℕ) → i < 23 → j < 23 → Congruent m (at (matrix_product m a b) i j) (sum 23 (λ n. at a i n * at b j n))
    entry i j hi hj =
        let e : at (matrix_product m a b) i j ≡ dot (get_or b j []) (get_or a i []) % m =
        ap (λ (r : List ℕ). get_or r j 0) (product_row m a b i (omega (arith, ha.long))) ∙ products_at m (get_or a i []) b j (omega (arith, hb.long)) in
        subst (λ (x : ℕ). Congruent m x (sum 23 (λ n. at a i n * at b j n))) (sym e)
        (subst (Congruent m (dot (get_or b j []) (get_or a i []) % m)) (dot_23 (get_or b j []) (get_or a i []) (hb.rows_long j hj))
        (remainder m (dot (get_or b j []) (get_or a i []))))

    pub product_power : MatrixPower m L (k + l) (matrix_product m a b)
    product_power =
        record {
          long = product_long m a b ∙ ha.long;
          rows_long = λ i h. ap length (product_row m a b i (omega (arith, ha.long))) ∙ products_long m (get_or a i []) b ∙ hb.long;
          by_rows = λ v i h.
              transitive (after_each_other k l v (λ n. at a i n) (at b) i h (λ w. ha.by_rows w i h) (hb.by_columns v))
              (sum_congruent 23 (λ n. sum 23 (λ j. at a i j * at b n j) * v n) (λ n. at (matrix_product m a b) i n * v n)
              (λ n r. mul_congruent (opposite (entry i n h r)) (reflexive (v n))));
          by_columns = λ v j h.
              subst (λ (n : ℕ). Congruent m (times L n v j) (sum 23 (λ i. at (matrix_product m a b) i j * v i))) (add_comm l k)
              (transitive (after_each_other l k v (λ n. at b j n) (at a) j h (λ w. hb.by_rows w j h) (ha.by_columns v))
              (sum_congruent 23 (λ n. sum 23 (λ i. at b j i * at a n i) * v n) (λ n. at (matrix_product m a b) n j * v n)
              (λ n r. mul_congruent
              (opposite (subst (Congruent m (at (matrix_product m a b) n j))
              (sum_same 23 (λ i. at a n i * at b j i) (λ i. at b j i * at a n i) (λ i q. mul_comm (at a n i) (at b j i))) (entry n j r h)))
              (reflexive (v n)))));
        }

  pub raised_power : (a : List (List ℕ)) → MatrixPower m L 1 a → (bits : List Bool) → MatrixPower m L (exponent bits) (raised_to m a bits)
  unfolding exponent raised_to squared
  raised_power a h [] = h
  raised_power a h (false ∷ bits) =
      let k : ℕ = exponent bits in
      let b : List (List ℕ) = raised_to m a bits in
      product_power k k b b (raised_power a h bits) (raised_power a h bits)
  raised_power a h (true ∷ bits) =
      let k : ℕ = exponent bits in
      let b : List (List ℕ) = raised_to m a bits in
      product_power (k + k) 1 (matrix_product m b b) a (product_power k k b b (raised_power a h bits) (raised_power a h bits)) h

rows_at : (i n : ℕ) (f : ℕ → List ℕ) (k : ℕ) → k < n → get_or (rows_from i n f) k [] ≡ f (i + k)
unfolding rows_from
rows_at i zero f k h = absurd (not-suc-le-zero h)
rows_at i (suc n) f zero h = ap f (sym (add-zero i))
rows_at i (suc n) f (suc k) h = rows_at (suc i) n f k (le_of_suc-le-suc h) ∙ ap f (suc-add i k ∙ sym (add-suc i k))

rows_count : (i n : ℕ) (f : ℕ → List ℕ) → length (rows_from i n f) ≡ n
unfolding rows_from
rows_count i zero f = refl
rows_count i (suc n) f = ap suc (rows_count (suc i) n f)

module _ (F : Instance) (B : ℕ) where
  row : ℕ → List ℕ
  row i = tabulate 23 (λ j. B * matrix F (suc i) (suc j) % F.modulus)

  lower_row : (i : ℕ) → i < 23 → get_or (lower_rows F B) i [] ≡ row i
  unfolding lower_rows row
  lower_row i h = rows_at 0 23 (λ i. tabulate 23 (λ j. B * matrix F (suc i) (suc j) % F.modulus)) i h ∙ ap (λ (k : ℕ). row k) (zero-add i)

  lower_at : (i j : ℕ) → i < 23 → j < 23 → Congruent F.modulus (lower F B i j) (at (lower_rows F B) i j)
  unfolding row
  lower_at i j hi hj =
      subst (Congruent F.modulus (lower F B i j))
      (sym (ap (λ (r : List ℕ). get_or r j 0) (lower_row i hi) ∙ tabulate_at 23 (λ k. B * matrix F (suc i) (suc k) % F.modulus) j hj))
      (opposite (remainder F.modulus (B * matrix F (suc i) (suc j))))

  symmetric : (i j : ℕ) → lower F B j i ≡ lower F B i j
  unfolding matrix
  symmetric i j = ap (λ (k : ℕ). B * get_or F.inverses k 0) (omega arith)

  pub lower_power : MatrixPower F.modulus (lower F B) 1 (lower_rows F B)
  unfolding lower_rows times turn row
  lower_power =
      record {
        long = rows_count 0 23 (λ i. tabulate 23 (λ j. B * matrix F (suc i) (suc j) % F.modulus));
        rows_long = λ i h. ap length (lower_row i h) ∙ length_tabulate 23 (λ j. B * matrix F (suc i) (suc j) % F.modulus);
        by_rows = λ v i h.
            sum_congruent 23 (λ j. lower F B i j * v j) (λ j. at (lower_rows F B) i j * v j) (λ j r. mul_congruent (lower_at i j h r) (reflexive (v j)));
        by_columns = λ v j h.
            sum_congruent 23 (λ i. lower F B j i * v i) (λ i. at (lower_rows F B) i j * v i)
            (λ i r. mul_congruent (subst (λ (x : ℕ). Congruent F.modulus x (at (lower_rows F B) i j)) (sym (symmetric i j)) (lower_at i j r h)) (reflexive (v i)));
      }
