-- Products with a matrix are linear; a row goes to the other side of a product.
-- Assumes nothing.
use mathlib.Core.Path.{◌≡◌, ◌∙◌, sym, ap, ap₂, refl, fun_ext}
use Prim.Native.Nat.{ℕ, zero, suc, ◌+◌, ◌*◌, ◌<◌}
use native.Mathlib.Nat.{mul_assoc, mul_comm, mul-add, mul-zero, mul_left_comm, add_comm}
use native.Mathlib.Omega.{arith}
use Rattle.basics.specs.Lists.{sum}
use Rattle.basics.proofs.Sums.{sum_same}
use Rattle.field.proofs.Congruence.{Congruent, reflexive, mul_congruent}
use Rattle.poseidon_rounds.specs.Linear.{turn, times, scaled}
use Rattle.poseidon_rounds.proofs.Congruence.{sum_congruent}

-- sums
pub sum_add : (n : ℕ) (f g : ℕ → ℕ) → sum n (λ j. f j + g j) ≡ sum n f + sum n g
unfolding sum
sum_add zero f g = refl
sum_add (suc n) f g = omega (arith, sum_add n f g)

pub sum_times : (n c : ℕ) (f : ℕ → ℕ) → sum n (λ j. c * f j) ≡ c * sum n f
unfolding sum
sum_times zero c f = sym (mul-zero c)
sum_times (suc n) c f = ap (λ (x : ℕ). x + c * f n) (sum_times n c f) ∙ sym (mul-add c (sum n f) (f n))

pub sum_zero : (n : ℕ) → sum n (λ j. 0) ≡ 0
unfolding sum
sum_zero zero = refl
sum_zero (suc n) = omega (arith, sum_zero n)

-- the first term apart
pub sum_first : (n : ℕ) (f : ℕ → ℕ) → sum (suc n) f ≡ f 0 + sum n (λ j. f (suc j))
unfolding sum
sum_first zero f = omega arith
sum_first (suc n) f = omega (arith, sum_first n f)

pub sum_swap : (n k : ℕ) (f : ℕ → ℕ → ℕ) → sum n (λ i. sum k (λ j. f i j)) ≡ sum k (λ j. sum n (λ i. f i j))
unfolding sum
sum_swap zero k f = sym (sum_zero k)
sum_swap (suc n) k f =
    ap (λ (x : ℕ). x + sum k (λ j. f n j)) (sum_swap n k f) ∙ sym (sum_add k (λ j. sum n (λ i. f i j)) (λ j. f n j))

-- a row's product with y a + b
linear_term : (l y a b : ℕ) → l * (y * a + b) ≡ y * (l * a) + l * b
linear_term l y a b = mul-add l (y * a) b ∙ ap (λ (x : ℕ). x + l * b) (mul_left_comm l y a)

pub row_linear : (n y : ℕ) (l a b : ℕ → ℕ) → sum n (λ j. l j * (y * a j + b j)) ≡ y * sum n (λ j. l j * a j) + sum n (λ j. l j * b j)
row_linear n y l a b =
    sum_same n (λ j. l j * (y * a j + b j)) (λ j. y * (l j * a j) + l j * b j) (λ j h. linear_term (l j) y (a j) (b j))
    ∙ sum_add n (λ j. y * (l j * a j)) (λ j. l j * b j)
    ∙ ap (λ (x : ℕ). x + sum n (λ j. l j * b j)) (sum_times n y (λ j. l j * a j))

module _ (L : ℕ → ℕ → ℕ) where
  turn_linear : (y : ℕ) (a b : ℕ → ℕ) → turn L (λ i. y * a i + b i) ≡ (λ i. y * turn L a i + turn L b i)
  unfolding turn
  turn_linear y a b = fun_ext (λ i. row_linear 23 y (L i) a b)

  pub times_linear : (k y : ℕ) (a b : ℕ → ℕ) → times L k (λ i. y * a i + b i) ≡ (λ i. y * times L k a i + times L k b i)
  unfolding times
  times_linear zero y a b = refl
  times_linear (suc k) y a b = ap (times L k) (turn_linear y a b) ∙ times_linear k y (turn L a) (turn L b)

  pub times_zero : (k : ℕ) → times L k (λ i. 0) ≡ (λ i. 0)
  unfolding times turn
  times_zero zero = refl
  times_zero (suc k) =
      ap (times L k) (fun_ext (λ i. sum_same 23 (λ j. L i j * 0) (λ j. 0) (λ j h. mul-zero (L i j)) ∙ sum_zero 23)) ∙ times_zero k

  pub times_scale : (k y : ℕ) (a : ℕ → ℕ) → times L k (λ i. y * a i) ≡ (λ i. y * times L k a i)
  times_scale k y a =
      ap (times L k) (fun_ext (λ i. omega arith))
      ∙ times_linear k y a (λ i. 0)
      ∙ fun_ext (λ i. ap (λ (f : ℕ → ℕ). y * times L k a i + f i) (times_zero k) ∙ omega arith)

  pub times_turn : (k : ℕ) (v : ℕ → ℕ) → times L k (turn L v) ≡ turn L (times L k v)
  unfolding times
  times_turn zero v = refl
  times_turn (suc k) v = times_turn k (turn L v)

  -- a sum of n vectors, each with a factor
  pub times_sum : (k n : ℕ) (u : ℕ → ℕ) (w : ℕ → ℕ → ℕ) → times L k (λ i. sum n (λ j. w j i * u j)) ≡ (λ i. sum n (λ j. times L k (w j) i * u j))
  unfolding sum
  times_sum k zero u w = times_zero k
  times_sum k (suc n) u w =
      ap (times L k) (fun_ext (λ i. add_comm (sum n (λ j. w j i * u j)) (w n i * u n) ∙ ap (λ (x : ℕ). x + sum n (λ j. w j i * u j)) (mul_comm (w n i) (u n))))
      ∙ times_linear k (u n) (w n) (λ i. sum n (λ j. w j i * u j))
      ∙ fun_ext (λ i.
      ap₂ (λ (x y : ℕ). x + y) (mul_comm (u n) (times L k (w n) i)) (ap (λ (f : ℕ → ℕ). f i) (times_sum k n u w))
      ∙ add_comm (times L k (w n) i * u n) (sum n (λ j. times L k (w j) i * u j)))

  turn_same : {m : ℕ} (f g : ℕ → ℕ) → ((i : ℕ) → i < 23 → Congruent m (f i) (g i)) → (i : ℕ) → Congruent m (turn L f i) (turn L g i)
  unfolding turn
  turn_same f g h i = sum_congruent 23 (λ j. L i j * f j) (λ j. L i j * g j) (λ j l. mul_congruent (reflexive (L i j)) (h j l))

  pub times_same : {m : ℕ} (k : ℕ) (f g : ℕ → ℕ) → ((i : ℕ) → i < 23 → Congruent m (f i) (g i)) → (i : ℕ) → i < 23 → Congruent m (times L k f i) (times L k g i)
  unfolding times
  times_same zero f g h i l = h i l
  times_same (suc k) f g h i l = times_same k (turn L f) (turn L g) (λ j r. turn_same f g h j) i l

  -- a row times the matrix, times a vector
  pub row_turn : (h v : ℕ → ℕ) → sum 23 (λ i. h i * turn L v i) ≡ sum 23 (λ j. sum 23 (λ i. h i * L i j) * v j)
  unfolding turn
  row_turn h v =
      sum_same 23 (λ i. h i * sum 23 (λ j. L i j * v j)) (λ i. sum 23 (λ j. h i * L i j * v j))
      (λ i l. sym (sum_times 23 (h i) (λ j. L i j * v j)) ∙ sum_same 23 (λ j. h i * (L i j * v j)) (λ j. h i * L i j * v j) (λ j r. sym (mul_assoc (h i) (L i j) (v j))))
      ∙ sum_swap 23 23 (λ i j. h i * L i j * v j)
      ∙ sum_same 23 (λ j. sum 23 (λ i. h i * L i j * v j)) (λ j. sum 23 (λ i. h i * L i j) * v j)
      (λ j l.
      sum_same 23 (λ i. h i * L i j * v j) (λ i. v j * (h i * L i j)) (λ i r. mul_comm (h i * L i j) (v j))
      ∙ sum_times 23 (v j) (λ i. h i * L i j)
      ∙ mul_comm (v j) (sum 23 (λ i. h i * L i j)))

-- the factor of a matrix
pub turn_scaled : (b : ℕ) (N : ℕ → ℕ → ℕ) (v : ℕ → ℕ) → turn (scaled b N) v ≡ (λ i. b * turn N v i)
unfolding turn
turn_scaled b N v =
    fun_ext (λ i.
    sum_same 23 (λ j. b * N i j * v j) (λ j. b * (N i j * v j)) (λ j h. mul_assoc b (N i j) (v j)) ∙ sum_times 23 b (λ j. N i j * v j))
