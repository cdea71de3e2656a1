-- Laws of the product in blocks: its sums fit, and its rows are those of the matrix.
-- Assumes nothing.
use Rattle.std.proofs.Common.{◌≡◌, ℕ, ◌+◌, ◌-◌, ◌*◌, ◌/◌, ◌%◌, ◌^◌, ◌<◌, ◌≤◌, List, length, get_or, set, sym, refl, ap, ◌∙◌, subst, zero-le, not-suc-le-zero, add-zero, mod-eq_of_lt, zero-lt-suc, add-mul, mul-le-mul, add_comm, one-mul, zero-mul, mul-one, mul-add, arith, length-set, get_or-set_other, get_or-set_same}
use native.Mathlib.Nat.{le-pred_of_lt}
use lib.ListN.{get_or-eq_default}
use Rattle.basics.specs.Lists.{sum, Below}
use Rattle.basics.proofs.Below.{at_below, below_at}
use Rattle.basics.proofs.Sums.{sum_same}
use Rattle.field.proofs.Congruence.{Congruent, reflexive, transitive, add_multiple, add_congruent, mul_congruent}
use Rattle.montgomery.specs.Montgomery.{low_product, Modulus, Element, Reduced}
use Rattle.montgomery.proofs.Reduction.{low_product_law}
use Rattle.poseidon_rounds.specs.Places.{Each}
use Rattle.poseidon_rounds.specs.Tables.{block_place, Blocks}
use Rattle.poseidon_rounds.proofs.Congruence.{opposite, sum_congruent}
use Rattle.poseidon_rounds.proofs.Linear.{sum_add}
use Rattle.poseidon_rounds.proofs.Places.{either}
use Rattle.poseidon_blocks.specs.Blocks.{block_products, PartialSum, Closed, BlockRow, Lowered, MatrixRow}
use Rattle.poseidon_matrix.proofs.Laws.{sum_two, high_bound}
use Rattle.poseidon_matrix.proofs.Rotation.{around}

term_bound : (a b : ℕ) → a < 2130706433 → b < 2147483648 → a * b ≤ 4575657219277717504
term_bound a b ha hb = mul-le-mul (le-pred_of_lt ha) (le-pred_of_lt hb)

module _ (t x : List ℕ) (b i : ℕ) where
  next_products : (d : ℕ) → block_products t x b i (d + 1)
      ≡ get_or t (144 * b + 24 * d + 2 * i + 24) 0 * get_or x (i + d + 1) 0 + get_or t (144 * b + 24 * d + 2 * i + 25) 0 * get_or x (i + d + 7) 0
  unfolding block_products
  next_products d =
      let e₁ : 144 * b + 24 * (d + 1) + 2 * i ≡ 144 * b + 24 * d + 2 * i + 24 = omega arith in
      let e₂ : 144 * b + 24 * (d + 1) + 2 * i + 1 ≡ 144 * b + 24 * d + 2 * i + 25 = omega arith in
      let e₃ : i + (d + 1) ≡ i + d + 1 = omega arith in
      let e₄ : i + (d + 1) + 6 ≡ i + d + 7 = omega arith in
      λ n. get_or t (e₁ n) 0 * get_or x (e₃ n) 0 + get_or t (e₂ n) 0 * get_or x (e₄ n) 0

  -- four products further along row i
  sum_four : (d : ℕ) → sum (d + 2) (block_products t x b i)
      ≡ sum d (block_products t x b i)
      + get_or t (144 * b + 24 * d + 2 * i) 0 * get_or x (i + d) 0
      + get_or t (144 * b + 24 * d + 2 * i + 1) 0 * get_or x (i + d + 6) 0
      + get_or t (144 * b + 24 * d + 2 * i + 24) 0 * get_or x (i + d + 1) 0
      + get_or t (144 * b + 24 * d + 2 * i + 25) 0 * get_or x (i + d + 7) 0
  unfolding block_products
  sum_four d = omega (arith, sum_two (block_products t x b i) d, next_products d)

  -- a product of the row is the product of two numbers of 32 bits, and small enough for four of them
  record Term (p place j : ℕ) : Type 0 where
    pub is : p ≡ get_or t place 0 * get_or x j 0
    pub bound : p ≤ 4575657219277717504

  term : (p place j : ℕ) → Below 2130706433 t → Below 2147483648 x → p ≡ low_product (get_or t place 0) (get_or x j 0) → Term p place j
  term p place j ht hx e =
      let a : get_or t place 0 < 2130706433 = below_at 2130706433 (zero-lt-suc _) t ht place in
      let c : get_or x j 0 < 2147483648 = below_at 2147483648 (zero-lt-suc _) x hx j in
      let w : p ≡ get_or t place 0 * get_or x j 0 = e ∙ low_product_law (omega arith) (omega arith) in
      record { is = w; bound = subst (λ (y : ℕ). y ≤ 4575657219277717504) (sym w) (term_bound (get_or t place 0) (get_or x j 0) a c) }

  -- four products more
  pub sum_step : (d low high p₁ p₂ p₃ p₄ four : ℕ)
      → p₁ ≡ low_product (get_or t (144 * b + 24 * d + 2 * i) 0) (get_or x (i + d) 0)
      → p₂ ≡ low_product (get_or t (144 * b + 24 * d + 2 * i + 1) 0) (get_or x (i + d + 6) 0)
      → p₃ ≡ low_product (get_or t (144 * b + 24 * d + 2 * i + 24) 0) (get_or x (i + d + 1) 0)
      → p₄ ≡ low_product (get_or t (144 * b + 24 * d + 2 * i + 25) 0) (get_or x (i + d + 7) 0)
      → (p₁ + p₂ + p₃ + p₄ < 18446744073709551616 → four ≡ p₁ + p₂ + p₃ + p₄) → four < 18446744073709551616
      → PartialSum t x b i d low high → PartialSum t x b i (d + 2) (low + four % 281474976710656) (high + four / 281474976710656)
  sum_step d low high p₁ p₂ p₃ p₄ four e₁ e₂ e₃ e₄ e h s =
      record {
        low_fits = omega (arith, s.low_fits);
        high_fits = omega (arith, s.high_fits);
        right = λ ht hx.
            let t₁ = term p₁ (144 * b + 24 * d + 2 * i) (i + d) ht hx e₁ in
            let t₂ = term p₂ (144 * b + 24 * d + 2 * i + 1) (i + d + 6) ht hx e₂ in
            let t₃ = term p₃ (144 * b + 24 * d + 2 * i + 24) (i + d + 1) ht hx e₃ in
            let t₄ = term p₄ (144 * b + 24 * d + 2 * i + 25) (i + d + 7) ht hx e₄ in
            let f : four ≡ p₁ + p₂ + p₃ + p₄ = e (omega (arith, t₁.bound, t₂.bound, t₃.bound, t₄.bound)) in
            omega (arith, sum_four d, s.right ht hx, t₁.is, t₂.is, t₃.is, t₄.is);
      }

  pub sum_start : PartialSum t x b i 0 0 0
  unfolding sum
  sum_start = record { low_fits = zero-le; high_fits = zero-le; right = λ ht hx. refl }

-- two sums make an element
pub closed : (low high sharedLow sharedHigh c m q r p a e : ℕ) → low ≤ 844424930131968 → high ≤ 196608 → sharedLow ≤ 844424930131968 → sharedHigh ≤ 196608
    → c < 4294967296 → p ≡ low_product (high + sharedHigh) r → a ≡ low + sharedLow + p + c → Reduced a m q e → Closed low high sharedLow sharedHigh c m q r e
closed low high sharedLow sharedHigh c m q r p a e hl hh hl' hh' hc ep ea d =
    record {
      narrow = d.narrow;
      right = λ k.
          let hr : r < 2130706433 = omega (arith, k.reduced, k.small) in
          let w : p ≡ (high + sharedHigh) * r = ep ∙ low_product_law (omega arith) (omega arith) in
          let bound = high_bound (high + sharedHigh) r (omega arith) hr in
          let small = k.small in
          let g = d.right k.inverse (omega arith) in
          let one : Congruent m (low + sharedLow + (high + sharedHigh) * r + c) (low + sharedLow + (high + sharedHigh) * 281474976710656 + c) =
          add_congruent (add_congruent (reflexive (low + sharedLow)) (mul_congruent (reflexive (high + sharedHigh)) k.power)) (reflexive c) in
          let same : low + sharedLow + (high + sharedHigh) * 281474976710656 + c ≡ high * 281474976710656 + low + (sharedHigh * 281474976710656 + sharedLow) + c = omega arith in
          let whole : a ≡ low + sharedLow + (high + sharedHigh) * r + c = ea ∙ ap (λ (y : ℕ). low + sharedLow + y + c) w in
          let two : Congruent m a (high * 281474976710656 + low + (sharedHigh * 281474976710656 + sharedLow) + c) =
          subst (λ (y : ℕ). Congruent m y (high * 281474976710656 + low + (sharedHigh * 281474976710656 + sharedLow) + c)) (sym whole)
          (subst (Congruent m (low + sharedLow + (high + sharedHigh) * r + c)) same one) in
          record { same = transitive g.same two; near = omega (arith, g.bound) };
    }

-- the whole sum of a block's row and of the shared one's
pub block_row : (t x sums : List ℕ) (b i c m q r low high sharedLow sharedHigh e : ℕ) → PartialSum t x b i 6 low high → PartialSum t sums 2 i 6 sharedLow sharedHigh
    → Closed low high sharedLow sharedHigh c m q r e → BlockRow t x sums b i c m q r e
block_row t x sums b i c m q r low high sharedLow sharedHigh e s s' k =
    record {
      narrow = k.narrow;
      right = λ hm ht hx hs.
          subst (λ (y : ℕ). Element m (sum 6 (block_products t x b i) + y + c) e) (s'.right ht hs)
          (subst (λ (y : ℕ). Element m (y + (sharedHigh * 281474976710656 + sharedLow) + c) e) (s.right ht hx) (k.right hm));
    }

-- a difference that wraps round, where it does not
difference : (s p total : ℕ) → (s + p) % 18446744073709551616 ≡ total → s < 18446744073709551616 → p ≤ total → s + p ≡ total
difference s p total e hs hp = omega arith

-- the number of times that m is taken away
once : (total m w p : ℕ) → total < 4294967296 → m ≤ 2130706433 → w ≡ m → p ≡ low_product (total / 2147483648) w → p ≡ (total / 2147483648) * m
once total m w p ht hm ew ep = ep ∙ ap (λ (y : ℕ). low_product (total / 2147483648) y) ew ∙ low_product_law (omega arith) (omega arith)

lowered_by : (a b m total p s : ℕ) → total ≡ a + b → total < 4294967296 → p ≡ (total / 2147483648) * m → (p ≤ total → s + p ≡ total)
    → m ≤ 2130706433 → a < m + 1048576 → b < m + 1048576 → (s < 2147483648) × Congruent m s (a + b)
lowered_by a b m total p s e small product d hm ha hb =
    let below : total < 2147483648 → (s < 2147483648) × Congruent m s (a + b) =
    λ l.
    let none : p ≡ 0 = product ∙ ap (λ (y : ℕ). y * m) (omega arith) ∙ zero-mul m in
    let is : s ≡ a + b = omega (arith, d (omega arith)) in
    (omega arith, rw is (reflexive (a + b))) in
    let above : 2147483648 ≤ total → (s < 2147483648) × Congruent m s (a + b) =
    λ l.
    let one : p ≡ m = product ∙ ap (λ (y : ℕ). y * m) (omega arith) ∙ one-mul m in
    let is : s + m ≡ a + b = omega (arith, d (omega arith)) in
    (omega arith, opposite (subst (λ (y : ℕ). Congruent m y s) (ap (λ (y : ℕ). s + y) (mul-one m) ∙ is) (add_multiple m s 1))) in
    either 2147483648 total (λ g. above (omega arith)) (λ g. below g) (λ g. above (omega arith))

small_sum : (a b m : ℕ) → m ≤ 2130706433 → a < m + 1048576 → b < m + 1048576 → a + b < 4294967296
small_sum a b m hm ha hb = omega arith

-- the sum of two numbers that are all but below m, less m where it has 32 bits
pub lowered : (a b m w total p s : ℕ) → w ≡ m → total ≡ (a + b) % 2 ^ 64 → p ≡ low_product (total / 2147483648) w → (s + p) % 2 ^ 64 ≡ total → s < 18446744073709551616
    → Lowered a b m s
lowered a b m w total p s ew et ep er hs =
    record {
      right = λ hm ha hb.
          let small = small_sum a b m hm ha hb in
          let e : total ≡ a + b = et ∙ mod-eq_of_lt (wide_enough small) in
          let fits : total < 4294967296 = subst (λ (y : ℕ). y < 4294967296) (sym e) small in
          lowered_by a b m total p s e fits (once total m w p fits hm ew ep) (difference s p total er hs) hm ha hb;
    }
  where
    wide_enough : {n : ℕ} → n < 4294967296 → n < 18446744073709551616
    wide_enough h = omega arith

-- the places of the diagonals of a block
near_place : (b i d : ℕ) → i < 12 → d < 6 → block_place b i ((i + d) % 12) ≡ 144 * b + 24 * d + 2 * i
near_place b i d hi hd =
    let e : ((i + d) % 12 + 12 - i) % 12 ≡ d = omega arith in
    let k : d % 6 ≡ d = omega arith in
    let h : d / 6 ≡ 0 = omega arith in
    (λ n. 144 * b + 24 * (e n % 6) + 2 * i + e n / 6) ∙ (λ n. 144 * b + 24 * k n + 2 * i + h n) ∙ add-zero (144 * b + 24 * d + 2 * i)

far_place : (b i d : ℕ) → i < 12 → d < 6 → block_place b i ((i + (d + 6)) % 12) ≡ 144 * b + 24 * d + 2 * i + 1
far_place b i d hi hd =
    let e : ((i + (d + 6)) % 12 + 12 - i) % 12 ≡ d + 6 = omega arith in
    let k : (d + 6) % 6 ≡ d = omega arith in
    let h : (d + 6) / 6 ≡ 1 = omega arith in
    (λ n. 144 * b + 24 * (e n % 6) + 2 * i + e n / 6) ∙ (λ n. 144 * b + 24 * k n + 2 * i + h n)

halves : (h : ℕ → ℕ) → sum 6 (λ d. h d + h (d + 6)) ≡ sum 12 h
unfolding sum
halves h = omega arith

two_halves : (h : ℕ → ℕ) → sum 12 (λ j. h j + h (12 + j)) ≡ sum 24 h
unfolding sum
two_halves h = omega arith

-- the entries of row i of block b
entry : List ℕ → ℕ → ℕ → ℕ → ℕ
entry t b i j = get_or t (block_place b i j) 0

-- a block's row times a list that is alike to v, twice
turned_row : (m : ℕ) (t x : List ℕ) (b i : ℕ) (v : ℕ → ℕ) → i < 12 → ((k : ℕ) → k < 24 → Congruent m (get_or x k 0) (v (k % 12)))
    → Congruent m (sum 6 (block_products t x b i)) (sum 12 (λ j. entry t b i j * v j))
unfolding block_products entry
turned_row m t x b i v hi hv =
    let h : ℕ → ℕ = λ d. get_or t (block_place b i ((i + d) % 12)) 0 * get_or x (i + d) 0 in
    let f : ℕ → ℕ = λ j. get_or t (block_place b i j) 0 * v j in
    let far : (d : ℕ) → i + (d + 6) ≡ i + d + 6 = λ d. omega arith in
    let one : sum 6 (block_products t x b i) ≡ sum 6 (λ d. h d + h (d + 6)) =
    sum_same 6 (block_products t x b i) (λ d. h d + h (d + 6))
    (λ d l n. get_or t (sym (near_place b i d hi l) n) 0 * get_or x (i + d) 0 + get_or t (sym (far_place b i d hi l) n) 0 * get_or x (sym (far d) n) 0) in
    let two : Congruent m (sum 12 h) (sum 12 (λ d. f ((i + d) % 12))) =
    sum_congruent 12 h (λ d. f ((i + d) % 12)) (λ d l. mul_congruent (reflexive (get_or t (block_place b i ((i + d) % 12)) 0)) (hv (i + d) (omega arith))) in
    subst (λ (y : ℕ). Congruent m y (sum 12 f)) (sym (one ∙ halves h)) (subst (Congruent m (sum 12 h)) (around 12 f i) two)

-- the products of one column of a half with the block less the shared one, and of the sum with the shared one
column : (m a s p q x y : ℕ) → Congruent m (a + s) p → Congruent m s q → Congruent m (a * x + s * (x + y)) (p * x + q * y)
column m a s p q x y hp hq =
    let e : (a + s) * x + s * y ≡ a * x + s * (x + y) = omega (arith, add-mul a s x, mul-add s x y) in
    subst (λ (z : ℕ). Congruent m z (p * x + q * y)) e (add_congruent (mul_congruent hp (reflexive x)) (mul_congruent hq (reflexive y)))

-- two blocks' rows make a row of the matrix
module _ {m f : ℕ} {A : ℕ → ℕ → ℕ} {t : List ℕ} (B : Blocks m f A t) (x : List ℕ) (i : ℕ) (hi : i < 12) where
  abbrev lo : ℕ → ℕ
  lo j = get_or x j 0

  abbrev hi' : ℕ → ℕ
  hi' j = get_or x (12 + j) 0

  pub first_row : (first sums : List ℕ) → ((k : ℕ) → k < 24 → get_or first k 0 ≡ get_or x (0 + k % 12) 0)
      → ((k : ℕ) → k < 24 → Congruent m (get_or sums k 0) (get_or x (0 + k % 12) 0 + get_or x (12 + k % 12) 0))
      → Congruent m (sum 6 (block_products t first 0 i) + sum 6 (block_products t sums 2 i)) (sum 24 (λ j. f * A i j * get_or x j 0))
  unfolding entry
  first_row first sums hf hs =
      let h : ℕ → ℕ = λ j. f * A i j * get_or x j 0 in
      let plain : (k : ℕ) → get_or x (0 + k % 12) 0 ≡ lo (k % 12) = λ k. ap (λ (n : ℕ). get_or x n 0) (omega arith) in
      let a = turned_row m t first 0 i lo hi (λ k l. rw (hf k l ∙ plain k) (reflexive (lo (k % 12)))) in
      let s = turned_row m t sums 2 i (λ j. lo j + hi' j) hi (λ k l. subst (λ (n : ℕ). Congruent m (get_or sums k 0) (n + hi' (k % 12))) (plain k) (hs k l)) in
      let both : Congruent m (sum 12 (λ j. entry t 0 i j * lo j) + sum 12 (λ j. entry t 2 i j * (lo j + hi' j))) (sum 12 (λ j. h j + h (12 + j))) =
      subst (λ (n : ℕ). Congruent m n (sum 12 (λ j. h j + h (12 + j)))) (sum_add 12 (λ j. entry t 0 i j * lo j) (λ j. entry t 2 i j * (lo j + hi' j)))
      (sum_congruent 12 (λ j. entry t 0 i j * lo j + entry t 2 i j * (lo j + hi' j)) (λ j. h j + h (12 + j))
      (λ j l. column m (entry t 0 i j) (entry t 2 i j) (f * A i j) (f * A i (12 + j)) (lo j) (hi' j) (B.first i j hi l) (B.columns i j hi l))) in
      transitive (add_congruent a s) (subst (Congruent m (sum 12 (λ j. entry t 0 i j * lo j) + sum 12 (λ j. entry t 2 i j * (lo j + hi' j)))) (two_halves h) both)

  pub last_row : (last sums : List ℕ) → ((k : ℕ) → k < 24 → get_or last k 0 ≡ get_or x (12 + k % 12) 0)
      → ((k : ℕ) → k < 24 → Congruent m (get_or sums k 0) (get_or x (0 + k % 12) 0 + get_or x (12 + k % 12) 0))
      → Congruent m (sum 6 (block_products t last 1 i) + sum 6 (block_products t sums 2 i)) (sum 24 (λ j. f * A (12 + i) j * get_or x j 0))
  unfolding entry
  last_row last sums hl hs =
      let h : ℕ → ℕ = λ j. f * A (12 + i) j * get_or x j 0 in
      let swap : (k : ℕ) → get_or x (0 + k % 12) 0 + hi' (k % 12) ≡ hi' (k % 12) + lo (k % 12) =
      λ k. ap (λ (n : ℕ). get_or x n 0 + hi' (k % 12)) (omega arith) ∙ add_comm (lo (k % 12)) (hi' (k % 12)) in
      let a = turned_row m t last 1 i hi' hi (λ k l. rw (hl k l) (reflexive (hi' (k % 12)))) in
      let s = turned_row m t sums 2 i (λ j. hi' j + lo j) hi (λ k l. subst (Congruent m (get_or sums k 0)) (swap k) (hs k l)) in
      let both : Congruent m (sum 12 (λ j. entry t 1 i j * hi' j) + sum 12 (λ j. entry t 2 i j * (hi' j + lo j))) (sum 12 (λ j. h j + h (12 + j))) =
      subst (λ (n : ℕ). Congruent m n (sum 12 (λ j. h j + h (12 + j)))) (sum_add 12 (λ j. entry t 1 i j * hi' j) (λ j. entry t 2 i j * (hi' j + lo j)))
      (sum_congruent 12 (λ j. entry t 1 i j * hi' j + entry t 2 i j * (hi' j + lo j)) (λ j. h j + h (12 + j))
      (λ j l. subst (Congruent m (entry t 1 i j * hi' j + entry t 2 i j * (hi' j + lo j))) (add_comm (h (12 + j)) (h j))
      (column m (entry t 1 i j) (entry t 2 i j) (f * A (12 + i) (12 + j)) (f * A (12 + i) j) (hi' j) (lo j) (B.last i j hi l) (B.rows i j hi l)))) in
      transitive (add_congruent a s) (subst (Congruent m (sum 12 (λ j. entry t 1 i j * hi' j) + sum 12 (λ j. entry t 2 i j * (hi' j + lo j)))) (two_halves h) both)

below_all : (y : List ℕ) → length y ≡ 24 → ((k : ℕ) → k < 24 → get_or y k 0 < 2147483648) → Below 2147483648 y
below_all y e h =
    let past : (k : ℕ) → 24 ≤ k → get_or y k 0 < 2147483648 =
    λ k l. subst (λ (z : ℕ). z < 2147483648) (sym (get_or-eq_default y 0 {n = k} (omega (arith, e)))) (zero-lt-suc _) in
    at_below 2147483648 y (λ k. either 24 k (λ g. past k (omega arith)) (λ l. h k l) (λ l. past k (omega arith)))

-- the halves of a state twice, and their sums: rows of blocks are rows of the matrix
module _ (t x first last sums : List ℕ) (m : ℕ) (hf : Each 24 (λ k e. e ≡ get_or x (0 + k % 12) 0) first) (hl : Each 24 (λ k e. e ≡ get_or x (12 + k % 12) 0) last)
    (hs : Each 24 (λ k. Lowered (get_or first k 0) (get_or last k 0) m) sums) where
  module _ (small : m ≤ 2130706433) (hx : (j : ℕ) → j < 24 → get_or x j 0 < m + 1048576) where
    first_near : (k : ℕ) → k < 24 → get_or first k 0 < m + 1048576
    first_near k l = subst (λ (z : ℕ). z < m + 1048576) (sym (hf.each k l)) (hx (0 + k % 12) (omega arith))

    last_near : (k : ℕ) → k < 24 → get_or last k 0 < m + 1048576
    last_near k l = subst (λ (z : ℕ). z < m + 1048576) (sym (hl.each k l)) (hx (12 + k % 12) (omega arith))

    first_below : Below 2147483648 first
    first_below = below_all first hf.long (λ k l. omega (arith, first_near k l))

    last_below : Below 2147483648 last
    last_below = below_all last hl.long (λ k l. omega (arith, last_near k l))

    sums_below : Below 2147483648 sums
    sums_below = below_all sums hs.long (λ k l. ((hs.each k l).right small (first_near k l) (last_near k l)).0)

    sums_right : (k : ℕ) → k < 24 → Congruent m (get_or sums k 0) (get_or x (0 + k % 12) 0 + get_or x (12 + k % 12) 0)
    sums_right k l =
        subst (Congruent m (get_or sums k 0)) (λ n. hf.each k l n + hl.each k l n) ((hs.each k l).right small (first_near k l) (last_near k l)).1

  pub at_first_rows : {i c q r e : ℕ} → i < 12 → BlockRow t first sums 0 i c m q r e → MatrixRow t x c m q r i e
  at_first_rows {i} {c} {q} {r} {e} hi b =
      let row : Modulus m q r → Below 2130706433 t → ((j : ℕ) → j < 24 → get_or x j 0 < m + 1048576)
      → Element m (sum 6 (block_products t first 0 i) + sum 6 (block_products t sums 2 i) + c) e =
      λ hm ht hx. b.right hm ht (first_below hm.small hx) (sums_below hm.small hx) in
      record {
        near = λ hm ht hx. (row hm ht hx).near;
        same = λ f A hm ht hx B.
            transitive (row hm ht hx).same (add_congruent (first_row B x i hi first sums hf.each (sums_right hm.small hx)) (reflexive c));
      }

  pub at_last_rows : {i c q r e : ℕ} → i < 12 → BlockRow t last sums 1 i c m q r e → MatrixRow t x c m q r (12 + i) e
  at_last_rows {i} {c} {q} {r} {e} hi b =
      let row : Modulus m q r → Below 2130706433 t → ((j : ℕ) → j < 24 → get_or x j 0 < m + 1048576)
      → Element m (sum 6 (block_products t last 1 i) + sum 6 (block_products t sums 2 i) + c) e =
      λ hm ht hx. b.right hm ht (last_below hm.small hx) (sums_below hm.small hx) in
      record {
        near = λ hm ht hx. (row hm ht hx).near;
        same = λ f A hm ht hx B.
            transitive (row hm ht hx).same (add_congruent (last_row B x i hi last sums hl.each (sums_right hm.small hx)) (reflexive c));
      }

-- a loop that fills a list of 24 elements from the front of either half
pub record FillingHalves (P : ℕ → ℕ → Type 0) (s : List ℕ) (i : ℕ) : Type 0 where
  pub within : i ≤ 12
  pub long : length s ≡ 24
  pub first : (k : ℕ) → k < i → P k (get_or s k 0)
  pub last : (k : ℕ) → k < i → P (12 + k) (get_or s (12 + k) 0)

pub halves_start : {P : ℕ → ℕ → Type 0} {s : List ℕ} → length s ≡ 24 → FillingHalves P s 0
halves_start e = record { within = zero-le; long = e; first = λ k h. absurd (not-suc-le-zero h); last = λ k h. absurd (not-suc-le-zero h) }

pub halves_step : {P : ℕ → ℕ → Type 0} {s : List ℕ} {i : ℕ} (v w : ℕ) → FillingHalves P s i → i < 12 → P i v → P (12 + i) w
    → FillingHalves P (set (set s i v) (12 + i) w) (i + 1)
halves_step {P} {s} {i} v w f h p p' =
    let a : List ℕ = set s i v in
    let b : List ℕ = set a (12 + i) w in
    let la : length a ≡ 24 = length-set s i v ∙ f.long in
    let other : (k : ℕ) → (k ≡ i → ⊥) → (k ≡ 12 + i → ⊥) → get_or b k 0 ≡ get_or s k 0 =
    λ k n₁ n₂. get_or-set_other a (12 + i) k w 0 n₂ ∙ get_or-set_other s i k v 0 n₁ in
    let here : get_or b i 0 ≡ v = get_or-set_other a (12 + i) i w 0 (λ e. omega arith) ∙ get_or-set_same s i v 0 (omega (arith, f.long)) in
    let there : get_or b (12 + i) 0 ≡ w = get_or-set_same a (12 + i) w 0 (omega (arith, la)) in
    record {
      within = omega arith;
      long = length-set a (12 + i) w ∙ la;
      first = λ k l. either i k
          (λ e. subst (λ (j : ℕ). P j (get_or b j 0)) (sym e) (subst (P i) (sym here) p))
          (λ n. subst (P k) (sym (other k (λ e. omega arith) (λ e. omega arith))) (f.first k n))
          (λ n. absurd (omega arith));
      last = λ k l. either i k
          (λ e. subst (λ (j : ℕ). P (12 + j) (get_or b (12 + j) 0)) (sym e) (subst (P (12 + i)) (sym there) p'))
          (λ n. subst (P (12 + k)) (sym (other (12 + k) (λ e. omega arith) (λ e. omega arith))) (f.last k n))
          (λ n. absurd (omega arith));
    }

pub halves_end : {P : ℕ → ℕ → Type 0} {s : List ℕ} {i : ℕ} → FillingHalves P s i → 12 ≤ i → Each 24 P s
halves_end {P} {s} {i} f h =
    record {
      long = f.long;
      each = λ k l.
          let past : 12 ≤ k → P k (get_or s k 0) =
          λ g. let e : 12 + (k - 12) ≡ k = omega arith in
          subst (λ (j : ℕ). P j (get_or s j 0)) e (f.last (k - 12) (omega arith)) in
          either 12 k (λ e. past (omega arith)) (λ g. f.first k (omega arith)) (λ g. past (omega arith));
    }
