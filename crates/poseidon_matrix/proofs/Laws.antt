-- Laws of a row's sum.
-- Assumes nothing.
use Rattle.std.proofs.Common.{◌≡◌, ℕ, ◌+◌, ◌*◌, ◌/◌, ◌%◌, ◌^◌, ◌<◌, ◌≤◌, List, get_or, sym, refl, ap, ◌∙◌, subst, mod-eq_of_lt, zero-lt-suc, mul-le-mul, add-one, arith}
use native.Mathlib.Nat.{le-pred_of_lt}
use Rattle.basics.specs.Lists.{sum, Below}
use Rattle.basics.proofs.Below.{below_at}
use Rattle.field.proofs.Congruence.{Congruent, reflexive, transitive, add_congruent, mul_congruent}
use Rattle.montgomery.specs.Montgomery.{low_product, Reduced}
use Rattle.montgomery.proofs.Reduction.{low_product_law}
use Rattle.poseidon_matrix.specs.Matrix.{two_products, row_sum, Row}

-- sums that wrap round, where they fit
pub wrapped_four : (a b c d s t r : ℕ) → s ≡ (a + b) % 2 ^ 64 → t ≡ (s + c) % 2 ^ 64 → r ≡ (t + d) % 2 ^ 64 → a + b + c + d < 18446744073709551616 → r ≡ a + b + c + d
wrapped_four a b c d s t r es et er h =
    let e₁ : s ≡ a + b = es ∙ mod-eq_of_lt (omega arith) in
    let e₂ : t ≡ a + b + c = et ∙ ap (λ (x : ℕ). (x + c) % 18446744073709551616) e₁ ∙ mod-eq_of_lt (omega arith) in
    er ∙ ap (λ (x : ℕ). (x + d) % 18446744073709551616) e₂ ∙ mod-eq_of_lt h

term_bound : (a b : ℕ) → a < 2130706433 → b < 2131755009 → a * b ≤ 4542144106993811456
term_bound a b ha hb = mul-le-mul (le-pred_of_lt ha) (le-pred_of_lt hb)

pub high_bound : (h r : ℕ) → h ≤ 393216 → r < 2130706433 → h * r ≤ 837827860365312
high_bound h r hh hr = mul-le-mul hh (le-pred_of_lt hr)

-- what is reduced fits, whatever the numbers are
pub high_fits : (h r : ℕ) → h ≤ 393216 → low_product h r ≤ 1688849859870720
high_fits h r hh =
    let a : h % 4294967296 ≤ 393216 = omega arith in
    let b : r % 4294967296 ≤ 4294967295 = omega arith in
    mul-le-mul a b

sum_next : (f : ℕ → ℕ) (n k : ℕ) → k ≡ n + 1 → sum k f ≡ sum n f + f n
unfolding sum
sum_next f n k e = rw (e, add-one)

pub sum_two : (f : ℕ → ℕ) (n : ℕ) → sum (n + 2) f ≡ sum n f + f n + f (n + 1)
sum_two f n =
    let e₁ = sum_next f n (n + 1) refl in
    let e₂ = sum_next f (n + 1) (n + 2) (omega arith) in
    omega arith

next_two : (t x : List ℕ) (i d : ℕ) → two_products t x i (d + 1)
    ≡ get_or t (48 * d + 2 * i + 48) 0 * get_or x (i + d + 1) 0 + get_or t (48 * d + 2 * i + 49) 0 * get_or x (i + d + 13) 0
unfolding two_products
next_two t x i d =
    let e₁ : 48 * (d + 1) + 2 * i ≡ 48 * d + 2 * i + 48 = omega arith in
    let e₂ : 48 * (d + 1) + 2 * i + 1 ≡ 48 * d + 2 * i + 49 = omega arith in
    let e₃ : i + (d + 1) ≡ i + d + 1 = omega arith in
    let e₄ : i + (d + 1) + 12 ≡ i + d + 13 = omega arith in
    λ n. get_or t (e₁ n) 0 * get_or x (e₃ n) 0 + get_or t (e₂ n) 0 * get_or x (e₄ n) 0

-- four products further along row i
row_two : (t x : List ℕ) (i d : ℕ) → sum (d + 2) (two_products t x i)
    ≡ sum d (two_products t x i)
    + get_or t (48 * d + 2 * i) 0 * get_or x (i + d) 0
    + get_or t (48 * d + 2 * i + 1) 0 * get_or x (i + d + 12) 0
    + get_or t (48 * d + 2 * i + 48) 0 * get_or x (i + d + 1) 0
    + get_or t (48 * d + 2 * i + 49) 0 * get_or x (i + d + 13) 0
unfolding two_products
row_two t x i d = omega (arith, sum_two (two_products t x i) d, next_two t x i d)

module _ (t x : List ℕ) (i : ℕ) where
  -- a product of the row is the product of two numbers of 32 bits, and small enough for four of them
  record Term (p place j : ℕ) : Type 0 where
    pub is : p ≡ get_or t place 0 * get_or x j 0
    pub bound : p ≤ 4542144106993811456

  term : (p place j : ℕ) → Below 2130706433 t → Below 2131755009 x → p ≡ low_product (get_or t place 0) (get_or x j 0) → Term p place j
  term p place j ht hx e =
      let a : get_or t place 0 < 2130706433 = below_at 2130706433 (zero-lt-suc _) t ht place in
      let b : get_or x j 0 < 2131755009 = below_at 2131755009 (zero-lt-suc _) x hx j in
      let w : p ≡ get_or t place 0 * get_or x j 0 = e ∙ low_product_law (omega arith) (omega arith) in
      record { is = w; bound = subst (λ (y : ℕ). y ≤ 4542144106993811456) (sym w) (term_bound (get_or t place 0) (get_or x j 0) a b) }

  -- four products more
  pub row_step : (d low high p₁ p₂ p₃ p₄ four : ℕ)
      → p₁ ≡ low_product (get_or t (48 * d + 2 * i) 0) (get_or x (i + d) 0)
      → p₂ ≡ low_product (get_or t (48 * d + 2 * i + 1) 0) (get_or x (i + d + 12) 0)
      → p₃ ≡ low_product (get_or t (48 * d + 2 * i + 48) 0) (get_or x (i + d + 1) 0)
      → p₄ ≡ low_product (get_or t (48 * d + 2 * i + 49) 0) (get_or x (i + d + 13) 0)
      → (p₁ + p₂ + p₃ + p₄ < 18446744073709551616 → four ≡ p₁ + p₂ + p₃ + p₄)
      → (Below 2130706433 t → Below 2131755009 x → high * 281474976710656 + low ≡ sum d (two_products t x i))
      → Below 2130706433 t → Below 2131755009 x
      → (high + four / 281474976710656) * 281474976710656 + (low + four % 281474976710656) ≡ sum (d + 2) (two_products t x i)
  row_step d low high p₁ p₂ p₃ p₄ four e₁ e₂ e₃ e₄ e h ht hx =
      let t₁ = term p₁ (48 * d + 2 * i) (i + d) ht hx e₁ in
      let t₂ = term p₂ (48 * d + 2 * i + 1) (i + d + 12) ht hx e₂ in
      let t₃ = term p₃ (48 * d + 2 * i + 48) (i + d + 1) ht hx e₃ in
      let t₄ = term p₄ (48 * d + 2 * i + 49) (i + d + 13) ht hx e₄ in
      let f : four ≡ p₁ + p₂ + p₃ + p₄ = e (omega (arith, t₁.bound, t₂.bound, t₃.bound, t₄.bound)) in
      omega (arith, row_two t x i d, h ht hx, t₁.is, t₂.is, t₃.is, t₄.is)

  -- the two parts of a row's sum make an element
  pub row_end : (c m q r low high p a e : ℕ) → low ≤ 1688849860263936 → high ≤ 393216 → c < 4294967296 → p ≡ low_product high r → a ≡ low + p + c
      → (Below 2130706433 t → Below 2131755009 x → high * 281474976710656 + low ≡ row_sum t x i) → Reduced a m q e → Row t x i c m q r e
  row_end c m q r low high p a e hl hh hc ep ea es d =
      record {
        narrow = d.narrow;
        right = λ k ht hx.
            let hr : r < 2130706433 = omega (arith, k.reduced, k.small) in
            let w : p ≡ high * r = ep ∙ low_product_law (omega arith) (omega arith) in
            let b = high_bound high r hh hr in
            let small = k.small in
            let g = d.right k.inverse (omega arith) in
            let one : Congruent m (low + high * r + c) (low + high * 281474976710656 + c) =
            add_congruent (add_congruent (reflexive low) (mul_congruent (reflexive high) k.power)) (reflexive c) in
            let s = es ht hx in
            let same : low + high * 281474976710656 + c ≡ row_sum t x i + c = omega arith in
            let whole : a ≡ low + high * r + c = ea ∙ ap (λ (y : ℕ). low + y + c) w in
            let two : Congruent m a (row_sum t x i + c) = subst (λ (y : ℕ). Congruent m y (row_sum t x i + c)) (sym whole) (subst (Congruent m (low + high * r + c)) same one) in
            record { same = transitive g.same two; near = omega (arith, g.bound) };
      }
