-- Montgomery's reduction: what it adds clears the low half, and what is left is a divided by the word modulo m.
-- Assumes nothing.
use Rattle.std.proofs.Common.{◌≡◌, ℕ, ◌+◌, ◌*◌, ◌/◌, ◌%◌, ◌^◌, ◌<◌, ◌≤◌, sym, ap, ◌∙◌, subst, mul-le-mul_right, mod-lt, mod-eq_of_lt, zero-lt-suc, mul_assoc, mul_comm, mul-le-mul, add_comm, mul-zero, div-add-mod', mul-one, mul-add, arith}
use native.Mathlib.Nat.{mod-add-div', le-pred_of_lt}
use Rattle.field.proofs.Congruence.{Congruent, reflexive, transitive, remainder, add_multiple, add_congruent, mul_congruent}
use Rattle.montgomery.specs.Montgomery.{low_product, folded, Modulus, Divided, Reduced, ReducedAny, Multiplied}

-- for any B, as 2^32: what is added to a makes it a multiple of B
multiple : (B a q m : ℕ) → Congruent B (q * m + 1) 0 → Congruent B (a + (a % B * q) % B * m) 0
multiple B a q m h =
    let k : Congruent B ((a % B * q) % B * m) (a * q * m) =
    mul_congruent (transitive (remainder B (a % B * q)) (mul_congruent (remainder B a) (reflexive q))) (reflexive m) in
    let e : a + a * q * m ≡ a * (q * m + 1) =
    sym (mul-add a (q * m) 1 ∙ (λ i. sym (mul_assoc a q m) i + mul-one a i) ∙ add_comm (a * q * m) a) in
    let z : Congruent B (a * (q * m + 1)) (a * 0) = mul_congruent (reflexive a) h in
    transitive (add_congruent (reflexive a) k) (rw (e, ← mul-zero a) z)

divided : (a q m : ℕ) → (q * m + 1) % 4294967296 ≡ 0
    → Divided m a ((a + (a % 4294967296 * q) % 4294967296 * m) / 4294967296)
divided a q m h =
    let k : ℕ = (a % 4294967296 * q) % 4294967296 in
    let s : ℕ = a + k * m in
    let z : s % 4294967296 ≡ 0 = (multiple 4294967296 a q m (record { same = h })).same in
    let e : s / 4294967296 * 4294967296 ≡ s = omega (arith, div-add-mod' s 4294967296) in
    let b : k * m ≤ 4294967295 * m = mul-le-mul_right m (le-pred_of_lt (mod-lt (a % 4294967296 * q) {m = 4294967296} (zero-lt-suc _))) in
    record {
      same = rw (e, mul_comm k m) (add_multiple m a k);
      bound = omega arith;
    }

multiple_bound : (k m : ℕ) → k % 4294967296 * m ≤ 4294967295 * m
multiple_bound k m = mul-le-mul_right m (le-pred_of_lt (mod-lt k {m = 4294967296} (zero-lt-suc _)))

-- numbers of 32 bits are their low 32 bits
pub low_product_law : {a b : ℕ} → a < 4294967296 → b < 4294967296 → low_product a b ≡ a * b
low_product_law {a} {b} ha hb = λ i. mod-eq_of_lt ha i * mod-eq_of_lt hb i

-- what the code computes
pub reduction : (a m q s e : ℕ) → a < 18446744073709551616 → s ≡ (a + low_product (low_product a q) m) % 2 ^ 64 → e ≡ s / 4294967296 → Reduced a m q e
reduction a m q s e ha es ee =
    let bits : s < 18446744073709551616 = subst (λ (x : ℕ). x < 18446744073709551616) (sym es) (mod-lt (a + low_product (low_product a q) m) {m = 18446744073709551616} (zero-lt-suc _)) in
    record {
      narrow = omega arith;
      right = λ i h.
          let k : ℕ = a % 4294967296 * q in
          let p : low_product (low_product a q) m ≡ k % 4294967296 * m =
          λ j. (a % 4294967296 * mod-eq_of_lt i.small_q j) % 4294967296 * mod-eq_of_lt i.small_m j in
          let b : k % 4294967296 * m ≤ 4294967295 * m = multiple_bound k m in
          let whole : s ≡ a + k % 4294967296 * m = es ∙ ap (λ (x : ℕ). (a + x) % 18446744073709551616) p ∙ mod-eq_of_lt (omega arith) in
          subst (Divided m a) (ap (λ (x : ℕ). x / 4294967296) (sym whole) ∙ sym ee) (divided a q m i.clears);
    }

-- what the fold adds
pub fold_fits : (a r : ℕ) → a < 18446744073709551616 → low_product (a / 281474976710656) r ≤ 281470681677825
fold_fits a r h =
    let high : a / 281474976710656 % 4294967296 ≤ 65535 = omega arith in
    let low : r % 4294967296 ≤ 4294967295 = omega arith in
    mul-le-mul high low

-- the fold keeps the number modulo m, and makes it small
fold_bound : (a r : ℕ) → a < 18446744073709551616 → r < 2130706433 → a % 281474976710656 + a / 281474976710656 * r ≤ 421110822731775
fold_bound a r ha hr =
    let low : a % 281474976710656 < 281474976710656 = mod-lt a (zero-lt-suc _) in
    let high : a / 281474976710656 ≤ 65535 = omega arith in
    let product : a / 281474976710656 * r ≤ 139635846021120 = mul-le-mul high (le-pred_of_lt hr) in
    omega arith

fold_congruent : (m q r a : ℕ) → Modulus m q r → Congruent m (a % 281474976710656 + a / 281474976710656 * r) a
fold_congruent m q r a k =
    let e : a % 281474976710656 + a / 281474976710656 * 281474976710656 ≡ a = mod-add-div' a 281474976710656 in
    subst (Congruent m (a % 281474976710656 + a / 281474976710656 * r)) e
    (add_congruent (reflexive (a % 281474976710656)) (mul_congruent (reflexive (a / 281474976710656)) k.power))

pub record Folded (m a f : ℕ) : Type 0 where
  pub same : Congruent m f a
  pub bound : f ≤ 421110822731775

pub fold_right : (m q r a : ℕ) → Modulus m q r → a < 18446744073709551616 → Folded m a (folded a r)
fold_right m q r a k h =
    let hr : r < 2130706433 = omega (arith, k.reduced, k.small) in
    let e : folded a r ≡ a % 281474976710656 + a / 281474976710656 * r = ap (λ (x : ℕ). a % 281474976710656 + x) (low_product_law (omega arith) (omega arith)) in
    subst (Folded m a) (sym e) (record { same = fold_congruent m q r a k; bound = fold_bound a r h hr })

pub reduction_of_any : (a m q r f e : ℕ) → a < 18446744073709551616 → f ≡ folded a r → Reduced f m q e → ReducedAny a m q r e
reduction_of_any a m q r f e ha ef d =
    record {
      narrow = d.narrow;
      right = λ k.
          let g : Folded m a f = subst (Folded m a) (sym ef) (fold_right m q r a k ha) in
          let small = k.small in
          let b = g.bound in
          let x = d.right k.inverse (omega arith) in
          record { same = transitive x.same g.same; near = omega (arith, x.bound) };
    }

pub multiplication : (a b m q p e : ℕ) → p ≡ low_product a b → Reduced p m q e → Multiplied a b m q e
multiplication a b m q p e ep d =
    record {
      narrow = d.narrow;
      right = λ i ha hb h.
          let w : p ≡ a * b = ep ∙ low_product_law ha hb in
          subst (λ (x : ℕ). Divided m x e) w (d.right i (subst (λ (x : ℕ). x + 4294967295 * m < 18446744073709551616) (sym w) h));
    }

-- numbers of 32 bits, as numbers of 64
pub reduced_at : {a m q m' q' e : ℕ} → m' ≡ m → q' ≡ q → Reduced a m' q' e → Reduced a m q e
reduced_at {a} {m} {q} {m'} {q'} {e} em eq d = subst (λ (x : ℕ). Reduced a m x e) eq (subst (λ (x : ℕ). Reduced a x q' e) em d)

pub reduced_any_at : {a m q r m' q' r' e : ℕ} → m' ≡ m → q' ≡ q → r' ≡ r → ReducedAny a m' q' r' e → ReducedAny a m q r e
reduced_any_at {a} {m} {q} {r} {m'} {q'} {r'} {e} em eq er d =
    subst (λ (x : ℕ). ReducedAny a m q x e) er (subst (λ (x : ℕ). ReducedAny a m x r' e) eq (subst (λ (x : ℕ). ReducedAny a x q' r' e) em d))
