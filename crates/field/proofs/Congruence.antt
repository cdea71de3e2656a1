-- Congruence modulo any m: remainders may be taken before or after sums and products.
-- Assumes nothing.
use mathlib.Core.Path.{◌≡◌, ◌∙◌, sym, ap, refl}
use Prim.Native.Nat.{ℕ, ◌+◌, ◌*◌, ◌/◌, ◌%◌}
use native.Mathlib.Nat.{add-mul, mul_assoc, mul_comm, mul-one, add-mod, mod-add-div, mod-mod, add-mul-mod_self_left}

pub record Congruent (m a b : ℕ) : Type 0 where
  pub same : a % m ≡ b % m

pub reflexive : {m : ℕ} (a : ℕ) → Congruent m a a
reflexive a = record { same = refl }

pub transitive : {m a b c : ℕ} → Congruent m a b → Congruent m b c → Congruent m a c
transitive ab bc = record { same = ab.same ∙ bc.same }

pub remainder : (m a : ℕ) → Congruent m (a % m) a
remainder m a = record { same = mod-mod a m }

pub add_multiple : (m a k : ℕ) → Congruent m (a + m * k) a
add_multiple m a k = record { same = add-mul-mod_self_left a m k }

mul_left : (m a b : ℕ) → (a % m * b) % m ≡ (a * b) % m
mul_left m a b =
    sym (add-mul-mod_self_left (a % m * b) m (a / m * b))
    ∙ ap (λ (x : ℕ). (a % m * b + x) % m) (sym (mul_assoc m (a / m) b))
    ∙ ap (λ (x : ℕ). x % m) (sym (add-mul (a % m) (m * (a / m)) b))
    ∙ ap (λ (x : ℕ). (x * b) % m) (mod-add-div a m)

mul_both : (m a b : ℕ) → (a % m) * (b % m) % m ≡ a * b % m
mul_both m a b =
    mul_left m a (b % m) ∙ rw (mul_comm a (b % m), mul_comm a b) (mul_left m b a)

pub mul_congruent : {m a b c d : ℕ} → Congruent m a b → Congruent m c d → Congruent m (a * c) (b * d)
mul_congruent {m} {a} {b} {c} {d} ab cd =
    record { same = sym (mul_both m a c) ∙ (λ i. (ab.same i * cd.same i) % m) ∙ mul_both m b d }

pub add_congruent : {m a b c d : ℕ} → Congruent m a b → Congruent m c d → Congruent m (a + c) (b + d)
add_congruent {m} {a} {b} {c} {d} ab cd =
    record { same = add-mod a c m ∙ (λ i. (ab.same i + cd.same i) % m) ∙ sym (add-mod b d m) }

-- what a reduced result is congruent to
pub reduced : {m a b : ℕ} → a ≡ b % m → Congruent m a b
reduced {m} {a} {b} e = rw e (remainder m b)

-- what a factor does, one that is its inverse undoes
pub inverse_undoes : (m a b x : ℕ) → a * b % m ≡ 1 % m → x * a % m * b % m ≡ x % m
inverse_undoes m a b x e =
    (mul_congruent (remainder m (x * a)) (reflexive b)).same
    ∙ ap (λ (y : ℕ). y % m) (mul_assoc x a b)
    ∙ (mul_congruent (reflexive x) (record { same = e })).same
    ∙ ap (λ (y : ℕ). y % m) (mul-one x)
