-- More laws of congruence modulo any m: sums and powers, a factor taken away, numbers below m.
-- Assumes nothing.
use mathlib.Core.Path.{◌≡◌, ◌∙◌, sym, subst}
use Prim.Native.Nat.{ℕ, zero, suc, ◌*◌, ◌^◌, ◌<◌}
use native.Mathlib.Nat.{mul-one, mul_left_comm, mod-eq_of_lt, pow-zero, pow-suc}
use native.Mathlib.Omega.{arith}
use Rattle.basics.specs.Lists.{sum}
use Rattle.field.proofs.Congruence.{Congruent, reflexive, transitive, add_congruent, mul_congruent}

pub opposite : {m a b : ℕ} → Congruent m a b → Congruent m b a
opposite e = record { same = sym e.same }

-- what 2^32 times u being 1 lets one take away, for any B as 2^32
pub cancel : (m B u a b : ℕ) → Congruent m (u * B) 1 → Congruent m (a * B) (b * B) → Congruent m a b
cancel m B u a b h e =
    let one : (x : ℕ) → Congruent m (u * (x * B)) x =
    λ x. subst (Congruent m (u * (x * B))) (mul-one x)
    (subst (λ (y : ℕ). Congruent m y (x * 1)) (sym (mul_left_comm u x B)) (mul_congruent (reflexive x) h)) in
    transitive (opposite (one a)) (transitive (mul_congruent (reflexive u) e) (one b))

pub sum_congruent : {m : ℕ} (n : ℕ) (f g : ℕ → ℕ) → ((k : ℕ) → k < n → Congruent m (f k) (g k)) → Congruent m (sum n f) (sum n g)
unfolding sum
sum_congruent zero f g h = reflexive 0
sum_congruent (suc n) f g h = add_congruent (sum_congruent n f g (λ k l. h k (omega arith))) (h n (omega arith))

pub pow_congruent : {m a b : ℕ} (k : ℕ) → Congruent m a b → Congruent m (a ^ k) (b ^ k)
pow_congruent {m} {a} {b} zero e = rw (pow-zero a, pow-zero b) (reflexive 1)
pow_congruent {m} {a} {b} (suc k) e = rw (pow-suc a k, pow-suc b k) (mul_congruent (pow_congruent k e) e)

-- two congruent numbers below m are equal
pub equal_below : {m a b : ℕ} → a < m → b < m → Congruent m a b → a ≡ b
equal_below ha hb e = sym (mod-eq_of_lt ha) ∙ e.same ∙ mod-eq_of_lt hb
