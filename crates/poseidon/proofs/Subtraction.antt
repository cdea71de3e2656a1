-- A subtraction of the modulus leaves the remainder.
-- Assumes nothing.
use mathlib.Core.Path.{◌≡◌, ◌∙◌, sym, ap}
use Prim.Native.Nat.{ℕ, ◌+◌, ◌*◌, ◌-◌, ◌%◌, ◌≤◌, ◌<◌}
use native.Mathlib.Nat.{add-mul-mod_self_left, mod-eq_of_lt}
use native.Mathlib.Omega.{arith}

less_one : (m x : ℕ) → m ≤ x → (x - m) % m ≡ x % m
less_one m x h =
    let e : x - m + m * 1 ≡ x = omega arith in
    sym (add-mul-mod_self_left (x - m) m 1) ∙ ap (λ (y : ℕ). y % m) e

pub not_less : {m x : ℕ} → x < m → x ≡ x % m
not_less h = sym (mod-eq_of_lt h)

pub less_once : {m x : ℕ} → m ≤ x → x - m < m → x - m ≡ x % m
less_once {m} {x} h l = not_less l ∙ less_one m x h

pub less_twice : {m x : ℕ} → m ≤ x → m ≤ x - m → x - m - m < m → x - m - m ≡ x % m
less_twice {m} {x} h l k = not_less k ∙ less_one m (x - m) l ∙ less_one m x h
