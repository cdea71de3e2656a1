-- The library's rotation is the definition's: the two shifted parts have no bit in common, so that their or is their sum.
-- Assumes nothing.
use mathlib.Core.Path.{◌≡◌, ◌∙◌, sym, ap, ap₂}
use Prim.Native.Nat.{ℕ, zero, suc, ◌-◌, ◌+◌, ◌*◌, ◌/◌, ◌%◌, ◌^◌, ◌<◌}
use native.Mathlib.Nat.{mul-mod_left, add_comm, add-zero, mul-one, mod-eq_of_lt, div-eq_of_lt, div-one}
use native.Mathlib.Omega.{arith}
use lib.Bits.{bit_or, or_shifted, or_self}
use lib.Pow.{mod-pow-add, shl-shr, shr_lt}
use Rattle.std.specs.Int.{w64, rotate_left}

-- a number of w bits, its low j bits shifted left by k and its high k bits shifted right by j
or_is_sum : (x j k w : ℕ) → j + k ≡ w → x < 2 ^ w → bit_or (x * 2 ^ k % 2 ^ w) (x / 2 ^ j) ≡ x * 2 ^ k % 2 ^ w + x / 2 ^ j
or_is_sum x j k w e h =
    let low : x * 2 ^ k % 2 ^ w ≡ (x % 2 ^ j) * 2 ^ k =
    ap (λ (n : ℕ). x * 2 ^ k % 2 ^ n) (sym e) ∙ mod-pow-add (x * 2 ^ k) j k
    ∙ ap₂ (λ (m n : ℕ). m % 2 ^ j * 2 ^ k + n) (shl-shr x k) (mul-mod_left x (2 ^ k)) ∙ add-zero (x % 2 ^ j * 2 ^ k)
    in
    rw low (or_shifted (x % 2 ^ j) k (x / 2 ^ j) (shr_lt k j (rw (add_comm k j, e) h)))

-- by no place
by_none : (x w : ℕ) → x < 2 ^ w → x ≡ x * 1 % 2 ^ w + x / 2 ^ w
by_none x w h = rw (mul-one, mod-eq_of_lt h, div-eq_of_lt h, add-zero)

-- the library's rotation to the left by fewer places than there are, which shifts by none to the right where it shifts by none to the left
pub by_fewer : (x k : ℕ) → x < 2 ^ 64 → k < 64 → rotate_left w64 x k ≡ x * 2 ^ k % 2 ^ 64 + x / 2 ^ (64 - k)
by_fewer x zero h below = rw (mul-one, mod-eq_of_lt h, div-one) (or_self x) ∙ by_none x 64 h
by_fewer x (suc k) h below =
    let n = suc k in
    let left : n % 64 ≡ n = mod-eq_of_lt below in
    let right : (64 - n) % 64 ≡ 64 - n = mod-eq_of_lt (omega arith) in
    rw (left, right) (or_is_sum x (64 - n) n 64 (omega arith) h)
