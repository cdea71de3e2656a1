-- What the reduction and the powers give, for any modulus m. The word is 2^32.
use Rattle.std.specs.Prelude.{◌≡◌, ℕ, ◌+◌, ◌-◌, ◌*◌, ◌/◌, ◌%◌, ◌^◌, ◌<◌, ◌≤◌, ◌⊎◌}
use Rattle.field.proofs.Congruence.{Congruent}

-- the product of the low 32 bits
abbrev pub low_product : ℕ → ℕ → ℕ
low_product a b = (a % 4294967296) * (b % 4294967296)

-- the high 16 of 64 bits, put on the low 48 by r, which is 2^48 modulo m
abbrev pub folded : ℕ → ℕ → ℕ
folded a r = a % 281474976710656 + low_product (a / 281474976710656) r

-- q is -1/m modulo the word
pub record Inverse (m q : ℕ) : Type 0 where
  pub small_m : m < 4294967296
  pub small_q : q < 4294967296
  pub clears : (q * m + 1) % 4294967296 ≡ 0

-- the numbers of a modulus of 31 bits; r is 2^48 modulo m. Both fields' moduli are at most 2130706433.
pub record Modulus (m q r : ℕ) : Type 0 where
  pub small : m ≤ 2130706433
  pub inverse : Inverse m q
  pub power : Congruent m r 281474976710656
  pub reduced : r < m

-- e is a divided by the word modulo m, and at most m above the whole part of that quotient
pub record Divided (m a e : ℕ) : Type 0 where
  pub same : Congruent m (e * 4294967296) a
  pub bound : e * 4294967296 ≤ a + 4294967295 * m

-- the same, of e that is all but below m
pub record Element (m a e : ℕ) : Type 0 where
  pub same : Congruent m (e * 4294967296) a
  pub near : e < m + 1048576

-- the reduction of a, where the multiple of m that it adds fits 64 bits
pub record Reduced (a m q e : ℕ) : Type 0 where
  pub narrow : e < 4294967296
  pub right : Inverse m q → a + 4294967295 * m < 18446744073709551616 → Divided m a e

-- the reduction of any a
pub record ReducedAny (a m q r e : ℕ) : Type 0 where
  pub narrow : e < 4294967296
  pub right : Modulus m q r → Element m a e

-- the reduction of a product
pub record Multiplied (a b m q e : ℕ) : Type 0 where
  pub narrow : e < 4294967296
  pub right : Inverse m q → a < 4294967296 → b < 4294967296 → a * b + 4294967295 * m < 18446744073709551616 → Divided m (a * b) e

-- what a power divides out: a word for each of its products
unfoldable pub scale : ℕ → ℕ
scale power = 4294967296 ^ (power - 1)

-- y is a power of x divided by its scale, and all but below m
pub record PowerOf (m power x y : ℕ) : Type 0 where
  pub same : Congruent m (y * scale power) (x ^ power)
  pub near : y < m + 1048576

-- the powers that there are: the seventh only of the smaller modulus, since its products would not fit
pub record Power (m power : ℕ) : Type 0 where
  pub which : (power ≡ 3) ⊎ ((power ≡ 7) × (m ≤ 2013265921))

-- the power of a number not far above m
pub record RaisedSmall (power x m q r y : ℕ) : Type 0 where
  pub narrow : y < 4294967296
  pub right : Modulus m q r → Power m power → x < m + 4194304 → PowerOf m power x y

-- copies of m and q
pub record Copies (m q m2 q2 m3 q3 m4 q4 : ℕ) : Type 0 where
  pub second_m : m2 ≡ m
  pub second_q : q2 ≡ q
  pub third_m : m3 ≡ m
  pub third_q : q3 ≡ q
  pub fourth_m : m4 ≡ m
  pub fourth_q : q4 ≡ q

-- the power of any number of 32 bits
pub record Raised (power x m q m2 q2 m3 q3 m4 q4 r y : ℕ) : Type 0 where
  pub narrow : y < 4294967296
  pub right : Modulus m q r → Power m power → Copies m q m2 q2 m3 q3 m4 q4 → x < 4294967296 → PowerOf m power x y
