-- The permutation Keccak-f[1600] of FIPS 202, section 3, on lanes.
-- A lane A[x, y] is a number of 64 bits, and its bit z is A[x, y, z]. A state is a list of 25 lanes.
use Rattle.std.specs.Prelude.{List, ℕ, zero, suc, ◌+◌, ◌-◌, ◌*◌, ◌/◌, ◌%◌, ◌^◌, get_or, set}
use Rattle.std.specs.Int.Bits.{bit_and, bit_xor}
use Rattle.basics.specs.Lists.{tabulate}
use Rattle.keccak_tables.specs.Tables.{offsets, round_constants}

-- 3.1.2: A[x, y] stands at x + 5 y, its coordinates modulo 5
abbrev pub lane : List ℕ → ℕ → ℕ → ℕ
lane a x y = get_or a (x % 5 + 5 * (y % 5)) 0

-- 3.1.2: the state whose lane A[x, y] is f x y
unfoldable pub state : (ℕ → ℕ → ℕ) → List ℕ
state f = tabulate 25 (λ i. f (i % 5) (i / 5))

-- 2.3: the exclusive or of each bit
infixl 40 ◌⊕◌
abbrev pub ◌⊕◌ : ℕ → ℕ → ℕ
x ⊕ y = bit_xor x y

-- 3.2.4: every bit ⊕ 1
abbrev pub complement : ℕ → ℕ
complement x = 2 ^ 64 - 1 - x

-- 3.2.1, 3.2.2: rotation to the left; bit z goes to bit (z + n) mod 64
unfoldable pub rotate : ℕ → ℕ → ℕ
rotate x n = x * 2 ^ (n % 64) % 2 ^ 64 + x / 2 ^ (64 - n % 64)

-- 3.2.1, step 1: C[x], the parity of each column of the sheet x
unfoldable pub parity : List ℕ → ℕ → ℕ
parity a x = lane a x 0 ⊕ lane a x 1 ⊕ lane a x 2 ⊕ lane a x 3 ⊕ lane a x 4

-- 3.2.1, step 2: D[x], of C[x - 1] and C[x + 1], x modulo 5
unfoldable pub effect : List ℕ → ℕ → ℕ
effect a x = parity a (x + 4) ⊕ rotate (parity a (x + 1)) 1

-- 3.2.1, step 3: A'[x, y]
abbrev pub theta_lane : List ℕ → ℕ → ℕ → ℕ
theta_lane a x y = lane a x y ⊕ effect a x

-- 3.2.1, algorithm 1
unfoldable pub theta : List ℕ → List ℕ
theta a = state (theta_lane a)

-- 3.2.2: A'[x, y], its offset read from table 2
abbrev pub rho_lane : List ℕ → ℕ → ℕ → ℕ
rho_lane a x y = rotate (lane a x y) (lane offsets x y)

-- 3.2.2, algorithm 2
unfoldable pub rho : List ℕ → List ℕ
rho a = state (rho_lane a)

-- 3.2.3: A'[x, y]
abbrev pub pi_lane : List ℕ → ℕ → ℕ → ℕ
pi_lane a x y = lane a (x + 3 * y) x

-- 3.2.3, algorithm 3
unfoldable pub pi : List ℕ → List ℕ
pi a = state (pi_lane a)

-- 3.2.4: A'[x, y]
abbrev pub chi_lane : List ℕ → ℕ → ℕ → ℕ
chi_lane a x y = lane a x y ⊕ bit_and (complement (lane a (x + 1) y)) (lane a (x + 2) y)

-- 3.2.4, algorithm 4
unfoldable pub chi : List ℕ → List ℕ
chi a = state (chi_lane a)

-- 3.2.5, algorithm 6: the round constant is added to A[0, 0]
unfoldable pub iota : List ℕ → ℕ → List ℕ
iota a constant = set a 0 (lane a 0 0 ⊕ constant)

-- 3.3: Rnd, the round i
unfoldable pub round : List ℕ → ℕ → List ℕ
round a i = iota (chi (pi (rho (theta a)))) (get_or round_constants i 0)

-- 3.3, algorithm 7: the first n rounds
unfoldable pub rounds : List ℕ → ℕ → List ℕ
rounds a zero = a
rounds a (suc i) = round (rounds a i) i

-- 3.4: Keccak-f[1600] has 24 rounds
unfoldable pub permutation : List ℕ → List ℕ
permutation a = rounds a 24
