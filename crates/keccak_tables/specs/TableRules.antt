-- FIPS 202's own rules for the tables of the permutation. proofs/TablesByRule.antt proves that the tables are what they give.
use Rattle.std.specs.Prelude.{List, ◌∷◌, ℕ, zero, suc, ◌+◌, ◌-◌, ◌*◌, ◌/◌, ◌%◌, ◌^◌, get_or, take, set, replicate}
use Rattle.std.specs.Int.Bits.{bit_xor}
use Rattle.basics.specs.Lists.{tabulate, sum}

-- 3.2.2, algorithm 2, step 3: n steps from the step t on, at the lane x, y
unfoldable pub walk : ℕ → ℕ → ℕ → ℕ → List ℕ → List ℕ
walk zero t x y table = table
walk (suc n) t x y table = walk n (t + 1) y ((2 * x + 3 * y) % 5) (set table (x + 5 * y) ((t + 1) * (t + 2) / 2))

-- 3.2.2, algorithm 2: the lane 0, 0 stays, and the walk of 24 steps begins at 1, 0
unfoldable pub offsets_by_rule : List ℕ
offsets_by_rule = walk 24 0 1 0 (replicate 25 0)

-- 3.2.5, algorithm 5, step 3: R[i] = R[i] ⊕ R[8]
unfoldable pub add_bit8 : ℕ → List ℕ → List ℕ
add_bit8 i r = set r i (bit_xor (get_or r i 0) (get_or r 8 0))

-- 3.2.5, algorithm 5, step 3: a zero in front; then R[0], R[4], R[5] and R[6]; then the first eight bits
unfoldable pub step : List ℕ → List ℕ
step r = take 8 (add_bit8 6 (add_bit8 5 (add_bit8 4 (add_bit8 0 (0 ∷ r)))))

-- 3.2.5, algorithm 5, steps 2 and 3: the register after n steps
unfoldable pub register : ℕ → List ℕ
register zero = 1 ∷ replicate 7 0
register (suc n) = step (register n)

-- 3.2.5, algorithm 5: rc(t); no step where t mod 255 is 0, which gives the 1 of step 1
unfoldable pub rc : ℕ → ℕ
rc t = get_or (register (t % 255)) 0 0

-- 3.2.5, algorithm 6, steps 2 and 3: bit 2^j - 1 is rc(j + 7 i), for j from 0 to 6
unfoldable pub round_constant : ℕ → ℕ
round_constant i = sum 7 (λ j. rc (j + 7 * i) * 2 ^ (2 ^ j - 1))

-- 3.2.5: the round constants of the 24 rounds
unfoldable pub round_constants_by_rule : List ℕ
round_constants_by_rule = tabulate 24 round_constant
