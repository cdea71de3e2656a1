-- SHA3-256 and its permutation by rule: FIPS 202, sections 3, 4 and 6.
use Rattle.std.specs.Prelude.{◌≡◌, refl, List, ◌++◌, ℕ, suc, ◌+◌, ◌-◌, ◌*◌, ◌/◌, ◌%◌, ◌^◌, length, get_or, set, take, drop, replicate}
use Rattle.std.specs.Int.Bits.{bit_and, bit_xor}
use Rattle.basics.specs.Lists.{tabulate, sum}
use Rattle.keccak_tables.specs.Tables.{offsets, round_constants}
use Rattle.keccak.specs.Permutation as keccak
use Rattle.sha3.specs.Sponge as hash

-- 4, algorithm 8: blocks of 136 bytes in turn, however many they are, each added to the first 17 lanes and permuted; then the first 32 bytes.
pub digests_by_rule : (m p s : List ℕ) (n k : ℕ)
    → (hash.sha3 m ≡ hash.squeeze (hash.absorb (hash.padded m) (length (hash.padded m) / 136)))
    × (hash.absorb p 0 ≡ replicate 25 0)
    × (hash.absorb p (suc n) ≡ keccak.permutation (hash.add_block (hash.absorb p n) (take 136 (drop (136 * n) p))))
    × (hash.add_block s p ≡ tabulate 25 (λ i. bit_xor (get_or s i 0) (hash.lane_at (p ++ replicate 64 0) (8 * i))))
    × (hash.lane_at s k ≡ sum 8 (λ j. get_or s (k + j) 0 * 2 ^ (8 * j)))
    × (hash.squeeze s ≡ tabulate 32 (λ i. get_or s (i / 8) 0 / 2 ^ (8 * (i % 8)) % 256))
unfolding hash.sha3 hash.absorb hash.add_block hash.lane_at hash.squeeze hash.byte_of
digests_by_rule m p s n k = (refl, refl, refl, refl, refl, refl)

-- 3.2, 3.3: the steps on lanes, of which lane x, y stands at x + 5 y, and the rounds.
pub steps_by_rule : (a : List ℕ) (n x i constant : ℕ)
    → let at : ℕ → ℕ → ℕ = λ x y. get_or a (x % 5 + 5 * (y % 5)) 0 in
    let column : ℕ → ℕ = λ x. bit_xor (bit_xor (bit_xor (bit_xor (at x 0) (at x 1)) (at x 2)) (at x 3)) (at x 4) in
    (keccak.rotate x n ≡ x * 2 ^ (n % 64) % 2 ^ 64 + x / 2 ^ (64 - n % 64))
    × (keccak.theta a ≡ tabulate 25 (λ k. bit_xor (at (k % 5) (k / 5)) (bit_xor (column (k % 5 + 4)) (keccak.rotate (column (k % 5 + 1)) 1))))
    × (keccak.rho a ≡ tabulate 25 (λ k. keccak.rotate (at (k % 5) (k / 5)) (get_or offsets (k % 5 % 5 + 5 * (k / 5 % 5)) 0)))
    × (keccak.pi a ≡ tabulate 25 (λ k. at (k % 5 + 3 * (k / 5)) (k % 5)))
    × (keccak.chi a ≡ tabulate 25 (λ k. bit_xor (at (k % 5) (k / 5)) (bit_and (2 ^ 64 - 1 - at (k % 5 + 1) (k / 5)) (at (k % 5 + 2) (k / 5)))))
    × (keccak.iota a constant ≡ set a 0 (bit_xor (at 0 0) constant))
    × (keccak.round a i ≡ keccak.iota (keccak.chi (keccak.pi (keccak.rho (keccak.theta a)))) (get_or round_constants i 0))
    × (keccak.rounds a 0 ≡ a) × (keccak.rounds a (suc i) ≡ keccak.round (keccak.rounds a i) i)
    × (keccak.permutation a ≡ keccak.rounds a 24)
unfolding keccak.state keccak.rotate keccak.parity keccak.effect keccak.theta keccak.rho keccak.pi keccak.chi keccak.iota keccak.round keccak.rounds keccak.permutation
steps_by_rule a n x i constant = (refl, refl, refl, refl, refl, refl, refl, refl, refl, refl)
