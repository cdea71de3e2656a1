-- SHA3-256 of FIPS 202, sections 4 to 6, on strings of whole bytes. Within a byte the lowest bit is first (B.1).
use Rattle.std.specs.Prelude.{List, [], ◌∷◌, ◌++◌, ℕ, zero, suc, ◌+◌, ◌-◌, ◌*◌, ◌/◌, ◌%◌, ◌^◌, length, get_or, take, drop, replicate}
use Rattle.basics.specs.Lists.{tabulate, sum}
use Rattle.keccak.specs.Permutation.{◌⊕◌, permutation}

-- B.1: the bytes that bits make up, eight bits to a byte
unfoldable pub bytes : List ℕ → List ℕ
bytes bits = tabulate (length bits / 8) (λ i. sum 8 (λ k. get_or bits (8 * i + k) 0 * 2 ^ k))

-- 5.1, algorithm 9: 1, then (- m - 2) mod x zeros, then 1
unfoldable pub pad10*1 : ℕ → ℕ → List ℕ
pad10*1 x m = 1 ∷ replicate ((x - (m + 2) % x) % x) 0 ++ (1 ∷ [])

-- 6.1: the message, the bits 01, and the padding to a multiple of the rate of 1088 bits
unfoldable pub padded : List ℕ → List ℕ
padded m = m ++ bytes (0 ∷ 1 ∷ pad10*1 1088 (8 * length m + 2))

-- B.2, table 6: k bytes of padding. That `padded` ends in these is a theorem (`claims/Primitives.padding_by_bytes`).
unfoldable pub padding : ℕ → List ℕ
padding zero = []
padding (suc zero) = 0x86 ∷ []
padding (suc (suc k)) = 0x06 ∷ replicate k 0 ++ (0x80 ∷ [])

-- 3.1.2, B.1: the lane that eight bytes from the byte k on make up, lowest byte first (little-endian)
unfoldable pub lane_at : List ℕ → ℕ → ℕ
lane_at s k = sum 8 (λ j. get_or s (k + j) 0 * 2 ^ (8 * j))

-- 4, algorithm 8, step 4: the block n of a padded message
abbrev pub block : List ℕ → ℕ → List ℕ
block p n = take 136 (drop (136 * n) p)

-- 4, algorithm 8, step 6: the lane i of S ⊕ (P ‖ 0^c), where P is a block and 0^c are the 64 zero bytes of the capacity
abbrev pub added_lane : List ℕ → List ℕ → ℕ → ℕ
added_lane s p i = get_or s i 0 ⊕ lane_at (p ++ replicate 64 0) (8 * i)

-- 4, algorithm 8, step 6: S ⊕ (P ‖ 0^c)
unfoldable pub add_block : List ℕ → List ℕ → List ℕ
add_block s p = tabulate 25 (added_lane s p)

-- 4, algorithm 8, steps 5 and 6: the state after the first n blocks
unfoldable pub absorb : List ℕ → ℕ → List ℕ
absorb p zero = replicate 25 0
absorb p (suc n) = permutation (add_block (absorb p n) (block p n))

-- 3.1.3, B.1: the byte i of the state
unfoldable pub byte_of : List ℕ → ℕ → ℕ
byte_of a i = get_or a (i / 8) 0 / 2 ^ (8 * (i % 8)) % 256

-- 4, algorithm 8, steps 8 and 9: the first 32 bytes of the state
unfoldable pub squeeze : List ℕ → List ℕ
squeeze a = tabulate 32 (byte_of a)

-- 6.1, 4: SHA3-256, of the padded message's blocks of 136 bytes
unfoldable pub sha3 : List ℕ → List ℕ
sha3 m = squeeze (absorb (padded m) (length (padded m) / 136))
