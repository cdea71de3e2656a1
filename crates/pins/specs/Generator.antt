-- The generator of round constants.
use Rattle.std.specs.Prelude.{◌≡◌, refl, List, [], ◌∷◌, ◌++◌, ℕ, suc, ◌+◌, ◌%◌, ◌≤◌, ◌<◌, length, get_or, take, drop, replicate}
use Rattle.std.proofs.Common.{lt-ltb, le-ltb}
use Rattle.basics.specs.Logic.{when◌then◌else◌}
use Rattle.basics.specs.Digits.{digits, number, number_after}
use Rattle.generator.specs.Generator.{first_register, next_bit, shifted, new_bits, output_bits, first_candidates, candidates, kept, found}
use Rattle.generator.proofs.Streams.{candidate_whole, candidate_part}

-- Each step by its rule.
pub generator_by_rule : (n m b c wanted limit : ℕ) (r bits cs : List ℕ)
    → (next_bit r ≡ (get_or r 62 0 + get_or r 51 0 + get_or r 38 0 + get_or r 23 0 + get_or r 13 0 + get_or r 0 0) % 2)
    × (new_bits 0 r ≡ []) × (new_bits (suc n) r ≡ next_bit r ∷ new_bits n (drop 1 r ++ (next_bit r ∷ [])))
    × (output_bits [] ≡ []) × (output_bits (b ∷ []) ≡ []) × (output_bits (0 ∷ b ∷ bits) ≡ output_bits bits) × (output_bits (1 ∷ b ∷ bits) ≡ b ∷ output_bits bits)
    × (length bits < 31 → candidates bits ≡ []) × (length bits ≡ 31 → candidates (bits ++ cs) ≡ number 2 bits ∷ candidates cs)
    × (kept m [] ≡ []) × (c < m → kept m (c ∷ cs) ≡ c ∷ kept m cs) × (m ≤ c → kept m (c ∷ cs) ≡ kept m cs)
    × (found r m wanted limit ≡ take wanted (kept m (candidates (output_bits (drop 160 (new_bits limit r))))))
unfolding next_bit new_bits shifted output_bits kept found when◌then◌else◌
generator_by_rule n m b c wanted limit r bits cs = (
  refl,
  refl,
  refl,
  refl,
  refl,
  refl,
  refl,
  candidate_part bits,
  candidate_whole bits cs,
  refl,
  λ l. rw (lt-ltb c m l) refl,
  λ l. rw (le-ltb c m l) refl,
  refl,
)

-- "field kind 1 (2 bits), power 0 (4), 31 (12), 24 (12), 8 (10)", "the register's 21 changed to 23", "thirty ones"
pub first_register_law :
    first_register 23
    ≡ 0 ∷ 1 ∷ 0 ∷ 0 ∷ 0 ∷ 0 ∷ 0 ∷ 0 ∷ 0 ∷ 0 ∷ 0 ∷ 0 ∷ 0 ∷ 1 ∷ 1 ∷ 1 ∷ 1 ∷ 1 ∷ 0 ∷ 0 ∷ 0 ∷ 0 ∷ 0 ∷ 0 ∷ 0 ∷ 1 ∷ 1 ∷ 0 ∷ 0 ∷ 0
    ∷ 0 ∷ 0 ∷ 0 ∷ 0 ∷ 0 ∷ 0 ∷ 1 ∷ 0 ∷ 0 ∷ 0 ∷ 0 ∷ 0 ∷ 0 ∷ 0 ∷ 0 ∷ 1 ∷ 0 ∷ 1 ∷ 1 ∷ 1 ∷ replicate 30 1
unfolding first_register digits
first_register_law = refl

-- "Later bits go in pairs": one that is left over is not output.
pub bit_left_over : output_bits (0 ∷ 1 ∷ 1 ∷ 0 ∷ 1 ∷ 1 ∷ 1 ∷ []) ≡ 0 ∷ 1 ∷ []
unfolding output_bits when◌then◌else◌
bit_left_over = refl

-- "31 output bits, first highest, make a candidate": 31 of these 61 bits make one, and 30 are too few.
pub bits_left_over : candidates (0 ∷ replicate 60 1) ≡ 1073741823 ∷ []
unfolding candidates first_candidates number number_after
bits_left_over = refl

-- "one of p or more is dropped"
pub candidate_of_p : kept 5 (4 ∷ 5 ∷ 6 ∷ 3 ∷ []) ≡ 4 ∷ 3 ∷ []
unfolding kept when◌then◌else◌
candidate_of_p = refl

-- "The first 160 new bits are dropped."; ".. or 262,144 new bits, dropped ones included": by the second implementation, with 160 bits there is no constant,
-- the 280th completes the first, and the 396th the second.
pub limits_of_new_bits :
    (found (first_register 21) 2013265921 696 159 ≡ [])
    × (found (first_register 21) 2013265921 696 160 ≡ [])
    × (found (first_register 21) 2013265921 696 161 ≡ [])
    × (found (first_register 21) 2013265921 696 279 ≡ [])
    × (found (first_register 21) 2013265921 696 280 ≡ 262278199 ∷ [])
    × (found (first_register 21) 2013265921 696 395 ≡ 262278199 ∷ [])
    × (found (first_register 21) 2013265921 696 396 ≡ 262278199 ∷ 127253399 ∷ [])
    × (found (first_register 21) 2013265921 1 396 ≡ 262278199 ∷ [])
unfolding found kept candidates first_candidates output_bits new_bits shifted next_bit first_register digits number number_after when◌then◌else◌
limits_of_new_bits = (refl, refl, refl, refl, refl, refl, refl, refl)
