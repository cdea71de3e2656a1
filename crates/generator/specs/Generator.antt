-- Poseidon's Grain generator of round constants (document 01, "Field and permutation"), on lists of bits.
use Rattle.std.specs.Prelude.{not, List, [], ◌∷◌, ◌++◌, ℕ, zero, suc, ◌+◌, ◌*◌, ◌/◌, ◌%◌, eqb, ltb, length, get_or, take, drop, replicate}
use Rattle.basics.specs.Logic.{when◌then◌else◌}
use Rattle.basics.specs.Lists.{zero_padded}
use Rattle.basics.specs.Digits.{digits, number}
use Rattle.basics.specs.Numbers.{accepted, field_unknown}
use Rattle.field.specs.Field.{modulus, partial_rounds, is_field, field_of}
use Rattle.field.specs.declared.Field.{Field}

-- "An 80-bit register starts as, from bit 0 on and each number high bit first: field kind 1 (2 bits), power 0 (4),
-- 31 (12), 24 (12), 8 (10), 21 (10), thirty ones.", where 21 is how many partial rounds the permutation has: "with the register's 21 changed to 23"
unfoldable pub first_register : ℕ → List ℕ
first_register partial_rounds =
    digits 2 2 1 ++ (digits 2 4 0 ++ (digits 2 12 31 ++ (digits 2 12 24 ++ (digits 2 10 8 ++ (digits 2 10 partial_rounds ++ replicate 30 1)))))

-- "The next bit is the exclusive or of register bits 62, 51, 38, 23, 13 and 0": the parity of their sum
unfoldable pub next_bit : List ℕ → ℕ
next_bit r = (get_or r 62 0 + get_or r 51 0 + get_or r 38 0 + get_or r 23 0 + get_or r 13 0 + get_or r 0 0) % 2

-- "where bit 0 is the oldest and leaves"
unfoldable pub shifted : List ℕ → List ℕ
shifted r = drop 1 r ++ (next_bit r ∷ [])

-- the first n new bits, from the register r on
unfoldable pub new_bits : ℕ → List ℕ → List ℕ
new_bits zero r = []
new_bits (suc n) r = next_bit r ∷ new_bits n (shifted r)

-- "Later bits go in pairs: if the first is 1, the second is output, else neither."
unfoldable pub output_bits : List ℕ → List ℕ
output_bits [] = []
output_bits (first ∷ []) = []
output_bits (first ∷ second ∷ bits) = (when eqb first 1 then second ∷ [] else []) ++ output_bits bits

-- "31 output bits, first highest, make a candidate": the first n candidates
unfoldable pub first_candidates : ℕ → List ℕ → List ℕ
first_candidates zero bits = []
first_candidates (suc n) bits = number 2 (take 31 bits) ∷ first_candidates n (drop 31 bits)

-- all candidates that the bits make
unfoldable pub candidates : List ℕ → List ℕ
candidates bits = first_candidates (length bits / 31) bits

-- "one of p or more is dropped"
unfoldable pub kept : ℕ → List ℕ → List ℕ
kept modulus [] = []
kept modulus (candidate ∷ rest) = (when ltb candidate modulus then candidate ∷ [] else []) ++ kept modulus rest

-- "The first 160 new bits are dropped." "It stops at 696 constants or 262,144 new bits, dropped ones included", here at any number
-- wanted and any limit: the constants found among the first limit new bits from a register on, at most wanted of them
unfoldable pub found : List ℕ → ℕ → ℕ → ℕ → List ℕ
found register modulus wanted limit = take wanted (kept modulus (candidates (output_bits (drop 160 (new_bits limit register)))))

-- how many constants a field's permutation has, 24 to a round: 696, "so 744 constants"
abbrev pub constant_count : Field → ℕ
constant_count f = 24 * (4 + partial_rounds f + 4)

-- the constants of a field's permutation: the register for its partial rounds, candidates below its p; "It stops at 696 constants or 262,144 new bits"
unfoldable pub generated : Field → List ℕ
generated f = found (first_register (partial_rounds f)) (modulus f) (constant_count f) 262144

-- what a field number gives: 0 with the constants, zeros behind them and how many they are; or 18 with zeros alone, and none found
pub record Generated : Type 0 where
  pub number : ℕ
  pub constants : List ℕ
  pub count : ℕ

-- a number with constants: "whose list has 744 places in either field", zeros in the places left, and how many were found
unfoldable pub with_constants : ℕ → List ℕ → Generated
with_constants number constants = record { number = number; constants = zero_padded 744 constants; count = length constants }

-- "18: field number neither 1 nor 2 .. in the generator, whose list .. then holds zeros, none found"
unfoldable pub generation : ℕ → Generated
generation field = when not (is_field field) then with_constants field_unknown [] else with_constants accepted (generated (field_of field))
