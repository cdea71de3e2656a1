-- The Poseidon permutation, as document 01 fixes it under "Field and permutation", and document 02 for a second field. A state is a list of 24 numbers.
use Rattle.std.specs.Prelude.{not, List, ℕ, zero, suc, ◌+◌, ◌*◌, ◌%◌, ◌^◌, ltb, get_or, set}
use Rattle.basics.specs.Logic.{when◌then◌else◌, all}
use Rattle.basics.specs.Lists.{tabulate, sum}
use Rattle.basics.specs.Numbers.{accepted, element_not_reduced, field_unknown}
use Rattle.field.specs.Field.{modulus, power, partial_rounds, is_field, field_of, is_element}
use Rattle.field.specs.declared.Field.{Field}
use Rattle.poseidon_tables.specs.Tables.{constants, inverses}

-- the parameters of a Poseidon permutation of width 24 with 4 + 4 full rounds
pub record Parameters : Type 0 where
  pub modulus : ℕ
  pub power : ℕ
  pub partial_rounds : ℕ
  -- 24 to a round
  pub constants : List ℕ
  -- the inverse of k + 24 at place k
  pub inverses : List ℕ

-- "A round adds its 24 constants"
unfoldable pub add_constants : Parameters → ℕ → List ℕ → List ℕ
add_constants F r s = tabulate 24 (λ i. (get_or s i 0 + get_or F.constants (24 * r + i) 0) % F.modulus)

-- "raises all elements (full)"
unfoldable pub raise_all : Parameters → List ℕ → List ℕ
raise_all F s = tabulate 24 (λ i. get_or s i 0 ^ F.power % F.modulus)

-- "or element 0 alone (partial)"
unfoldable pub raise_first : Parameters → List ℕ → List ℕ
raise_first F s = set s 0 (get_or s 0 0 ^ F.power % F.modulus)

-- "4 full, 21 partial, 4 full": what the round r raises
unfoldable pub raise : Parameters → ℕ → List ℕ → List ℕ
raise F r s = when ltb r 4 then raise_all F s else when ltb r (4 + F.partial_rounds) then raise_first F s else raise_all F s

-- "the matrix whose entry at row i, column j is the inverse of i + j + 24"
unfoldable pub matrix : Parameters → ℕ → ℕ → ℕ
matrix F i j = get_or F.inverses (i + j) 0

-- "then multiplies by the matrix"
unfoldable pub multiply : Parameters → List ℕ → List ℕ
multiply F s = tabulate 24 (λ i. sum 24 (λ j. matrix F i j * get_or s j 0) % F.modulus)

-- "A round adds its 24 constants; raises all elements (full) or element 0 alone (partial) to the seventh power; then multiplies by the matrix";
-- "Field 2 uses the third power"
abbrev pub round : Parameters → ℕ → List ℕ → List ℕ
round F r s = multiply F (raise F r (add_constants F r s))

-- the first n rounds
unfoldable pub rounds : Parameters → ℕ → List ℕ → List ℕ
rounds F zero s = s
rounds F (suc r) s = round F r (rounds F r s)

-- "One permutation is 29 rounds: 4 full, 21 partial, 4 full."; "4 full, 23 partial and 4 full rounds"
unfoldable pub permutation : Parameters → List ℕ → List ℕ
permutation F s = rounds F (4 + F.partial_rounds + 4) s

-- the parameters of a field's permutation
unfoldable pub parameters : Field → Parameters
parameters f = record { modulus = modulus f; power = power f; partial_rounds = partial_rounds f; constants = constants f; inverses = inverses f }

-- a number, and the state that comes with it
pub record Permuted : Type 0 where
  pub number : ℕ
  pub state : List ℕ

-- "18: field number neither 1 nor 2 .. before 10 in the bare permutation, which gives its input back"; 10 is for "an element of p or more"
unfoldable pub permuted : ℕ → List ℕ → Permuted
permuted field s =
    when not (is_field field) then record { number = field_unknown; state = s }
    else when not (all (is_element (field_of field)) s) then record { number = element_not_reduced; state = s }
    else record { number = accepted; state = permutation (parameters (field_of field)) s }
