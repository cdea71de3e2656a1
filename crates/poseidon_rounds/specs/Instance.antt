-- An instance of Poseidon of width 24, and what its rounds do to each element modulo m, with no remainder taken. The definition of the permutation
-- stands above, in the crate `poseidon`, and its proofs say that its rounds are these.
use Rattle.std.specs.Prelude.{List, ℕ, suc, ◌+◌, ◌*◌, ◌^◌, ◌<◌, get_or}
use Rattle.basics.specs.Lists.{sum}
use Rattle.field.specs.Field.{modulus, power, partial_rounds}
use Rattle.field.specs.declared.Field.{Field}
use Rattle.field.proofs.Congruence.{Congruent}
use Rattle.poseidon_tables.specs.Tables.{constants, inverses}

-- what the rounds of a permutation differ in, from one field to another
pub record Instance : Type 0 where
  pub modulus : ℕ
  pub power : ℕ
  pub partial_rounds : ℕ
  -- 24 to a round
  pub constants : List ℕ
  -- the inverse of k + 24 at place k
  pub inverses : List ℕ

-- a field's instance
unfoldable pub instance_of : Field → Instance
instance_of f = record { modulus = modulus f; power = power f; partial_rounds = partial_rounds f; constants = constants f; inverses = inverses f }

-- the entry of the matrix in row i and column j
unfoldable pub matrix : Instance → ℕ → ℕ → ℕ
matrix F i j = get_or F.inverses (i + j) 0

-- constant i of round r
abbrev pub constant : Instance → ℕ → ℕ → ℕ
constant F r i = get_or F.constants (24 * r + i) 0

-- element i of the state w is what the full round r makes of z
pub record FullRound (F : Instance) (r : ℕ) (z w : List ℕ) : Type 0 where
  pub at : (i : ℕ) → i < 24 → Congruent F.modulus (get_or w i 0) (sum 24 (λ j. matrix F i j * (get_or z j 0 + constant F r j) ^ F.power))

-- and what the partial round r makes of it
pub record PartialRound (F : Instance) (r : ℕ) (z w : List ℕ) : Type 0 where
  pub at : (i : ℕ) → i < 24
      → Congruent F.modulus (get_or w i 0)
      (matrix F i 0 * (get_or z 0 0 + constant F r 0) ^ F.power + sum 23 (λ j. matrix F i (suc j) * (get_or z (suc j) 0 + constant F r (suc j))))
