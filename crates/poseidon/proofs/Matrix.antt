-- The rule of the matrix's entries.
-- Assumes nothing.
use mathlib.Core.Path.{◌≡◌}
use Prim.Native.Nat.{ℕ, ◌+◌, ◌*◌, ◌%◌, ◌<◌}
use native.Mathlib.Omega.{arith}
use lib.ListN.{get_or}
use Rattle.field.specs.Field.{modulus}
use Rattle.field.specs.declared.Field.{Field}
use Rattle.poseidon_tables.proofs.Entries.{inverses_rule}
use Rattle.poseidon.specs.Permutation.{Parameters, matrix, parameters}

-- a table of 47 inverses gives every entry
entries : (F : Parameters) → ((k : ℕ) → k < 47 → get_or F.inverses k 0 * (k + 24) % F.modulus ≡ 1)
    → (i j : ℕ) → i < 24 → j < 24 → matrix F i j * (i + j + 24) % F.modulus ≡ 1
unfolding matrix
entries F inverses i j hi hj = inverses (i + j) (omega arith)

-- "the matrix whose entry at row i, column j is the inverse of i + j + 24"
pub matrix_rule : (f : Field) (i j : ℕ) → i < 24 → j < 24 → matrix (parameters f) i j * (i + j + 24) % modulus f ≡ 1
unfolding parameters
matrix_rule f = entries (parameters f) (inverses_rule f)
