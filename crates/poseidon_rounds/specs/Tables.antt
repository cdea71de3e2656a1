-- The tables of the fast permutation, for an instance F. The word is 2^32.
use Rattle.std.specs.Prelude.{◌≡◌, List, ℕ, zero, suc, ◌+◌, ◌*◌, ◌-◌, ◌%◌, ◌/◌, ◌<◌, get_or}
use Rattle.field.proofs.Congruence.{Congruent}
use Rattle.montgomery.specs.Montgomery.{scale}
use Rattle.poseidon_rounds.specs.Instance.{Instance, matrix, constant}
use Rattle.poseidon_rounds.specs.Linear.{times}
use Rattle.poseidon_rounds.specs.Sparse.{running, carried, lower, SparseTables}

-- a table of the matrix A by pairs of diagonals, with a factor c: diagonals d and d + 12 side by side
pub record Diagonals (m c : ℕ) (A : ℕ → ℕ → ℕ) (t : List ℕ) : Type 0 where
  pub near : (i d : ℕ) → i < 24 → d < 12 → Congruent m (get_or t (48 * d + 2 * i) 0) (c * A i ((i + d) % 24))
  pub far : (i d : ℕ) → i < 24 → d < 12 → Congruent m (get_or t (48 * d + 2 * i + 1) 0) (c * A i ((i + d + 12) % 24))

-- the place of the entry in row i and column j of block b in a table of blocks of 12 rows, each by pairs of diagonals: d and d + 6 side by side
abbrev pub block_place : ℕ → ℕ → ℕ → ℕ
block_place b i j = 144 * b + 24 * ((j + 12 - i) % 12 % 6) + 2 * i + (j + 12 - i) % 12 / 6

-- a table of the matrix A in such blocks, with a factor c: block 2 is both that of the last columns and that of the last rows, and blocks 0 and 1 are the
-- other two less block 2
pub record Blocks (m c : ℕ) (A : ℕ → ℕ → ℕ) (t : List ℕ) : Type 0 where
  pub first : (i j : ℕ) → i < 12 → j < 12 → Congruent m (get_or t (block_place 0 i j) 0 + get_or t (block_place 2 i j) 0) (c * A i j)
  pub last : (i j : ℕ) → i < 12 → j < 12 → Congruent m (get_or t (block_place 1 i j) 0 + get_or t (block_place 2 i j) 0) (c * A (12 + i) (12 + j))
  pub columns : (i j : ℕ) → i < 12 → j < 12 → Congruent m (get_or t (block_place 2 i j) 0) (c * A i (12 + j))
  pub rows : (i j : ℕ) → i < 12 → j < 12 → Congruent m (get_or t (block_place 2 i j) 0) (c * A (12 + i) j)

-- the pre-sparse matrix, by which the state goes into the partial rounds
unfoldable pub pre_sparse : Instance → ℕ → ℕ → ℕ → ℕ
pre_sparse F B zero j = matrix F 0 j
pre_sparse F B (suc i) j = B * times (lower F B) F.partial_rounds (λ l. matrix F (suc l) j) i

-- what is added before the partial rounds, and behind them
unfoldable pub addend_before : Instance → ℕ → ℕ
addend_before F zero = carried F F.partial_rounds 0
addend_before F (suc i) = 0

unfoldable pub addend_after : Instance → ℕ → ℕ
addend_after F zero = 0
addend_after F (suc i) = running F F.partial_rounds i

-- F is of modulus m and of the power, and t is its matrix; u is the word's inverse, c the word times the power's scale
pub record FullTable (F : Instance) (m power u c : ℕ) (t addends : List ℕ) : Type 0 where
  pub modulus : F.modulus ≡ m
  pub power_right : F.power ≡ power
  pub unit : Congruent m (u * 4294967296) 1
  pub factor : Congruent m c (4294967296 * scale power)
  pub blocks : Blocks m c (matrix F) t
  pub zeros : (i : ℕ) → i < 24 → Congruent m (get_or addends (240 + i) 0) 0

-- the constants of n rounds from round r on stand in a table from 24 * first on
pub record Constants (F : Instance) (m : ℕ) (addends : List ℕ) (first r n : ℕ) : Type 0 where
  pub right : (k i : ℕ) → k < n → i < 24 → Congruent m (get_or addends (24 * first + 24 * k + i) 0) (constant F (r + k) i)

-- the tables of F. The rows of addends: constants of four full rounds, what is added before the partial rounds and behind them, constants of four
-- full rounds, zeros. `word` is the word modulo m.
pub record TablesOf (F : Instance) (m power n word first_entry u c : ℕ) (t e sparse first_constants addends : List ℕ) : Type 0 where
  pub full : FullTable F m power u c t addends
  pub rounds : F.partial_rounds ≡ n
  pub early : Constants F m addends 0 0 4
  pub late : Constants F m addends 6 (4 + n) 4
  pub pre_sparse_diagonals : Diagonals m c (pre_sparse F 4294967296) e
  pub before : (i : ℕ) → i < 24 → Congruent m (get_or addends (96 + i) 0) (addend_before F i * 4294967296)
  pub after : (i : ℕ) → i < 24 → Congruent m (get_or addends (120 + i) 0) (addend_after F i * 4294967296)
  pub word_right : Congruent m word 4294967296
  pub sparse_right : SparseTables F 4294967296 (scale power) first_entry sparse first_constants
