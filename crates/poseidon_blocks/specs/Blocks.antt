-- The product of a matrix in three blocks of 12 rows with a state. A half of the state stands twice in its list.
use Rattle.std.specs.Prelude.{◌≡◌, ℕ, ◌+◌, ◌*◌, ◌%◌, ◌<◌, ◌≤◌, List, slice_index}
use Rattle.basics.specs.Lists.{sum, Below}
use Rattle.field.proofs.Congruence.{Congruent}
use Rattle.montgomery.specs.Montgomery.{Modulus, Element}
use Rattle.poseidon_rounds.specs.Places.{Each}
use Rattle.poseidon_rounds.specs.Tables.{Blocks}

-- two of the 12 products of row i of block b: its places i + d and i + d + 6, counted round
unfoldable pub block_products : List ℕ → List ℕ → ℕ → ℕ → ℕ → ℕ
block_products t x b i d =
    slice_index t (144 * b + 24 * d + 2 * i) * slice_index x (i + d) + slice_index t (144 * b + 24 * d + 2 * i + 1) * slice_index x (i + d + 6)

-- the products of d pairs of diagonals, low 48 and high 16 bits of sums of four of them apart; where no such sum passes 64 bits, it is right
pub record PartialSum (t x : List ℕ) (b i d low high : ℕ) : Type 0 where
  pub low_fits : low ≤ d * 140737488355328
  pub high_fits : high ≤ d * 32768
  pub right : Below 2130706433 t → Below 2147483648 x → high * 281474976710656 + low ≡ sum d (block_products t x b i)

-- two sums and c, reduced
pub record Closed (low high sharedLow sharedHigh c m q r e : ℕ) : Type 0 where
  pub narrow : e < 4294967296
  pub right : Modulus m q r → Element m (high * 281474976710656 + low + (sharedHigh * 281474976710656 + sharedLow) + c) e

-- row i of a block, with row i of block 2 times the sums of the halves, and c
pub record BlockRow (t x sums : List ℕ) (b i c m q r e : ℕ) : Type 0 where
  pub narrow : e < 4294967296
  pub right : Modulus m q r → Below 2130706433 t → Below 2147483648 x → Below 2147483648 sums
      → Element m (sum 6 (block_products t x b i) + sum 6 (block_products t sums 2 i) + c) e

-- of the first and of the last block
pub record TwoRows (t first last sums : List ℕ) (i c d m q r e f : ℕ) : Type 0 where
  pub at_first : BlockRow t first sums 0 i c m q r e
  pub at_last : BlockRow t last sums 1 i d m q r f

-- the sum of two numbers that are all but below m
pub record Lowered (a b m s : ℕ) : Type 0 where
  pub right : m ≤ 2130706433 → a < m + 1048576 → b < m + 1048576 → (s < 2147483648) × Congruent m s (a + b)

-- row k of a matrix times the state, and c, divided by the word, for each matrix A that the table holds in blocks; all but below m whatever the table holds
pub record MatrixRow (t x : List ℕ) (c m q r k e : ℕ) : Type 0 where
  pub near : Modulus m q r → Below 2130706433 t → ((j : ℕ) → j < 24 → slice_index x j < m + 1048576) → e < m + 1048576
  pub same : (f : ℕ) (A : ℕ → ℕ → ℕ) → Modulus m q r → Below 2130706433 t → ((j : ℕ) → j < 24 → slice_index x j < m + 1048576) → Blocks m f A t
      → Congruent m (e * 4294967296) (sum 24 (λ j. f * A k j * slice_index x j) + c)

-- all rows, each with an addend from the table's row of 24
abbrev pub Product : List ℕ → List ℕ → List ℕ → ℕ → ℕ → ℕ → ℕ → List ℕ → Type 0
Product t x addends row m q r out = Each 24 (λ k. MatrixRow t x (slice_index addends (24 * (row % 11) + k)) m q r k) out
