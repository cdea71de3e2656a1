-- The product of a matrix, in a table by pairs of diagonals, with a state that stands twice in its list.
use Rattle.std.specs.Prelude.{ℕ, ◌+◌, ◌*◌, ◌%◌, ◌<◌, List, slice_index}
use Rattle.basics.specs.Lists.{sum, Below}
use Rattle.montgomery.specs.Montgomery.{Modulus, Element}
use Rattle.poseidon_rounds.specs.Places.{Each}

-- two of the 24 products of row i: its places i + d and i + d + 12, counted round
unfoldable pub two_products : List ℕ → List ℕ → ℕ → ℕ → ℕ
two_products t x i d = slice_index t (48 * d + 2 * i) * slice_index x (i + d) + slice_index t (48 * d + 2 * i + 1) * slice_index x (i + d + 12)

-- row i of the matrix times the state
unfoldable pub row_sum : List ℕ → List ℕ → ℕ → ℕ
row_sum t x i = sum 12 (two_products t x i)

-- row i of the matrix times the state, and c: where no sum of four products passes 64 bits, e is that divided by the word
pub record Row (t x : List ℕ) (i c m q r e : ℕ) : Type 0 where
  pub narrow : e < 4294967296
  pub right : Modulus m q r → Below 2130706433 t → Below 2131755009 x → Element m (row_sum t x i + c) e

-- all rows, each with an addend from the table's row of 24
abbrev pub Product : List ℕ → List ℕ → List ℕ → ℕ → ℕ → ℕ → ℕ → List ℕ → Type 0
Product t x addends row m q r out = Each 24 (λ k. Row t x k (slice_index addends (24 * (row % 11) + k)) m q r) out
