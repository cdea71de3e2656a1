-- Tests that a table of the sparse form passes if it is right; each is computed when the check is run.
use Rattle.std.specs.Prelude.{Bool, true, false, List, [], ◌∷◌, ℕ, zero, suc, ◌+◌, ◌*◌, ◌-◌, ◌%◌, ◌/◌, eqb, get_or, drop}
use Rattle.basics.specs.Logic.{◌and◌}
use Rattle.basics.specs.Lists.{tabulate}
use Rattle.poseidon_rounds.specs.Instance.{Instance, matrix, constant}
use Rattle.poseidon_rounds.specs.Sparse.{carried}
use Rattle.poseidon_rounds.specs.Tables.{block_place}

-- two lists, element by element modulo m
unfoldable pub alike : ℕ → List ℕ → List ℕ → Bool
alike m [] [] = true
alike m [] (y ∷ ys) = false
alike m (x ∷ xs) [] = false
alike m (x ∷ xs) (y ∷ ys) = eqb (x % m) (y % m) and alike m xs ys

-- the test passes at each number below n
unfoldable pub every : (ℕ → Bool) → ℕ → Bool
every f zero = true
every f (suc n) = f n and every f n

unfoldable pub dot : List ℕ → List ℕ → ℕ
dot [] h = 0
dot (x ∷ v) h = get_or h 0 0 * x + dot v (drop 1 h)

-- B times the products of v with n rows: the entries of h from place 0 on, from place 1 on, ..
unfoldable pub products : ℕ → ℕ → ℕ → List ℕ → List ℕ → List ℕ
products m B zero v h = []
products m B (suc n) v h = B * dot v h % m ∷ products m B n v (drop 1 h)

-- the lower part of the matrix times v, times B
unfoldable pub turned : Instance → ℕ → List ℕ → List ℕ
turned F B v = products F.modulus B 23 v (drop 2 F.inverses)

-- the first column and the first row of the sparse matrix of round s, without the entry that they share
unfoldable pub column_of : List ℕ → ℕ → List ℕ
column_of sparse s = tabulate 23 (λ i. get_or sparse (48 * s + 48 + 2 * suc i) 0)

unfoldable pub row_of : List ℕ → ℕ → List ℕ
row_of sparse s = tabulate 23 (λ i. get_or sparse (48 * s + 2 * suc i + 1) 0)

-- the last column is that of the matrix; each before it is the matrix's product with the next one
unfoldable pub column_test : Instance → ℕ → ℕ → List ℕ → ℕ → ℕ → Bool
column_test F B K sparse s zero = alike F.modulus (column_of sparse s) (tabulate 23 (λ i. K * B * matrix F (suc i) 0))
column_test F B K sparse s (suc k) = alike F.modulus (column_of sparse s) (turned F B (column_of sparse (suc s)))

-- the last row times the matrix is its first row; each before it gives the next one
unfoldable pub row_test : Instance → ℕ → List ℕ → ℕ → ℕ → Bool
row_test F B sparse s zero = alike F.modulus (turned F B (row_of sparse s)) (tabulate 23 (λ j. B * matrix F 0 (suc j)))
row_test F B sparse s (suc k) = alike F.modulus (turned F B (row_of sparse s)) (row_of sparse (suc s))

unfoldable pub zero_test : Instance → List ℕ → ℕ → Bool
zero_test F sparse s = eqb (get_or sparse (48 * s + 2 * 0 + 1) 0 % F.modulus) (0 % F.modulus)

-- the running constants, with those of round s
unfoldable pub running_with : Instance → ℕ → List ℕ → List ℕ
running_with F s e = tabulate 23 (λ j. get_or e j 0 + constant F (4 + s) (suc j))

unfoldable pub running_of : Instance → ℕ → List ℕ
running_of F zero = tabulate 23 (λ i. 0)
running_of F (suc s) = turned F 1 (running_with F s (running_of F s))

-- what is added to element 0 in round s
unfoldable pub first_constant_test : Instance → ℕ → List ℕ → ℕ → ℕ → Bool
first_constant_test F B first_constants s k =
    eqb (get_or first_constants s 0 % F.modulus) ((dot (running_with F s (running_of F s)) (drop 1 F.inverses) + carried F k (suc s)) * B % F.modulus)

-- of k rounds from round s on, with the running constants e before round s
unfoldable pub first_constants_from : Instance → ℕ → List ℕ → ℕ → ℕ → List ℕ → Bool
first_constants_from F B first_constants s zero e = true
first_constants_from F B first_constants s (suc k) e =
    eqb (get_or first_constants s 0 % F.modulus) ((dot (running_with F s e) (drop 1 F.inverses) + carried F k (suc s)) * B % F.modulus)
    and first_constants_from F B first_constants (suc s) k (turned F 1 (running_with F s e))

-- of all rounds
unfoldable pub sparse_test : Instance → ℕ → ℕ → List ℕ → Bool
sparse_test F B K sparse =
    every (λ s. column_test F B K sparse s (F.partial_rounds - suc s) and row_test F B sparse s (F.partial_rounds - suc s) and zero_test F sparse s) F.partial_rounds

unfoldable pub first_constants_test : Instance → ℕ → List ℕ → Bool
first_constants_test F B first_constants = first_constants_from F B first_constants 0 F.partial_rounds (tabulate 23 (λ i. 0))

-- the products of a row with each row of a matrix, and of each row of a matrix with each row of another
unfoldable pub row_products : ℕ → List ℕ → List (List ℕ) → List ℕ
row_products m r [] = []
row_products m r (b ∷ bs) = dot b r % m ∷ row_products m r bs

unfoldable pub matrix_product : ℕ → List (List ℕ) → List (List ℕ) → List (List ℕ)
matrix_product m [] bs = []
matrix_product m (r ∷ rs) bs = row_products m r bs ∷ matrix_product m rs bs

-- the rows of a matrix, from row i on
unfoldable pub rows_from : ℕ → ℕ → (ℕ → List ℕ) → List (List ℕ)
rows_from i zero f = []
rows_from i (suc n) f = f i ∷ rows_from (suc i) n f

-- the lower part of the matrix, times B
unfoldable pub lower_rows : Instance → ℕ → List (List ℕ)
lower_rows F B = rows_from 0 23 (λ i. tabulate 23 (λ j. B * matrix F (suc i) (suc j) % F.modulus))

-- a power of a matrix by squarings: the exponent's bits below the highest, lowest first
unfoldable pub exponent : List Bool → ℕ
exponent [] = 1
exponent (false ∷ bits) = exponent bits + exponent bits
exponent (true ∷ bits) = exponent bits + exponent bits + 1

unfoldable pub squared : ℕ → List (List ℕ) → List (List ℕ)
squared m a = matrix_product m a a

unfoldable pub raised_to : ℕ → List (List ℕ) → List Bool → List (List ℕ)
raised_to m a [] = a
raised_to m a (false ∷ bits) = squared m (raised_to m a bits)
raised_to m a (true ∷ bits) = matrix_product m (squared m (raised_to m a bits)) a

-- the place of the entry in row i and column j in a table of a matrix by pairs of diagonals
abbrev pub diagonal_place : ℕ → ℕ → ℕ
diagonal_place i j = 48 * ((j + 24 - i) % 24 % 12) + 2 * i + (j + 24 - i) % 24 / 12

-- row i of such a table
unfoldable pub diagonal_row : List ℕ → ℕ → List ℕ
diagonal_row t i = tabulate 24 (λ j. get_or t (diagonal_place i j) 0)

-- row i of block 2 of a table of blocks, and of block b with block 2
unfoldable pub shared_row : List ℕ → ℕ → List ℕ
shared_row t i = tabulate 12 (λ j. get_or t (block_place 2 i j) 0)

unfoldable pub whole_row : List ℕ → ℕ → ℕ → List ℕ
whole_row t b i = tabulate 12 (λ j. get_or t (block_place b i j) 0 + get_or t (block_place 2 i j) 0)

-- such a table holds the matrix, times c
unfoldable pub matrix_test : Instance → ℕ → List ℕ → Bool
matrix_test F c t =
    every
    (λ i.
    alike F.modulus (shared_row t i) (tabulate 12 (λ j. c * matrix F i (12 + j)))
    and alike F.modulus (whole_row t 0 i) (tabulate 12 (λ j. c * matrix F i j))
    and alike F.modulus (whole_row t 1 i) (tabulate 12 (λ j. c * matrix F (12 + i) (12 + j))))
    12

-- a table by pairs of diagonals holds the pre-sparse matrix, times c: a is the power of the lower part
unfoldable pub pre_sparse_from : Instance → ℕ → ℕ → List ℕ → ℕ → List (List ℕ) → Bool
pre_sparse_from F B c t i [] = true
pre_sparse_from F B c t i (r ∷ rs) =
    alike F.modulus (diagonal_row t i) (products F.modulus (c * B) 24 r (drop 1 F.inverses)) and pre_sparse_from F B c t (suc i) rs

unfoldable pub pre_sparse_test : Instance → ℕ → ℕ → List ℕ → List Bool → Bool
pre_sparse_test F B c t bits =
    eqb (exponent bits) F.partial_rounds
    and alike F.modulus (diagonal_row t 0) (tabulate 24 (λ j. c * matrix F 0 j))
    and pre_sparse_from F B c t 1 (raised_to F.modulus (lower_rows F B) bits)

-- a list, each element times B
unfoldable pub scaled_by : ℕ → List ℕ → List ℕ
scaled_by B [] = []
scaled_by B (x ∷ xs) = x * B ∷ scaled_by B xs

-- 24 entries of a table from at on: 0, and the running constants after all partial rounds, times B
unfoldable pub after_test : Instance → ℕ → List ℕ → ℕ → Bool
after_test F B addends at = alike F.modulus (tabulate 24 (λ i. get_or addends (at + i) 0)) (0 ∷ scaled_by B (running_of F F.partial_rounds))

-- 24 entries of a table from at on: the constant of the first partial round for element 0, times B, and zeros
unfoldable pub before_test : Instance → ℕ → List ℕ → ℕ → Bool
before_test F B addends at = alike F.modulus (tabulate 24 (λ i. get_or addends (at + i) 0)) (carried F F.partial_rounds 0 * B ∷ tabulate 23 (λ i. 0))

-- 96 entries of a table from at on: the constants of four rounds from round r on
unfoldable pub constants_test : Instance → List ℕ → ℕ → ℕ → Bool
constants_test F addends at r = alike F.modulus (tabulate 96 (λ i. get_or addends (at + i) 0)) (tabulate 96 (λ i. get_or F.constants (24 * r + i) 0))

-- 24 zeros
unfoldable pub zeros_test : Instance → List ℕ → ℕ → Bool
zeros_test F addends at = alike F.modulus (tabulate 24 (λ i. get_or addends (at + i) 0)) (tabulate 24 (λ i. 0))
