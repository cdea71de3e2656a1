-- The tables hold what their rules say: one computed test for each.
-- Assumes nothing.
use mathlib.Core.Path.{◌≡◌, refl}
use mathlib.Core.Bool.{true, false}
use mathlib.Core.List.{[], ◌∷◌}
use Rattle.basics.specs.Logic.{◌and◌, all}
use Rattle.basics.specs.Lists.{Below, tabulate}
use Rattle.field.specs.Field.{modulus}
use Rattle.field.specs.declared.Field.TheVariants.{BabyBear}
use Rattle.montgomery.specs.Montgomery.{scale}
use Rattle.poseidon_tables.specs.Tables.{constants, inverses, baby_bear_constants, baby_bear_inverses}
use Rattle.poseidon_rounds.specs.Instance.{Instance, instance_of, matrix}
use Rattle.poseidon_rounds.specs.Sparse.{carried, SparseTables}
use Rattle.poseidon_rounds.specs.Tests.{alike, every, dot, products, turned, column_of, row_of, column_test, row_test, zero_test, running_with, running_of, first_constants_from, sparse_test, first_constants_test, scaled_by, after_test, before_test, constants_test, zeros_test, row_products, matrix_product, rows_from, lower_rows, exponent, squared, raised_to, diagonal_row, shared_row, whole_row, matrix_test, pre_sparse_from, pre_sparse_test}
use Rattle.poseidon_rounds.specs.Tables.{TablesOf}
use Rattle.poseidon_rounds.proofs.Tests.{sparse_tables}
use Rattle.poseidon_rounds.proofs.Tables.{matrix_blocks, pre_sparse_diagonals, tables_of_law}
use Rattle.baby_bear_tables.specs.Tables as tables

abbrev F : Instance
F = instance_of BabyBear

-- the word to the power 7
matrix_passes : matrix_test F 1465352594 tables.matrix ≡ true
unfolding matrix_test every alike shared_row whole_row ◌and◌ tabulate matrix instance_of inverses baby_bear_inverses tables.matrix
matrix_passes = refl

pre_sparse_passes : pre_sparse_test F 4294967296 1465352594 tables.pre_sparse (true ∷ false ∷ true ∷ false ∷ []) ≡ true
unfolding pre_sparse_test pre_sparse_from raised_to squared exponent lower_rows rows_from matrix_product row_products products dot alike diagonal_row ◌and◌ tabulate matrix instance_of inverses baby_bear_inverses tables.pre_sparse
pre_sparse_passes = refl

sparse_passes : sparse_test F 4294967296 6277101735386680763835789423207666416102355444464034512896 tables.sparse ≡ true
unfolding sparse_test every column_test row_test zero_test column_of row_of turned products dot alike ◌and◌ tabulate matrix instance_of inverses baby_bear_inverses tables.sparse
sparse_passes = refl

first_constants_pass : first_constants_test F 4294967296 tables.first_constants ≡ true
unfolding first_constants_test first_constants_from running_with turned products dot ◌and◌ tabulate carried instance_of inverses constants baby_bear_inverses baby_bear_constants tables.first_constants
first_constants_pass = refl

early_pass : constants_test F tables.addends 0 0 ≡ true
unfolding constants_test alike tabulate ◌and◌ instance_of constants baby_bear_constants tables.addends
early_pass = refl

late_pass : constants_test F tables.addends 144 25 ≡ true
unfolding constants_test alike tabulate ◌and◌ instance_of constants baby_bear_constants tables.addends
late_pass = refl

before_passes : before_test F 4294967296 tables.addends 96 ≡ true
unfolding before_test alike tabulate ◌and◌ carried instance_of constants baby_bear_constants tables.addends
before_passes = refl

after_passes : after_test F 4294967296 tables.addends 120 ≡ true
unfolding after_test alike tabulate ◌and◌ running_of running_with turned products dot scaled_by instance_of constants inverses baby_bear_constants baby_bear_inverses tables.addends
after_passes = refl

zeros_pass : zeros_test F tables.addends 240 ≡ true
unfolding zeros_test alike tabulate ◌and◌ instance_of tables.addends
zeros_pass = refl

-- 1906550119 is the matrix's first entry times the word to the power 7
pub sparse_right : SparseTables F 4294967296 6277101735386680763835789423207666416102355444464034512896 1906550119 tables.sparse tables.first_constants
unfolding matrix inverses baby_bear_inverses instance_of
sparse_right = sparse_tables F 4294967296 6277101735386680763835789423207666416102355444464034512896 1906550119 tables.sparse tables.first_constants refl sparse_passes first_constants_pass

-- 943718400 is the word's inverse, and 268435454 the word modulo p
pub right : TablesOf F 2013265921 7 21 268435454 1906550119 943718400 1465352594 tables.matrix tables.pre_sparse tables.sparse tables.first_constants tables.addends
unfolding instance_of scale
right =
    tables_of_law F 268435454 1906550119 943718400 1465352594 tables.matrix tables.pre_sparse tables.sparse tables.first_constants tables.addends
    (record { same = refl })
    (record { same = refl })
    (record { same = refl })
    (matrix_blocks F 1465352594 tables.matrix matrix_passes)
    (pre_sparse_diagonals F 4294967296 1465352594 tables.pre_sparse (true ∷ false ∷ true ∷ false ∷ []) pre_sparse_passes)
    sparse_right
    early_pass
    late_pass
    before_passes
    after_passes
    zeros_pass

-- every entry is below p
pub matrix_below : Below (modulus BabyBear) tables.matrix
unfolding tables.matrix all ◌and◌
matrix_below = refl

pub pre_sparse_below : Below (modulus BabyBear) tables.pre_sparse
unfolding tables.pre_sparse all ◌and◌
pre_sparse_below = refl

pub sparse_below : Below (modulus BabyBear) tables.sparse
unfolding tables.sparse all ◌and◌
sparse_below = refl

pub addends_below : Below (modulus BabyBear) tables.addends
unfolding tables.addends all ◌and◌
addends_below = refl
