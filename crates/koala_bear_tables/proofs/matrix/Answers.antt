-- `koala_bear_tables::matrix` meets its contract: the code's table is the definitions' table, entry by entry.
-- Assumes nothing.
use mathlib.Core.Path.{refl}
use Rattle.koala_bear_tables.specs.Tables.{matrix}
use Rattle.koala_bear_tables.proofs.matrix.Goals as goal

pub returns : goal.returns
unfolding matrix
returns c = refl
