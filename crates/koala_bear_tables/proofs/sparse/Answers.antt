-- `koala_bear_tables::sparse` meets its contract: the code's table is the definitions' table, entry by entry.
-- Assumes nothing.
use mathlib.Core.Path.{refl}
use Rattle.koala_bear_tables.specs.Tables.{sparse}
use Rattle.koala_bear_tables.proofs.sparse.Goals as goal

pub returns : goal.returns
unfolding sparse
returns c = refl
