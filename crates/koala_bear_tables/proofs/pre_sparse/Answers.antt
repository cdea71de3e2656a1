-- `koala_bear_tables::pre_sparse` meets its contract: the code's table is the definitions' table, entry by entry.
-- Assumes nothing.
use mathlib.Core.Path.{refl}
use Rattle.koala_bear_tables.specs.Tables.{pre_sparse}
use Rattle.koala_bear_tables.proofs.pre_sparse.Goals as goal

pub returns : goal.returns
unfolding pre_sparse
returns c = refl
