-- `poseidon_tables::koala_bear_constants` meets its contract: the code's table is the definitions' table, entry by entry.
-- Assumes nothing.
use mathlib.Core.Path.{refl}
use Rattle.poseidon_tables.specs.Tables.{constants, koala_bear_constants}
use Rattle.poseidon_tables.proofs.koala_bear_constants.Goals as goal

pub returns : goal.returns
unfolding constants koala_bear_constants
returns c = refl
