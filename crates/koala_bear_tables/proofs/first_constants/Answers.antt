-- `koala_bear_tables::first_constants` meets its contract: the code's table is the definitions' table, entry by entry.
-- Assumes nothing.
use mathlib.Core.Path.{refl}
use Rattle.koala_bear_tables.specs.Tables.{first_constants}
use Rattle.koala_bear_tables.proofs.first_constants.Goals as goal

pub returns : goal.returns
unfolding first_constants
returns c = refl
