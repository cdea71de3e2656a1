-- `baby_bear_tables::copies` meets its contract: the code's table is the definitions' table, entry by entry.
-- Assumes nothing.
use mathlib.Core.Path.{refl}
use Rattle.baby_bear_tables.specs.Tables.{copies}
use Rattle.baby_bear_tables.proofs.copies.Goals as goal

pub returns : goal.returns
unfolding copies
returns c = refl
