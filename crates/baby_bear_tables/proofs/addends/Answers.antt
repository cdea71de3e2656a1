-- `baby_bear_tables::addends` meets its contract: the code's table is the definitions' table, entry by entry.
-- Assumes nothing.
use mathlib.Core.Path.{refl}
use Rattle.baby_bear_tables.specs.Tables.{addends}
use Rattle.baby_bear_tables.proofs.addends.Goals as goal

pub returns : goal.returns
unfolding addends
returns c = refl
