-- `keccak_tables::offsets` meets its contract: the code's table is the definitions' table, entry by entry.
-- Assumes nothing.
use mathlib.Core.Path.{refl}
use Rattle.keccak_tables.specs.Tables.{offsets}
use Rattle.keccak_tables.proofs.offsets.Goals as goal

pub returns : goal.returns
unfolding offsets
returns c = refl
