-- `keccak_tables::round_constants` meets its contract: the code's table is the definitions' table, entry by entry.
-- Assumes nothing.
use mathlib.Core.Path.{refl}
use Rattle.keccak_tables.specs.Tables.{round_constants}
use Rattle.keccak_tables.proofs.round_constants.Goals as goal

pub returns : goal.returns
unfolding round_constants
returns c = refl
