-- `keccak::iota` meets its contract.
-- Assumes nothing.
use mathlib.Core.Path.{refl}
use Rattle.keccak.specs.Permutation.{iota}
use Rattle.keccak.proofs.iota.Goals as goal

pub returns : goal.returns
unfolding iota
returns c = refl
