-- `words::is_absorb` meets its contract.
-- Assumes nothing.
use mathlib.Core.Path.{refl}
use Rattle.words.specs.Words.{is_absorb}
use Rattle.words.proofs.is_absorb.Goals as goal

pub returns : goal.returns
unfolding is_absorb
returns c = refl
