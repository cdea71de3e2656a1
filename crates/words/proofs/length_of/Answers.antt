-- `words::length_of` meets its contract.
-- Assumes nothing.
use mathlib.Core.Path.{refl}
use Rattle.words.specs.Words.{length_of}
use Rattle.words.proofs.length_of.Goals as goal

pub returns : goal.returns
unfolding length_of
returns c = refl
