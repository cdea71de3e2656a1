-- `keccak::rotate` meets its contract.
-- Assumes nothing.
use Rattle.std.proofs.Common.{◌∙◌, arith}
use Rattle.keccak.specs.Permutation.{rotate}
use Rattle.keccak.proofs.Rotation.{by_fewer}
use Rattle.keccak.proofs.rotate.Goals as goal

pub returns : goal.returns
unfolding rotate
returns c = c.rotate_left.ensures ∙ by_fewer _ _ c.ranges.x.fits (omega arith)
