-- `keccak::parity` meets its contract.
-- Assumes nothing.
use Rattle.keccak.specs.Permutation.{◌⊕◌, parity}
use Rattle.keccak.proofs.parity.Goals as goal

pub returns : goal.returns
unfolding parity
returns c =
    λ i.
    c.lane.ensures i
    ⊕ c.lane-2.ensures i
    ⊕ c.lane-3.ensures i
    ⊕ c.lane-4.ensures i
    ⊕ c.lane-5.ensures i
