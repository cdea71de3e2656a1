-- `poseidon_full::round_by_blocks` meets its contract.
-- Assumes nothing.
use Rattle.poseidon_full.proofs.Full.{round_by_blocks}
use Rattle.poseidon_full.proofs.round_by_blocks.Goals as goal

pub returns : goal.returns
returns c = round_by_blocks c.add_constants-sums.ensures c.powers_once-raised.ensures c.multiply.ensures
