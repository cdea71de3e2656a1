-- `poseidon_full::full_round` meets its contract.
-- Assumes nothing.
use Rattle.poseidon_full.proofs.Full.{round_of}
use Rattle.poseidon_full.proofs.full_round.Goals as goal

pub returns : goal.returns
returns c = round_of c.add_constants-sums.ensures c.powers-raised.ensures c.multiply.ensures
