-- `poseidon::baby_bear` meets its contract.
-- Assumes nothing.
use Rattle.poseidon.specs.Tables.{tables_of}
use Rattle.poseidon.proofs.baby_bear.Goals as goal

pub returns : goal.returns
unfolding tables_of
returns c =
    λ i.
    record {
      matrix = c.matrix.ensures i;
      pre_sparse = c.pre_sparse.ensures i;
      sparse = c.sparse.ensures i;
      first_constants = c.first_constants.ensures i;
      addends = c.addends.ensures i;
      copies = c.copies.ensures i;
    }
