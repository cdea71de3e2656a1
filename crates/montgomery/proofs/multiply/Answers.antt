-- `montgomery::multiply` meets its contract.
-- Assumes nothing.
use Rattle.montgomery.proofs.Reduction.{multiplication}
use Rattle.montgomery.proofs.multiply.Goals as goal

pub returns : goal.returns
returns c = multiplication _ _ _ _ _ _ c.product.ensures c.reduce.ensures
