-- `montgomery::third_power` meets its contract.
-- Assumes nothing.
use Rattle.montgomery.proofs.Powers.{third_small}
use Rattle.montgomery.proofs.third_power.Goals as goal

pub returns : goal.returns
returns c = third_small _ _ _ _ _ _ _ c.multiply-square.ensures c.product.ensures c.reduce_any.ensures
