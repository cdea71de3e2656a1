-- `montgomery::seventh_power` meets its contract.
-- Assumes nothing.
use Rattle.montgomery.proofs.Powers.{seventh_small}
use Rattle.montgomery.proofs.seventh_power.Goals as goal

pub returns : goal.returns
returns c =
    seventh_small _ _ _ _ _ _ _ _ _ c.multiply-square.ensures c.multiply-cube.ensures c.multiply-fourth.ensures c.product.ensures c.reduce_any.ensures
