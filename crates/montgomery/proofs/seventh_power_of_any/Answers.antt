-- `montgomery::seventh_power_of_any` meets its contract.
-- Assumes nothing.
use Rattle.montgomery.proofs.Powers.{seventh_any}
use Rattle.montgomery.proofs.seventh_power_of_any.Goals as goal

pub returns : goal.returns
returns c =
    seventh_any _ _ _ _ _ _ _ _ _ _ _ _ _ _ _ _ c.product.ensures c.reduce_any-square.ensures c.multiply-cube.ensures c.multiply-fourth.ensures c.product-2.ensures c.reduce_any.ensures
