-- `montgomery::third_power_of_any` meets its contract.
-- Assumes nothing.
use Rattle.montgomery.proofs.Powers.{third_any}
use Rattle.montgomery.proofs.third_power_of_any.Goals as goal

pub returns : goal.returns
returns c =
    third_any _ _ _ _ _ _ _ _ _ _ c.product.ensures c.reduce_any-square.ensures c.product-2.ensures c.reduce_any.ensures
