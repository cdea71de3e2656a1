-- `field::seventh_power` meets its contract.
-- Assumes nothing.
use Rattle.field.specs.Field.{modulus}
use Rattle.field.specs.declared.Field.TheVariants.{BabyBear}
use Rattle.field.proofs.Powers.{by_square_and_cube}
use Rattle.field.proofs.seventh_power.Goals as goal

pub returns : goal.returns
returns c =
    by_square_and_cube (modulus BabyBear) _ c.mul-square.ensures c.mul-cube.ensures c.mul.ensures c.mul-2.ensures
