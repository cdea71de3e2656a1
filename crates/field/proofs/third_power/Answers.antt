-- `field::third_power` meets its contract.
-- Assumes nothing.
use Rattle.field.specs.Field.{modulus}
use Rattle.field.specs.declared.Field.TheVariants.{KoalaBear}
use Rattle.field.proofs.Powers.{by_cube}
use Rattle.field.proofs.third_power.Goals as goal

pub returns : goal.returns
returns c = by_cube (modulus KoalaBear) _ c.mul-square.ensures c.mul.ensures
