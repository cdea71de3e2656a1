-- `field::reduce` meets its contract.
-- Assumes nothing.
use mathlib.Core.Path.{sym, ap}
use Prim.Native.Nat.{◌%◌}
use Rattle.field.specs.Field.{modulus}
use Rattle.field.specs.declared.Field.{Field}
use Rattle.field.proofs.reduce.Goals as goal

pub returns-in-BabyBear : goal.returns-in-BabyBear
returns-in-BabyBear c = ap (λ (f : Field). c.args.x % modulus f) (sym c.in-BabyBear.is)

pub returns-in-KoalaBear : goal.returns-in-KoalaBear
returns-in-KoalaBear c = ap (λ (f : Field). c.args.x % modulus f) (sym c.in-KoalaBear.is)
