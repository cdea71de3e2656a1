-- `field::power` meets its contract.
-- Assumes nothing.
use mathlib.Core.Path.{◌∙◌, sym, ap}
use Prim.Native.Nat.{◌%◌, ◌^◌}
use Rattle.field.specs.Field.{modulus, power}
use Rattle.field.specs.declared.Field.{Field}
use Rattle.field.proofs.power.Goals as goal

pub returns-in-BabyBear : goal.returns-in-BabyBear
returns-in-BabyBear c =
    c.seventh_power.ensures ∙ ap (λ (f : Field). c.args.a ^ power f % modulus f) (sym c.in-BabyBear.is)

pub returns-in-KoalaBear : goal.returns-in-KoalaBear
returns-in-KoalaBear c =
    c.third_power.ensures ∙ ap (λ (f : Field). c.args.a ^ power f % modulus f) (sym c.in-KoalaBear.is)
