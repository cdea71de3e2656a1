-- `generator::first_register` meets its contract.
-- Assumes nothing.
use mathlib.Core.Path.{sym, ap}
use Rattle.basics.specs.Digits.{digits}
use Rattle.field.specs.Field.{partial_rounds}
use Rattle.field.specs.declared.Field.{Field}
use Rattle.generator.specs.Generator.{first_register}
use Rattle.generator.proofs.first_register.Goals as goal

pub returns-in-BabyBear : goal.returns-in-BabyBear
unfolding first_register digits
returns-in-BabyBear c = ap (λ (f : Field). first_register (partial_rounds f)) (sym c.in-BabyBear.is)

pub returns-in-KoalaBear : goal.returns-in-KoalaBear
unfolding first_register digits
returns-in-KoalaBear c = ap (λ (f : Field). first_register (partial_rounds f)) (sym c.in-KoalaBear.is)
