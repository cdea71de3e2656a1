-- The tables of round constants are what the generator gives: the generator on numbers is run to the end for each field.
use Rattle.std.specs.Prelude.{◌≡◌, refl, false, not, List, [], ◌++◌, ℕ, ◌*◌, ◌^◌, ◌<◌, get_or, take, drop, replicate}
use Rattle.std.proofs.Common.{◌∙◌, ap, lit<}
use Rattle.basics.specs.Logic.{when◌then◌else◌, ◌or◌}
use Rattle.basics.specs.Lists.{tabulate, sum}
use Rattle.basics.specs.Digits.{digits, number, number_after}
use Rattle.basics.specs.Numbers.{accepted, field_unknown}
use Rattle.basics.proofs.Cases.{if_true}
use Rattle.field.specs.Field.{modulus, partial_rounds, is_field, field_of}
use Rattle.field.specs.declared.Field.{Field}
use Rattle.field.specs.declared.Field.TheVariants.{BabyBear, KoalaBear}
use Rattle.poseidon_tables.specs.Tables.{constants, baby_bear_constants, koala_bear_constants}
use Rattle.generator.specs.Generator.{first_register, new_bits, output_bits, candidates, kept, found, constant_count, generated, with_constants, generation}
use Rattle.generated_table.specs.OnNumbers.{bits_of, next, step, after, after_bound, dropped, emitted, value_after, size_after, run, run_is}

-- the register at its start
abbrev pub start : Field → List ℕ
start f = first_register (partial_rounds f)

-- the same as a number
unfoldable pub register_number : Field → ℕ
register_number f = sum 80 (λ k. get_or (start f) k 0 * 2 ^ k)

-- that of each field by itself, so that its run computes it once
unfoldable pub baby_bear_first : ℕ
baby_bear_first = register_number BabyBear

unfoldable pub koala_bear_first : ℕ
koala_bear_first = register_number KoalaBear

unfoldable pub first : Field → ℕ
first BabyBear = baby_bear_first
first KoalaBear = koala_bear_first

pub first_is : (f : Field) → start f ≡ bits_of (first f)
unfolding first_register digits bits_of tabulate first baby_bear_first koala_bear_first register_number sum
first_is BabyBear = refl
first_is KoalaBear = refl

pub first_bound : (f : Field) → first f < 2 ^ 80
unfolding first baby_bear_first koala_bear_first register_number first_register digits sum
first_bound BabyBear = lit< tt
first_bound KoalaBear = lit< tt

-- the first constants of all 130,992 pairs
pub baby_bear_computed : take (constant_count BabyBear) (run (modulus BabyBear) 130992 (after 160 baby_bear_first) 0 0) ≡ baby_bear_constants
unfolding run after step next emitted value_after size_after baby_bear_first register_number first_register digits sum when◌then◌else◌ baby_bear_constants
baby_bear_computed = refl

pub koala_bear_computed : take (constant_count KoalaBear) (run (modulus KoalaBear) 130992 (after 160 koala_bear_first) 0 0) ≡ koala_bear_constants
unfolding run after step next emitted value_after size_after koala_bear_first register_number first_register digits sum when◌then◌else◌ koala_bear_constants
koala_bear_computed = refl

-- "18: field number neither 1 nor 2 .. in the generator, whose list .. then holds zeros, none found"
pub no_field_generated : (field : ℕ) → is_field field ≡ false → generation field ≡ record { number = field_unknown; constants = replicate 744 0; count = 0 }
unfolding generation with_constants
no_field_generated field e = if_true (not (is_field field)) _ _ (ap not e)
