-- The two fields, and the figures in which their permutations differ. Document 01: "p = 2013265921 = 15 × 2^27 + 1. All arithmetic on elements
-- is modulo p, results from 0 to p − 1."; document 02: "2130706433 = 2^31 − 2^24 + 1". They are the fields known as BabyBear and KoalaBear.
use Rattle.std.specs.Prelude.{Bool, ℕ, eqb}
use Rattle.basics.specs.Logic.{when◌then◌else◌, ◌or◌}
use Rattle.basics.specs.Lists.{is_below}
use Rattle.field.specs.declared.Field.{Field}
use Rattle.field.specs.declared.Field.TheVariants.{BabyBear, KoalaBear}

-- p
abbrev pub modulus : Field → ℕ
modulus BabyBear = 2013265921
modulus KoalaBear = 2130706433

-- "to the seventh power"; "Field 2 uses the third power"
abbrev pub power : Field → ℕ
power BabyBear = 7
power KoalaBear = 3

-- "4 full, 21 partial, 4 full"; "4 full, 23 partial and 4 full rounds"
abbrev pub partial_rounds : Field → ℕ
partial_rounds BabyBear = 21
partial_rounds KoalaBear = 23

-- "a field number, 1 for today's and 2 for this one"
unfoldable pub is_field : ℕ → Bool
is_field number = eqb number 1 or eqb number 2

-- the field that a number names. For a number that names none it is BabyBear, which is used nowhere: `is_field` is asked first.
unfoldable pub field_of : ℕ → Field
field_of number = when eqb number 2 then KoalaBear else BabyBear

-- document 00: "An element is a whole number from 0 to 2013265920."; "p and element .. mean those of the field that the record or the call names"
abbrev pub is_element : Field → ℕ → Bool
is_element field = is_below (modulus field)
