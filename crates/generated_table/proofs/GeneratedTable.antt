-- The tables of round constants are what the generator gives: what was computed for each field is the generator's output.
use Rattle.std.specs.Prelude.{◌≡◌, List, [], ◌++◌, ℕ, take, drop, replicate}
use Rattle.std.proofs.Common.{◌∙◌, ap, lit<}
use Rattle.basics.specs.Logic.{when◌then◌else◌, ◌or◌}
use Rattle.basics.specs.Digits.{number, number_after}
use Rattle.basics.specs.Numbers.{accepted}
use Rattle.field.specs.Field.{modulus, partial_rounds, is_field, field_of}
use Rattle.field.specs.declared.Field.{Field}
use Rattle.field.specs.declared.Field.TheVariants.{BabyBear, KoalaBear}
use Rattle.poseidon_tables.specs.Tables.{constants, baby_bear_constants, koala_bear_constants}
use Rattle.generator.specs.Generator.{first_register, new_bits, output_bits, candidates, kept, found, constant_count, generated, with_constants, generation}
use Rattle.generated_table.specs.OnNumbers.{after, after_bound, dropped, run, run_is}
use Rattle.generated_table.specs.GeneratedTable.{first, first_is, first_bound, baby_bear_computed, koala_bear_computed}

computed : (f : Field) → take (constant_count f) (run (modulus f) 130992 (after 160 (first f)) 0 0) ≡ constants f
unfolding first constants
computed BabyBear = baby_bear_computed
computed KoalaBear = koala_bear_computed

pub table_found : (f : Field) → found (first_register (partial_rounds f)) (modulus f) (constant_count f) 262144 ≡ constants f
unfolding found number number_after
table_found f =
    ap (λ (bits : List ℕ). take (constant_count f) (kept (modulus f) (candidates (output_bits bits))))
    (ap (λ (r : List ℕ). drop 160 (new_bits 262144 r)) (first_is f) ∙ dropped 160 (first f) (first_bound f) 262144)
    ∙ ap (take (constant_count f)) (run_is (modulus f) 130992 (after 160 (first f)) [] (after_bound 160 (first f) (first_bound f)) (lit< tt))
    ∙ computed f

-- "The 696 round constants come from Poseidon's Grain generator."; "so 744 constants from the same generator"
pub table_generated : (f : Field) → generated f ≡ constants f
unfolding generated
table_generated = table_found

-- "whose list has 744 places in either field": 696 constants and 48 zeros for field 1
pub field_1_generated : generation 1 ≡ record { number = accepted; constants = baby_bear_constants ++ replicate 48 0; count = 696 }
unfolding generation with_constants is_field field_of ◌or◌ when◌then◌else◌ constants baby_bear_constants
field_1_generated = ap (with_constants accepted) (table_generated BabyBear)

-- 744 for field 2
pub field_2_generated : generation 2 ≡ record { number = accepted; constants = koala_bear_constants; count = 744 }
unfolding generation with_constants is_field field_of ◌or◌ when◌then◌else◌ constants koala_bear_constants
field_2_generated = ap (with_constants accepted) (table_generated KoalaBear)
