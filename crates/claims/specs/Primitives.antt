-- The permutation of each field and its tables, the generator, and the hash: what the papers say of them beyond what their definitions say.
use Rattle.std.specs.Prelude.{◌≡◌, refl, false, List, [], ◌∷◌, ◌++◌, ℕ, suc, ◌+◌, ◌-◌, ◌*◌, ◌%◌, ◌<◌, length, get_or, replicate}
use Rattle.basics.specs.Lists.{Below}
use Rattle.basics.specs.Numbers.{accepted, field_unknown}
use Rattle.field.specs.Field.{modulus, is_field}
use Rattle.field.specs.declared.Field.{Field}
use Rattle.field.specs.declared.Field.TheVariants.{BabyBear, KoalaBear}
use Rattle.field.proofs.Moduli.{positive}
use Rattle.poseidon_tables.specs.Tables.{constants, inverses}
use Rattle.poseidon_tables.proofs.Entries as entries
use Rattle.poseidon.specs.Permutation.{matrix, permutation, parameters}
use Rattle.poseidon.proofs.Bounds.{permutation_state}
use Rattle.poseidon.proofs.Matrix as rows
use Rattle.generator.specs.Generator.{first_register, found, generation}
use Rattle.generated_table.specs.GeneratedTable as table
use Rattle.generated_table.proofs.GeneratedTable as table_of_run
use Rattle.keccak_tables.specs.Tables.{offsets, round_constants}
use Rattle.keccak_tables.specs.TableRules.{offsets_by_rule, round_constants_by_rule}
use Rattle.keccak_tables.proofs.TablesByRule as rules
use Rattle.sha3.specs.Sponge.{padded, padding}
use Rattle.sha3.proofs.Padding.{padded_bytes}

-- "All arithmetic on elements is modulo p, results from 0 to p − 1.": of 24 elements a field's permutation makes 24 elements of it.
pub permutations_stay_reduced : (f : Field) (s : List ℕ) → length s ≡ 24 → Below (modulus f) s
    → (length (permutation (parameters f) s) ≡ 24) × Below (modulus f) (permutation (parameters f) s)
unfolding parameters
permutations_stay_reduced f s long below =
    let after = permutation_state (parameters f) (positive f) s (record { long = long; reduced = below }) in
    (after.long, after.reduced)

-- "the matrix whose entry at row i, column j is the inverse of i + j + 24"
pub matrix_by_rule : (f : Field) (i j : ℕ) → i < 24 → j < 24 → matrix (parameters f) i j * (i + j + 24) % modulus f ≡ 1
matrix_by_rule = rows.matrix_rule

-- "So 47 inverses suffice, each proved by its rule over the whole table."; "the same 47 sums inverted in its own field"
pub inverses_by_rule : (f : Field)
    → (length (inverses f) ≡ 47) × Below (modulus f) (inverses f) × ((k : ℕ) → k < 47 → get_or (inverses f) k 0 * (k + 24) % modulus f ≡ 1)
inverses_by_rule f = (entries.inverses_length f, entries.inverses_reduced f, entries.inverses_rule f)

-- "The table in the code is proved to have every entry below p": all 696, and all 744
pub constants_are_elements : (length (constants BabyBear) ≡ 696) × (length (constants KoalaBear) ≡ 744) × ((f : Field) → Below (modulus f) (constants f))
constants_are_elements = (entries.constants_length BabyBear, entries.constants_length KoalaBear, entries.constants_reduced)

-- "The 696 round constants come from Poseidon's Grain generator.": it finds 696, and leaves the table; "so 744 constants from the same generator
-- with the register's 21 changed to 23"
pub tables_generated : (found (first_register 21) 2013265921 696 262144 ≡ constants BabyBear) × (found (first_register 23) 2130706433 744 262144 ≡ constants KoalaBear)
tables_generated = (table_of_run.table_found BabyBear, table_of_run.table_found KoalaBear)

-- "in the generator, whose list has 744 places in either field": field 1's 696 constants with 48 zeros behind them, field 2's 744;
pub generator_by_field : (generation 1 ≡ record { number = accepted; constants = constants BabyBear ++ replicate 48 0; count = 696 })
    × (generation 2 ≡ record { number = accepted; constants = constants KoalaBear; count = 744 })
unfolding constants
generator_by_field = (table_of_run.field_1_generated, table_of_run.field_2_generated)

-- "18: field number neither 1 nor 2", "and then holds zeros, none found"
pub generator_without_field : (field : ℕ) → is_field field ≡ false → generation field ≡ record { number = field_unknown; constants = replicate 744 0; count = 0 }
generator_without_field = table.no_field_generated

-- FIPS 202, 3.2.2, algorithm 2: the rotation offsets; 3.2.5, algorithms 5 and 6: the round constants
pub offsets_by_rule_law : offsets ≡ offsets_by_rule
offsets_by_rule_law = rules.offsets_by_rule_law

pub round_constants_by_rule_law : round_constants ≡ round_constants_by_rule
round_constants_by_rule_law = rules.round_constants_by_rule_law

-- FIPS 202, B.2: the bytes of the padding are 0x06, zeros and 0x80, or 0x86 alone.
pub padding_by_bytes : (m : List ℕ) → padded m ≡ m ++ padding (136 - length m % 136)
padding_by_bytes = padded_bytes

-- Table 6 itself: one byte, and two or more.
pub padding_of_table_6 : (k : ℕ) → (padding 1 ≡ 0x86 ∷ []) × (padding (suc (suc k)) ≡ 0x06 ∷ replicate k 0 ++ (0x80 ∷ []))
unfolding padding
padding_of_table_6 k = (refl, refl)
