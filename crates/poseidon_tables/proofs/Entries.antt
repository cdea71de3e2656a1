-- What the documents say of the entries of the tables: laws of any table over any modulus, and one computed test over each table.
-- Assumes nothing.
use mathlib.Core.Path.{◌≡◌, refl, sym, subst}
use mathlib.Core.Bool.{Bool, true}
use mathlib.Core.List.{List}
use Prim.Native.Nat.{ℕ, ◌+◌, ◌*◌, ◌%◌, ◌<◌}
use borrow.Author.Tests.{eqb-true}
use lib.Dec.{eqb}
use lib.ListN.{length, get_or}
use Rattle.basics.specs.Logic.{◌and◌, all}
use Rattle.basics.specs.Lists.{Below}
use Rattle.basics.proofs.Table.{passes, every_entry}
use Rattle.field.specs.Field.{modulus, partial_rounds}
use Rattle.field.specs.declared.Field.{Field}
use Rattle.field.specs.declared.Field.TheVariants.{BabyBear, KoalaBear}
use Rattle.poseidon_tables.specs.Tables.{constants, inverses, baby_bear_constants, baby_bear_inverses, koala_bear_constants, koala_bear_inverses}

-- whether x is the inverse of k + 24 modulo m
unfoldable pub is_inverse : ℕ → ℕ → ℕ → Bool
is_inverse m k x = eqb (x * (k + 24) % m) 1

-- a table that passes the test at each place holds the inverses
pub inverses_by_test : (m : ℕ) (table : List ℕ) → passes (is_inverse m) 0 table ≡ true
    → (k : ℕ) → k < length table → get_or table k 0 * (k + 24) % m ≡ 1
unfolding is_inverse
inverses_by_test m table e k h = eqb-true _ 1 (every_entry (is_inverse m) table e k h)

-- "The table in the code is proved to have every entry below p"
pub constants_reduced : (f : Field) → Below (modulus f) (constants f)
unfolding constants baby_bear_constants koala_bear_constants all ◌and◌
constants_reduced BabyBear = refl
constants_reduced KoalaBear = refl

-- 24 to a round: 696 in 29 rounds, and 744 in 31
pub constants_length : (f : Field) → length (constants f) ≡ 24 * (4 + partial_rounds f + 4)
unfolding constants baby_bear_constants koala_bear_constants
constants_length BabyBear = refl
constants_length KoalaBear = refl

pub inverses_length : (f : Field) → length (inverses f) ≡ 47
unfolding inverses baby_bear_inverses koala_bear_inverses
inverses_length BabyBear = refl
inverses_length KoalaBear = refl

pub inverses_reduced : (f : Field) → Below (modulus f) (inverses f)
unfolding inverses baby_bear_inverses koala_bear_inverses all ◌and◌
inverses_reduced BabyBear = refl
inverses_reduced KoalaBear = refl

all_inverse : (f : Field) → passes (is_inverse (modulus f)) 0 (inverses f) ≡ true
unfolding inverses baby_bear_inverses koala_bear_inverses is_inverse passes ◌and◌
all_inverse BabyBear = refl
all_inverse KoalaBear = refl

-- "47 inverses suffice, each proved by its rule over the whole table"; "the same 47 sums inverted in its own field"
pub inverses_rule : (f : Field) (k : ℕ) → k < 47 → get_or (inverses f) k 0 * (k + 24) % modulus f ≡ 1
inverses_rule f k h = inverses_by_test (modulus f) (inverses f) (all_inverse f) k (subst (λ (n : ℕ). k < n) (sym (inverses_length f)) h)
