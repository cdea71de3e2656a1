-- Fields by number: what comes of a number.
use Rattle.std.specs.Prelude.{◌≡◌, ℕ, false, true, Result, MatchResult}
use Rattle.basics.specs.declared.Refusal.{Refusal}
use Rattle.basics.specs.declared.Refusal.TheVariants.{FieldUnknown}
use Rattle.field.specs.Field.{is_field, field_of}
use Rattle.field.specs.declared.Field.{Field}

-- the field that a number names; and of a number that names none, the refusal for that
abbrev pub IsNamed : ℕ → Result Field Refusal → Type 0
IsNamed number r = MatchResult r (λ f. (is_field number ≡ true) × (f ≡ field_of number)) (λ e. (is_field number ≡ false) × (e ≡ FieldUnknown))
