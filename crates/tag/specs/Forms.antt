-- Forms by number: what comes of a number.
use Rattle.std.specs.Prelude.{◌≡◌, ℕ, false, Result, MatchResult}
use Rattle.basics.specs.declared.Refusal.{Refusal}
use Rattle.basics.specs.declared.Refusal.TheVariants.{FormUnknown}
use Rattle.tag.specs.TagString.{is_form}
use Rattle.tag.specs.declared.Form.{Form}
use Rattle.tag.specs.declared.Form.TheVariants.{One, Two}

-- the number of a form
unfoldable pub form_number : Form → ℕ
form_number One = 1
form_number Two = 2

-- the form whose number it is; and of a number that names none, the refusal for that
abbrev pub IsNamed : ℕ → Result Form Refusal → Type 0
IsNamed number r =
    MatchResult r (λ form. number ≡ form_number form) (λ refusal. (is_form number ≡ false) × (refusal ≡ FormUnknown))
