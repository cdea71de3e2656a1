-- Forms and the numbers that name them.
-- Assumes nothing.
use mathlib.Core.Path.{◌≡◌, refl, sym, ap, ◌∙◌}
use mathlib.Core.Bool.{true, false}
use mathlib.Core.List.{List, ◌++◌}
use Prim.Native.Nat.{ℕ}
use lib.Dec.{eqb}
use lib.ListN.{length}
use Rattle.std.specs.Prelude.{Result, Ok, Err}
use Rattle.std.specs.Result.{is_ok, result_unwrap_or}
use Rattle.basics.specs.declared.Refusal.{Refusal}
use Rattle.basics.specs.Logic.{◌or◌}
use Rattle.basics.proofs.Cases.{or_false}
use Rattle.tag.specs.TagString.{is_form, word_bytes, string_of}
use Rattle.tag.specs.Forms.{form_number, IsNamed}
use Rattle.tag.specs.declared.Form.{Form}
use Rattle.tag.specs.declared.Form.TheVariants.{One, Two}
use Rattle.tag.proofs.Forms.{tail_1}

-- each form has a number
pub form_known : (form : Form) → is_form (form_number form) ≡ true
unfolding is_form form_number ◌or◌
form_known One = refl
form_known Two = refl

-- a number that is no form has form 1's string
other_string : (number : ℕ) (ws separator : List ℕ) → is_form number ≡ false → string_of 1 ws separator ≡ string_of number ws separator
unfolding is_form string_of
other_string number ws separator e =
    let other = or_false (eqb number 1) (eqb number 2) e in
    ap (λ (l : List ℕ). word_bytes ws ++ separator ++ l)
    (tail_1 1 refl (length separator) ∙ sym (tail_1 number other.1 (length separator)))

-- a number names a form, or is none
pub named_ok : (number : ℕ) (r : Result Form Refusal) → IsNamed number r → is_ok r ≡ is_form number
named_ok number (Ok form) e = sym (ap is_form e ∙ form_known form)
named_ok number (Err refusal) e = sym e.0

-- the string in the form that a number names, and in form 1 where it names none
pub string_named : (number : ℕ) (r : Result Form Refusal) (ws separator : List ℕ) → IsNamed number r
    → string_of (form_number (result_unwrap_or r One)) ws separator ≡ string_of number ws separator
unfolding form_number
string_named number (Ok form) ws separator e = ap (λ (n : ℕ). string_of n ws separator) (sym e)
string_named number (Err refusal) ws separator e = other_string number ws separator e.0
