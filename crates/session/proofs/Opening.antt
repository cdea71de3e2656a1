-- START, by the field number, the form number and what the check answers.
-- Assumes nothing.
use mathlib.Core.Path.{◌≡◌, ◌∙◌, ap}
use mathlib.Core.Bool.{true, false, not}
use mathlib.Core.Logic.{◌≢◌}
use Prim.Native.Nat.{ℕ}
use native.Mathlib.Omega.{arith}
use borrow.Author.Tests.{eq-eqb, ne_eqb}
use Rattle.basics.specs.Numbers.{accepted, field_unknown, form_unknown}
use Rattle.basics.specs.Refusals.{first_number}
use Rattle.basics.proofs.Cases.{if_true, if_false}
use Rattle.field.specs.Field.{is_field}
use Rattle.pattern.specs.Opening.{Opening, opening_number}
use Rattle.tag.specs.TagString.{is_form}
use Rattle.session.specs.Record.{wiped}
use Rattle.session.specs.Calls.{giving, start_rows, start_number, start_record, start}

module _ (field form : ℕ) (o : Opening) where
  pub number_unknown : is_field field ≡ false → start_number field form o ≡ field_unknown
  unfolding start_number start_rows first_number
  number_unknown e = if_true _ _ _ (ap not e)

  pub number_of_form : is_field field ≡ true → is_form form ≡ false → start_number field form o ≡ form_unknown
  unfolding start_number start_rows first_number
  number_of_form e f = if_false _ _ _ (ap not e) ∙ if_true _ _ _ (ap not f)

  pub number_known : is_field field ≡ true → is_form form ≡ true → start_number field form o ≡ opening_number o
  unfolding start_number start_rows first_number opening_number
  number_known e f = if_false _ _ _ (ap not e) ∙ if_false _ _ _ (ap not f)

  refused : start_number field form o ≢ accepted → start field form o ≡ giving (start_number field form o) wiped
  unfolding start
  refused n = if_false _ _ _ (ne_eqb _ _ n)

  -- by its number
  refused_with_law : (k : ℕ) → start_number field form o ≡ k → k ≢ accepted → start field form o ≡ giving k wiped
  refused_with_law k number n = refused (λ z. n (omega (arith, number, z))) ∙ ap (λ (n : ℕ). giving n wiped) number

  pub start_unknown : is_field field ≡ false → start field form o ≡ giving field_unknown wiped
  start_unknown e = refused_with_law field_unknown (number_unknown e) (λ z. omega (arith, z))

  pub start_form_unknown : is_field field ≡ true → is_form form ≡ false → start field form o ≡ giving form_unknown wiped
  start_form_unknown e f = refused_with_law form_unknown (number_of_form e f) (λ z. omega (arith, z))

  pub start_refused : is_field field ≡ true → is_form form ≡ true → opening_number o ≢ accepted → start field form o ≡ giving (opening_number o) wiped
  start_refused e f n = refused_with_law (opening_number o) (number_known e f) n

  pub start_opens : is_field field ≡ true → is_form form ≡ true → opening_number o ≡ accepted → start field form o ≡ giving accepted (start_record field form o)
  unfolding start
  start_opens e f n = if_true _ _ _ (eq-eqb _ _ (number_known e f ∙ n))
