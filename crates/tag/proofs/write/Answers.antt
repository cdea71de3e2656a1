-- `tag::write` meets its contract.
-- Assumes nothing.
use mathlib.Core.Path.{◌≡◌, refl, sym, ap, ◌∙◌}
use mathlib.Core.Bool.{true}
use mathlib.Core.List.{List}
use Prim.Native.Nat.{ℕ}
use Rattle.std.specs.Prelude.{Err}
use Rattle.std.proofs.lemmas.Result.{err_from_is_err_and}
use Rattle.basics.specs.Answers.{number_of}
use Rattle.pattern.specs.Opening.{opening, with_words}
use Rattle.pattern.specs.Pattern.{merged_words}
use Rattle.pattern.specs.Answers.{words_answer}
use Rattle.pattern.proofs.Checked.{number_checked, started, words_checked}
use Rattle.basics.proofs.Refused.{refusal_some}
use Rattle.tag.specs.TagString.{is_form, string_of, tag_string, string_written, string_buffer}
use Rattle.tag.specs.Forms.{form_number}
use Rattle.tag.specs.Answers.{written_answer}
use Rattle.tag.specs.declared.Form.{Form}
use Rattle.tag.proofs.Named.{form_known}
use Rattle.tag.proofs.Writing.{form_refuses, check_refuses, written_accepted, buffer_accepted}
use Rattle.tag.proofs.write.Goals as goal

pub returns-in_err-form : goal.returns-in_err-form
unfolding written_answer number_of
returns-in_err-form c =
    let args = c.args in
    let none = c.in_err-form.ensures in
    let err = err_from_is_err_and c.from_residual.result c.from_residual.ensures.1 in
    let (answer, buffer) = form_refuses args.form (opening args.words.now args.separator.now) args.buffer.now none.0 in
    (ap written_answer (err.1 ∙ ap Err (err.2 ∙ none.1)) ∙ answer, buffer)

-- a number that names a form is one
is_one : (number : ℕ) (form : Form) → number ≡ form_number form → is_form number ≡ true
is_one number form e = ap is_form e ∙ form_known form

pub returns-in_err-merged : goal.returns-in_err-merged
unfolding written_answer words_answer with_words
returns-in_err-merged c =
    let args = c.args in
    let o = opening args.words.now args.separator.now in
    let refusal = c.in_err-merged.field-0.0 in
    let err = err_from_is_err_and c.from_residual-in_err-merged.result c.from_residual-in_err-merged.ensures.1 in
    let number = number_checked o (words_answer (Err refusal)) c.in_err-merged.ensures in
    let (answer, buffer) =
    check_refuses args.form o args.buffer.now (is_one _ _ c.in_ok-form.ensures) (number_of refusal) number (refusal_some refusal) in
    (ap written_answer (err.1 ∙ ap Err err.2) ∙ answer, buffer)

pub returns : goal.returns
unfolding tag_string words_answer
returns c =
    let args = c.args in
    let o = opening args.words.now args.separator.now in
    let buffer = args.buffer.now in
    let checked = c.in_ok-merged.ensures in
    let known = is_one _ _ c.in_ok-form.ensures in
    let accepts = started o _ checked refl in
    let words = c.as_slice.ensures ∙ words_checked o _ checked refl in
    let form = sym c.in_ok-form.ensures in (
      c.put_string.ensures.0
          ∙ ap (λ (ws : List ℕ). string_written (string_of (form_number c.in_ok-form.form) ws o.separator) buffer) words
          ∙ ap (λ (f : ℕ). string_written (string_of f (merged_words o.words) o.separator) buffer) form
          ∙ written_accepted args.form o buffer known accepts,
      c.put_string.ensures.1
          ∙ ap (λ (ws : List ℕ). string_buffer (string_of (form_number c.in_ok-form.form) ws o.separator) buffer) words
          ∙ ap (λ (f : ℕ). string_buffer (string_of f (merged_words o.words) o.separator) buffer) form
          ∙ buffer_accepted args.form o buffer known accepts,
    )
