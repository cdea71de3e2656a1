-- `tag_reader::read_parts` meets its contract.
-- Assumes nothing.
use mathlib.Core.Path.{◌≡◌, refl, sym, ap, ap₂, ◌∙◌}
use mathlib.Core.Bool.{false}
use mathlib.Core.List.{List}
use Prim.Native.Nat.{ℕ, ◌*◌}
use Rattle.std.specs.Prelude.{Err}
use Rattle.std.proofs.lemmas.Result.{err_from_is_err_and}
use Rattle.basics.specs.Numbers.{accepted}
use Rattle.basics.specs.Answers.{number_of}
use Rattle.basics.specs.declared.Refusal.TheVariants.{NotTagString, FormUnknown}
use Rattle.pattern.specs.Answers.{words_answer}
use Rattle.pattern.specs.Opening.{WordList, answer_with}
use Rattle.tag.specs.TagString.{is_form, tail_missing, body_of, length_in, words_of, words_part, read_words}
use Rattle.tag.specs.Forms.{form_number}
use Rattle.tag.specs.declared.Form.{Form}
use Rattle.tag.proofs.Named.{form_known}
use Rattle.tag.proofs.Reading.{body_number, read_refused, number_22, number_13_tail, words_of_body}
use Rattle.tag_reader.specs.Answers.{parts_answer}
use Rattle.tag_reader.proofs.Place.{refused_with, accepted_parts}
use Rattle.tag_reader.proofs.read_parts.Goals as goal

-- what the body answers is what the string does
answered : (number : ℕ) (form : Form) (s : List ℕ) (n : ℕ) (body : List ℕ) (length : ℕ) (r : WordList)
    → number ≡ form_number form
    → tail_missing (form_number form) s ≡ false
    → body ≡ body_of (form_number form) s
    → length ≡ length_in (form_number form) s n
    → r ≡ answer_with (body_number body length) (words_of (words_part body length))
    → r ≡ read_words number s n
answered number form s n body length r is there b l e =
    e
    ∙ ap₂ (λ (x : List ℕ) (k : ℕ). answer_with (body_number x k) (words_of (words_part x k))) b l
    ∙ sym (words_of_body (form_number form) s n (form_known form) there)
    ∙ ap (λ (m : ℕ). read_words m s n) (sym is)

pub returns-in_err-form : goal.returns-in_err-form
unfolding number_of
returns-in_err-form c =
    let args = c.args in
    let s = args.string.now in
    let n = args.separator_length in
    let none = c.in_err-form.ensures in
    let err = err_from_is_err_and c.from_residual.result c.from_residual.ensures.1 in
    ap (parts_answer s) (err.1 ∙ ap Err (err.2 ∙ none.1))
    ∙ refused_with args.form s n FormUnknown (read_refused args.form s n _ refl (number_22 args.form s n none.0))

pub returns-in_err-body : goal.returns-in_err-body
unfolding number_of
returns-in_err-body c =
    let args = c.args in
    let s = args.string.now in
    let n = args.separator_length in
    let form = c.in_ok-form.ensures in
    let none = c.in_err-body.ensures in
    let known = ap is_form form ∙ form_known _ in
    let missing = ap (λ (m : ℕ). tail_missing m s) form ∙ none.0 in
    let err = err_from_is_err_and c.from_residual-in_err-body.result c.from_residual-in_err-body.ensures.1 in
    ap (parts_answer s) (err.1 ∙ ap Err (err.2 ∙ none.1))
    ∙ refused_with args.form s n NotTagString (read_refused args.form s n _ refl (number_13_tail args.form s n known missing))

pub returns-in_err-words : goal.returns-in_err-words
unfolding words_answer
returns-in_err-words c =
    let args = c.args in
    let s = args.string.now in
    let n = args.separator_length in
    let (there, body, length) = c.in_ok-body.ensures in
    let err = err_from_is_err_and c.from_residual-in_err-words.result c.from_residual-in_err-words.ensures.1 in
    let words = answered _ _ s n _ _ _ c.in_ok-form.ensures there body length c.in_err-words.ensures in
    ap (parts_answer s) (err.1 ∙ ap Err err.2) ∙ refused_with args.form s n c.in_err-words.field-0.0 (sym words)

pub returns : goal.returns
unfolding words_answer parts_answer
returns c =
    let args = c.args in
    let s = args.string.now in
    let n = args.separator_length in
    let (there, body, length) = c.in_ok-body.ensures in
    let list = c.in_ok-words.words in
    let words = answered _ _ s n _ _ _ c.in_ok-form.ensures there body length c.in_ok-words.ensures in
    let given = length ∙ ap (λ (m : ℕ). length_in m s n) (sym c.in_ok-form.ensures) in
    (λ i. record { number = accepted; words = list.words; count = list.count; start = 4 * list.count; length = given i })
    ∙ accepted_parts args.form s n _ words refl
