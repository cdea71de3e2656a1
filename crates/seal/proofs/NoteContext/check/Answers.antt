-- `seal::NoteContext::check` meets its contract.
-- Assumes nothing.
use mathlib.Core.Path.{◌≡◌, sym, ap, ◌∙◌}
use mathlib.Core.Bool.{true, false, not}
use Prim.Native.Nat.{ℕ, ◌+◌}
use native.Mathlib.Omega.{arith}
use borrow.Author.Tests.{lt-ltb, le-ltb, eq-eqb, ne_eqb}
use Rattle.std.specs.Prelude.{Err}
use Rattle.std.proofs.lemmas.Result.{err_from_is_err_and}
use lib.Dec.{ltb, eqb}
use lib.ListN.{length}
use Rattle.basics.specs.Answers.{number_of, answer_number}
use Rattle.basics.specs.Lists.{total}
use Rattle.basics.specs.Refusals.{first_number}
use Rattle.basics.proofs.Cases.{if_true, if_false}
use Rattle.field.specs.Field.{is_field, field_of}
use Rattle.field.specs.declared.Field.{Field}
use Rattle.seal.specs.Seal.{sound_lengths, are_elements, note_rows}
use Rattle.seal.proofs.Lengths.{lengths_sound, total_fits}
use Rattle.seal.proofs.NoteContext.check.Goals as goal
use Rattle.seal.proofs.NoteContext.check.Goals.{After-are_elements, Else-buffer-size, Else-not-are_sound_lengths, Else-self-gt-MAX_SEPARATOR, Else-self-ne-KEY_LENGTH, Else-self-ne-NONCE_LENGTH, Else-text-size, In_ok-field}

-- what each leaves behind
passed_1 : (c : In_ok-field) → not (is_field c.args.self.now.field) ≡ false
passed_1 c = ap not c.in_ok-field.ensures.0

passed_2 : (c : Else-self-gt-MAX_SEPARATOR) → ltb 256 (length c.args.self.now.separator.now) ≡ false
passed_2 c = le-ltb 256 _ c.if-self-gt-MAX_SEPARATOR.false

sound : (c : Else-not-are_sound_lengths) → sound_lengths c.args.self.now.lengths.now ≡ true
sound c = sym c.are_sound_lengths.ensures ∙ c.if-not-are_sound_lengths.false

passed_3 : (c : Else-not-are_sound_lengths) → not (sound_lengths c.args.self.now.lengths.now) ≡ false
passed_3 c = ap not (sound c)

passed_4 : (c : Else-self-ne-KEY_LENGTH) → not (eqb (length c.args.self.now.key.now) 8) ≡ false
passed_4 c = ap not (eq-eqb _ 8 c.if-self-ne-KEY_LENGTH.false)

passed_5 : (c : Else-self-ne-NONCE_LENGTH) → not (eqb (length c.args.self.now.nonce.now) 8) ≡ false
passed_5 c = ap not (eq-eqb _ 8 c.if-self-ne-NONCE_LENGTH.false)

passed_6 : (c : Else-text-size) → let args = c.args in
    not (eqb (length args.text.now) (total args.self.now.lengths.now + args.text_mark)) ≡ false
passed_6 c =
    let args = c.args in
    ap not (eq-eqb _ _ (c.if-text-size.false ∙ ap (λ (k : ℕ). k + args.text_mark) c.total-size.ensures))

passed_7 : (c : Else-buffer-size) → let args = c.args in
    not (eqb args.buffer (total args.self.now.lengths.now + args.buffer_mark)) ≡ false
passed_7 c =
    let args = c.args in
    ap not (eq-eqb _ _ (c.if-buffer-size.false ∙ ap (λ (k : ℕ). k + args.buffer_mark) c.total-size.ensures))

pub overflow_add-size : goal.overflow_add-size
overflow_add-size c =
    let small = total_fits _ (lengths_sound _ (sound (goal.at.overflow_add-size c).Else-not-are_sound_lengths)) in
    let size = c.total-size.ensures in
    let mark = c.requires in
    omega (arith, small, size, mark)

-- whether key, nonce and text are elements of the field that the number names
elements : (c : After-are_elements) → let args = c.args in
    c.are_elements.result ≡ are_elements (field_of args.self.now.field) args.self.now.key.now args.self.now.nonce.now args.text.now
elements c =
    let args = c.args in
    c.are_elements.ensures ∙ ap (λ (f : Field). are_elements f args.self.now.key.now args.self.now.nonce.now args.text.now) c.in_ok-field.ensures.1

pub returns-in_err-field : goal.returns-in_err-field
unfolding note_rows first_number answer_number number_of
returns-in_err-field c =
    let err = err_from_is_err_and c.from_residual.result c.from_residual.ensures.1 in
    ap answer_number (err.1 ∙ ap Err (err.2 ∙ c.in_err-field.ensures.1))
    ∙ sym (if_true _ _ _ (ap not c.in_err-field.ensures.0))

pub returns-then-self-gt-MAX_SEPARATOR : goal.returns-then-self-gt-MAX_SEPARATOR
unfolding note_rows first_number answer_number number_of
returns-then-self-gt-MAX_SEPARATOR c =
    let here = goal.at.returns-then-self-gt-MAX_SEPARATOR c in
    sym
    (if_false _ _ _ (passed_1 here.In_ok-field)
    ∙ if_true _ _ _ (lt-ltb 256 _ c.if-self-gt-MAX_SEPARATOR.true))

pub returns-then-not-are_sound_lengths : goal.returns-then-not-are_sound_lengths
unfolding note_rows first_number answer_number number_of
returns-then-not-are_sound_lengths c =
    let here = goal.at.returns-then-not-are_sound_lengths c in
    sym
    (if_false _ _ _ (passed_1 here.In_ok-field)
    ∙ if_false _ _ _ (passed_2 here.Else-self-gt-MAX_SEPARATOR)
    ∙ if_true _ _ _ (ap not (sym c.are_sound_lengths.ensures ∙ c.if-not-are_sound_lengths.true)))

pub returns-then-self-ne-KEY_LENGTH : goal.returns-then-self-ne-KEY_LENGTH
unfolding note_rows first_number answer_number number_of
returns-then-self-ne-KEY_LENGTH c =
    let here = goal.at.returns-then-self-ne-KEY_LENGTH c in
    sym
    (if_false _ _ _ (passed_1 here.In_ok-field)
    ∙ if_false _ _ _ (passed_2 here.Else-self-gt-MAX_SEPARATOR)
    ∙ if_false _ _ _ (passed_3 here.Else-not-are_sound_lengths)
    ∙ if_true _ _ _ (ap not (ne_eqb _ 8 c.if-self-ne-KEY_LENGTH.true)))

pub returns-then-self-ne-NONCE_LENGTH : goal.returns-then-self-ne-NONCE_LENGTH
unfolding note_rows first_number answer_number number_of
returns-then-self-ne-NONCE_LENGTH c =
    let here = goal.at.returns-then-self-ne-NONCE_LENGTH c in
    sym
    (if_false _ _ _ (passed_1 here.In_ok-field)
    ∙ if_false _ _ _ (passed_2 here.Else-self-gt-MAX_SEPARATOR)
    ∙ if_false _ _ _ (passed_3 here.Else-not-are_sound_lengths)
    ∙ if_false _ _ _ (passed_4 here.Else-self-ne-KEY_LENGTH)
    ∙ if_true _ _ _ (ap not (ne_eqb _ 8 c.if-self-ne-NONCE_LENGTH.true)))

pub returns-then-text-size : goal.returns-then-text-size
unfolding note_rows first_number answer_number number_of
returns-then-text-size c =
    let here = goal.at.returns-then-text-size c in
    sym
    (if_false _ _ _ (passed_1 here.In_ok-field)
    ∙ if_false _ _ _ (passed_2 here.Else-self-gt-MAX_SEPARATOR)
    ∙ if_false _ _ _ (passed_3 here.Else-not-are_sound_lengths)
    ∙ if_false _ _ _ (passed_4 here.Else-self-ne-KEY_LENGTH)
    ∙ if_false _ _ _ (passed_5 here.Else-self-ne-NONCE_LENGTH)
    ∙ if_true _ _ _ (ap not (ne_eqb _ _ (λ e. c.if-text-size.true (e ∙ sym (ap (λ (k : ℕ). k + c.args.text_mark) c.total-size.ensures))))))

pub returns-then-buffer-size : goal.returns-then-buffer-size
unfolding note_rows first_number answer_number number_of
returns-then-buffer-size c =
    let here = goal.at.returns-then-buffer-size c in
    sym
    (if_false _ _ _ (passed_1 here.In_ok-field)
    ∙ if_false _ _ _ (passed_2 here.Else-self-gt-MAX_SEPARATOR)
    ∙ if_false _ _ _ (passed_3 here.Else-not-are_sound_lengths)
    ∙ if_false _ _ _ (passed_4 here.Else-self-ne-KEY_LENGTH)
    ∙ if_false _ _ _ (passed_5 here.Else-self-ne-NONCE_LENGTH)
    ∙ if_false _ _ _ (passed_6 here.Else-text-size)
    ∙ if_true _ _ _ (ap not (ne_eqb _ _ (λ e. c.if-buffer-size.true (e ∙ sym (ap (λ (k : ℕ). k + c.args.buffer_mark) c.total-size.ensures))))))

pub returns-then-not-are_elements : goal.returns-then-not-are_elements
unfolding note_rows first_number answer_number number_of
returns-then-not-are_elements c =
    let here = goal.at.returns-then-not-are_elements c in
    sym
    (if_false _ _ _ (passed_1 here.In_ok-field)
    ∙ if_false _ _ _ (passed_2 here.Else-self-gt-MAX_SEPARATOR)
    ∙ if_false _ _ _ (passed_3 here.Else-not-are_sound_lengths)
    ∙ if_false _ _ _ (passed_4 here.Else-self-ne-KEY_LENGTH)
    ∙ if_false _ _ _ (passed_5 here.Else-self-ne-NONCE_LENGTH)
    ∙ if_false _ _ _ (passed_6 here.Else-text-size)
    ∙ if_false _ _ _ (passed_7 here.Else-buffer-size)
    ∙ if_true _ _ _ (ap not (sym (elements here.After-are_elements) ∙ c.if-not-are_elements.true)))

pub returns : goal.returns
unfolding note_rows first_number answer_number number_of
returns c =
    let here = goal.at.returns c in
    sym
    (if_false _ _ _ (passed_1 here.In_ok-field)
    ∙ if_false _ _ _ (passed_2 here.Else-self-gt-MAX_SEPARATOR)
    ∙ if_false _ _ _ (passed_3 here.Else-not-are_sound_lengths)
    ∙ if_false _ _ _ (passed_4 here.Else-self-ne-KEY_LENGTH)
    ∙ if_false _ _ _ (passed_5 here.Else-self-ne-NONCE_LENGTH)
    ∙ if_false _ _ _ (passed_6 here.Else-text-size)
    ∙ if_false _ _ _ (passed_7 here.Else-buffer-size)
    ∙ if_false _ _ _ (ap not (sym (elements here.After-are_elements) ∙ c.if-not-are_elements.false)))
