-- `session::Session::start` meets its contract.
-- Assumes nothing.
use mathlib.Core.Path.{◌≡◌, sym, ap, ◌∙◌}
use mathlib.Core.Bool.{true}
use mathlib.Core.List.{List}
use Prim.Native.Nat.{ℕ, ◌≤◌}
use lib.ListN.{length, take, replicate}
use lib.Seq.{length-take-le}
use Rattle.std.proofs.Common.{Err}
use Rattle.std.proofs.lemmas.Result.{err_from_is_err_and}
use Rattle.basics.specs.Answers.{number_of}
use Rattle.basics.specs.Numbers.{accepted}
use Rattle.sha3.specs.Sponge.{sha3}
use Rattle.field.specs.Field.{is_field}
use Rattle.pattern.specs.Answers.{words_answer}
use Rattle.pattern.specs.Opening.{opening, with_words}
use Rattle.pattern.proofs.Checked.{number_checked}
use Rattle.basics.proofs.Refused.{refusal_some}
use Rattle.tag.specs.Answers.{written_answer}
use Rattle.tag.specs.TagString.{is_form, max_string, string_of, string_written, string_buffer}
use Rattle.tag.specs.Elements.{tag_elements}
use Rattle.tag.proofs.Named.{form_known}
use Rattle.session.specs.Answers.{start_answer}
use Rattle.session.specs.Record.{tag_state, opened, wiped, open_record}
use Rattle.session.specs.Calls.{giving, start_record}
use Rattle.session.proofs.Opening.{start_unknown, start_form_unknown, start_refused, start_opens}
use Rattle.session.proofs.Written.{accepts, merges, writes, written_inside, written_string}
use Rattle.session.proofs.Session.start.Goals as goal
use Rattle.session.proofs.Session.start.Goals.{After-write_string, After-unwrap-length, In_ok-try_from, In_ok-try_from-2, In_ok-merged}

-- the field number names a field
named : (c : In_ok-try_from) → is_field c.args.field ≡ true
named c = c.in_ok-try_from.ensures.0

-- and the form number a form
formed : (c : In_ok-try_from-2) → is_form c.args.form ≡ true
formed c = ap is_form c.in_ok-try_from-2.ensures ∙ form_known _

pub returns-in_err-try_from : goal.returns-in_err-try_from
unfolding start_answer number_of
returns-in_err-try_from c =
    let err = err_from_is_err_and c.from_residual.result c.from_residual.ensures.1 in
    let unknown = c.in_err-try_from.ensures in
    ap start_answer (err.1 ∙ ap Err (err.2 ∙ unknown.1)) ∙ sym (start_unknown _ c.args.form _ unknown.0)

pub returns-in_err-try_from-2 : goal.returns-in_err-try_from-2
unfolding start_answer number_of
returns-in_err-try_from-2 c =
    let at = (goal.at.returns-in_err-try_from-2 c).In_ok-try_from in
    let err = err_from_is_err_and c.from_residual-in_err-try_from-2.result c.from_residual-in_err-try_from-2.ensures.1 in
    let unknown = c.in_err-try_from-2.ensures in
    ap start_answer (err.1 ∙ ap Err (err.2 ∙ unknown.1)) ∙ sym (start_form_unknown _ _ _ (named at) unknown.0)

pub returns-in_err-merged : goal.returns-in_err-merged
unfolding start_answer words_answer with_words
returns-in_err-merged c =
    let at_field = (goal.at.returns-in_err-merged c).In_ok-try_from in
    let at_form = (goal.at.returns-in_err-merged c).In_ok-try_from-2 in
    let o = opening c.args.words.now c.args.separator.now in
    let err = err_from_is_err_and c.from_residual-in_err-merged.result c.from_residual-in_err-merged.ensures.1 in
    let number = number_checked o _ c.in_err-merged.ensures in
    ap start_answer (err.1 ∙ ap Err err.2)
    ∙ ap (λ (n : ℕ). giving n wiped) number
    ∙ sym (start_refused _ _ o (named at_field) (formed at_form) (λ e. refusal_some _ (number ∙ e)))

-- what writing the string answers, by the opening
answered : (c : After-write_string)
    → written_answer c.write_string.result ≡ string_written (string_of c.args.form (take c.in_ok-merged.merged.count c.in_ok-merged.merged.words) c.args.separator.now) (replicate max_string 0)
answered c =
    c.write_string.ensures.0
    ∙ ap (λ (ws : List ℕ). string_written (string_of c.args.form ws c.args.separator.now) (replicate max_string 0)) c.as_slice.ensures

-- and what it leaves in the buffer
left : (c : After-write_string)
    → c.write_string.new.buffer ≡ string_buffer (string_of c.args.form (take c.in_ok-merged.merged.count c.in_ok-merged.merged.words) c.args.separator.now) (replicate max_string 0)
left c =
    c.write_string.ensures.1
    ∙ ap (λ (ws : List ℕ). string_buffer (string_of c.args.form ws c.args.separator.now) (replicate max_string 0)) c.as_slice.ensures

fits : (c : After-unwrap-length) → c.unwrap-length.result ≤ length c.write_string.new.buffer
fits c =
    let at = (goal.at.After-unwrap-length c).After-write_string in
    written_inside (opening c.args.words.now c.args.separator.now) _ c.in_ok-merged.ensures _ _ _ (answered at) (left at) _ c.unwrap-length.ensures

pub unwrap-length-requires : goal.unwrap-length-requires
unwrap-length-requires c =
    let at = (goal.at.unwrap-length-requires c).After-write_string in
    writes (opening c.args.words.now c.args.separator.now) _ c.in_ok-merged.ensures _ _ _ (answered at) (left at)

pub slice_bounds-string-end : goal.slice_bounds-string-end
slice_bounds-string-end c = fits (goal.at.slice_bounds-string-end c).After-unwrap-length

pub slice_bounds-sha3_256-end : goal.slice_bounds-sha3_256-end
slice_bounds-sha3_256-end c = sym (length-take-le _ _ (fits (goal.at.slice_bounds-sha3_256-end c).After-unwrap-length))

pub returns : goal.returns
unfolding start_answer giving start_record open_record with_words
returns c =
    let at_field = (goal.at.returns c).In_ok-try_from in
    let at_form = (goal.at.returns c).In_ok-try_from-2 in
    let at_string = (goal.at.returns c).After-write_string in
    let o = opening c.args.words.now c.args.separator.now in
    let read = written_string o _ c.in_ok-merged.ensures _ _ _ (answered at_string) (left at_string) _ c.unwrap-length.ensures in
    let digest = c.sha3_256-digest.ensures ∙ ap sha3 read in
    let state = c.tag_state.ensures ∙ ap tag_state (c.elements.ensures ∙ ap tag_elements digest) in
    let merged = merges o _ c.in_ok-merged.ensures in
    (λ i.
    giving accepted (record {
      status = opened;
      field = c.args.field;
      form = c.args.form;
      state = state i;
      words = (merged i).words;
      count = (merged i).count;
      phase = 0;
      done = 0;
      absorb_position = 0;
      squeeze_position = 0;
      permutations = 0;
    }))
    ∙ sym (start_opens _ _ o (named at_field) (formed at_form) (accepts o _ c.in_ok-merged.ensures))
