-- `card::answer_card` meets its contract.
-- Assumes nothing.
use mathlib.Core.Path.{◌≡◌, refl, sym, ap, ap₂, ◌∙◌}
use mathlib.Core.List.{List}
use Prim.Native.Nat.{ℕ}
use native.Mathlib.Omega.{arith}
use lib.ListN.{length}
use lib.Seq.{length-take-le}
use Rattle.std.proofs.Common.{Ok, Err}
use Rattle.basics.proofs.Refused.{refusal_some}
use Rattle.basics.specs.Lists.{placed}
use Rattle.counters.specs.Permutations.{permutations_at}
use Rattle.pattern.specs.Opening.{opening, with_words}
use Rattle.pattern.specs.Answers.{words_answer}
use Rattle.pattern.proofs.Checked.{started}
use Rattle.tag.proofs.Writing.{tag_string_short}
use Rattle.tag.proofs.CheckedString.{is_written, written_inside, written_string}
use Rattle.card.specs.Answer.{card_form, ok_text, with_newline}
use Rattle.card.proofs.Bounds.{few_permutations}
use Rattle.card.proofs.CardAnswer.{refuses, counts, answers}
use borrow.Author.Rules.{rules}
use Rattle.card.proofs.answer_card.Goals as goal

pub returns-in-Err : goal.returns-in-Err
unfolding words_answer with_words
returns-in-Err c =
    let o = opening c.args.words.now c.args.separator.now in
    let text = ap with_newline (sym (refuses o (words_answer (Err c.in-Err.refusal)) c.in-Err.ensures (refusal_some c.in-Err.refusal))) in
    (c.put_no.ensures.0 ∙ ap length text, c.put_no.ensures.1 ∙ ap (placed c.args.buffer.now 0) text)

pub unwrap-length-requires : goal.unwrap-length-requires
unwrap-length-requires c =
    let o = opening c.args.words.now c.args.separator.now in
    let written = c.write_string.ensures in
    is_written card_form o c.in-Ok.merged c.in-Ok.ensures _ c.as_slice-list.ensures _ _ written.0 written.1

-- where the string was written it lies in the bytes lent for it
pub slice_bounds-string-end : goal.slice_bounds-string-end
slice_bounds-string-end c =
    let o = opening c.args.words.now c.args.separator.now in
    let written = c.write_string.ensures in
    written_inside card_form o c.in-Ok.merged c.in-Ok.ensures _ c.as_slice-list.ensures _ _ written.0 written.1 _ c.unwrap-length.ensures

pub slice_bounds-put_ok-end : goal.slice_bounds-put_ok-end
slice_bounds-put_ok-end c =
    let o = opening c.args.words.now c.args.separator.now in
    let written = c.write_string.ensures in
    sym
    (length-take-le _ _
    (written_inside card_form o c.in-Ok.merged c.in-Ok.ensures _ c.as_slice-list.ensures _ _ written.0 written.1 _ c.unwrap-length.ensures))

pub put_ok-requires : goal.put_ok-requires
unfolding words_answer
put_ok-requires c =
    let o = opening c.args.words.now c.args.separator.now in
    let starts = started o (words_answer (Ok c.in-Ok.merged)) c.in-Ok.ensures refl in
    let written = c.write_string.ensures in
    let string = written_string card_form o c.in-Ok.merged c.in-Ok.ensures _ c.as_slice-list.ensures _ _ written.0 written.1 _ c.unwrap-length.ensures in
    let short = tag_string_short card_form o starts in
    let few = few_permutations o starts in
    let count = c.in-Ok.merged.count in
    let counted =
    c.permutations_at-permutations.ensures
    ∙ ap (λ (ws : List ℕ). permutations_at ws count 0) c.as_slice-list.ensures
    ∙ counts o (words_answer (Ok c.in-Ok.merged)) c.in-Ok.ensures refl in
    (omega (arith, ap length string), omega arith)

-- what was written is the tag string
pub returns : goal.returns
unfolding words_answer
returns c =
    let o = opening c.args.words.now c.args.separator.now in
    let written = c.write_string.ensures in
    let string = written_string card_form o c.in-Ok.merged c.in-Ok.ensures _ c.as_slice-list.ensures _ _ written.0 written.1 _ c.unwrap-length.ensures in
    let count = c.in-Ok.merged.count in
    let counted = c.permutations_at-permutations.ensures ∙ ap (λ (ws : List ℕ). permutations_at ws count 0) c.as_slice-list.ensures in
    let text =
    ap with_newline
    (ap (ok_text _) counted
    ∙ answers o (words_answer (Ok c.in-Ok.merged)) c.in-Ok.ensures refl _ string) in
    (c.put_ok.ensures.0 ∙ ap length text, c.put_ok.ensures.1 ∙ ap (placed c.args.buffer.now 0) text)
