-- `card::answer` meets its contract.
-- Assumes nothing.
use mathlib.Core.Path.{◌≡◌, refl, sym, ap, ap₂, ◌∙◌}
use mathlib.Core.List.{List}
use Prim.Native.Nat.{ℕ}
use lib.ListN.{length}
use Rattle.std.proofs.Common.{Some, None}
use Rattle.basics.specs.Answers.{number_of}
use Rattle.basics.specs.Lists.{placed}
use Rattle.pattern.specs.Opening.{opening}
use Rattle.card.specs.Answer.{no_text, with_newline, card_answer}
use Rattle.card_reader.specs.Answers.{card_given}
use Rattle.card_reader.specs.Reading.{reading}
use Rattle.card.proofs.Reading.{answers_none, answers_card}
use Rattle.card.proofs.answer.Goals as goal

pub returns-in-Some : goal.returns-in-Some
unfolding card_given
returns-in-Some c =
    let text =
    ap with_newline
    (ap₂ (λ (w s : List ℕ). card_answer (opening w s)) c.as_slice.ensures c.as_slice-in-Some.ensures
    ∙ sym (answers_card c.args.line.now (card_given (Some c.in-Some.card)) c.in-Some.ensures refl)) in
    (c.answer_card.ensures.0 ∙ ap length text, c.answer_card.ensures.1 ∙ ap (placed c.args.buffer.now 0) text)

pub returns-in-None : goal.returns-in-None
unfolding card_given reading number_of
returns-in-None c =
    let text = ap with_newline (sym (answers_none c.args.line.now (card_given None) c.in-None.ensures refl)) in
    (c.put_no.ensures.0 ∙ ap length text, c.put_no.ensures.1 ∙ ap (placed c.args.buffer.now 0) text)
