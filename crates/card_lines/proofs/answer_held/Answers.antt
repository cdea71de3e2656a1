-- `card_lines::answer_held` meets its contract.
-- Assumes nothing.
use mathlib.Core.Path.{sym, ap, ◌∙◌}
use mathlib.Core.List.{List}
use Prim.Native.Nat.{ℕ}
use native.Mathlib.Omega.{arith}
use lib.ListN.{length, take}
use lib.Seq.{length-take-le}
use Rattle.basics.specs.Lists.{placed}
use Rattle.card.specs.Answer.{answer, with_newline}
use Rattle.card_lines.specs.Stream.{held_answer}
use Rattle.card_lines.proofs.HeldLine.{within_line}
use Rattle.card_lines.proofs.answer_held.Goals as goal

pub slice_bounds-answer-end : goal.slice_bounds-answer-end
slice_bounds-answer-end c =
    sym (length-take-le _ c.args.line.now (omega (arith, c.requires, c.within-end.ensures)))

pub returns : goal.returns
unfolding held_answer
returns c =
    let line = c.args.line.now in
    let all = ap (λ (k : ℕ). take k line) c.within-end.ensures ∙ within_line line c.args.held c.requires in
    let text = ap (λ (l : List ℕ). with_newline (answer l)) all in
    (c.answer.ensures.0 ∙ ap length text, c.answer.ensures.1 ∙ ap (placed c.args.answer.now 0) text)
