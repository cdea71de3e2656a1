-- `card_lines::end` meets its contract.
-- Assumes nothing.
use mathlib.Core.Path.{sym, ap, ◌∙◌}
use borrow.Author.Tests.{eq-eqb, ne_eqb}
use lib.ListN.{length}
use Rattle.basics.specs.Lists.{placed}
use Rattle.basics.proofs.Cases.{if_true, if_false}
use Rattle.basics.proofs.Placed.{placed_none}
use Rattle.card_lines.specs.Stream.{last_answer}
use borrow.Author.Rules.{rules}
use Rattle.card_lines.proofs.end.Goals as goal

pub returns-then-held-eq0 : goal.returns-then-held-eq0
unfolding last_answer
returns-then-held-eq0 c =
    let args = c.args in
    let answer = args.answer.now in
    let none = if_true _ _ _ (eq-eqb args.last.held 0 (search rules)) in
    (ap length (sym none), sym (placed_none answer 0) ∙ ap (placed answer 0) (sym none))

pub returns : goal.returns
unfolding last_answer
returns c =
    let args = c.args in
    let some = if_false _ _ _ (ne_eqb args.last.held 0 (search rules)) in
    let answered = c.answer_held.ensures in
    (answered.0 ∙ ap length (sym some), answered.1 ∙ ap (placed args.answer.now 0) (sym some))
