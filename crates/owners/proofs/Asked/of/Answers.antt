-- `owners::Asked::of` meets its contract.
-- Assumes nothing.
use mathlib.Core.Path.{sym, ap, ◌∙◌}
use Rattle.basics.specs.Answers.{number_of}
use Rattle.owners.specs.Answers.{asked_answer}
use Rattle.owners.proofs.Asked.of.Goals as goal

pub returns-in-Ok : goal.returns-in-Ok
unfolding asked_answer
returns-in-Ok c = ap asked_answer (sym c.in-Ok.is)

pub returns-in-Err : goal.returns-in-Err
unfolding asked_answer
returns-in-Err c =
    let number = c.from-in-Err.ensures ∙ ap number_of c.from.ensures in
    (λ i. record { number = number i; place = c.place.ensures i; line = 0 }) ∙ ap asked_answer (sym c.in-Err.is)
