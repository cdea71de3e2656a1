use mathlib.Core.Path.{ap, ◌∙◌}
use Rattle.basics.specs.Answers.{number_of}
use Rattle.owners.specs.Answers.{checked_answer}
use Rattle.owners.specs.Owners.{Checked}
use Rattle.tuilarder.proofs.tuilarder_check_owners.Goals as goal

pub returns-in-Ok : goal.returns-in-Ok
unfolding checked_answer
returns-in-Ok c = (ap (λ (a : Checked). a.number) c.in-Ok.ensures, ap (λ (a : Checked). a.place) c.in-Ok.ensures)

pub returns-in-Err : goal.returns-in-Err
unfolding checked_answer
returns-in-Err c = (
  c.from-in-Err.ensures ∙ ap number_of c.from.ensures ∙ ap (λ (a : Checked). a.number) c.in-Err.ensures,
  c.place.ensures ∙ ap (λ (a : Checked). a.place) c.in-Err.ensures,
)
