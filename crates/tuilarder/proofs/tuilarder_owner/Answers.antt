use mathlib.Core.Path.{sym, ap, ◌∙◌}
use Rattle.basics.specs.Answers.{number_of}
use Rattle.owners.specs.Answers.{asked_answer}
use Rattle.owners.specs.Owners.{value_of}
use Rattle.owners.specs.declared.Asked.{Asked}
use Rattle.tuilarder.proofs.tuilarder_owner.Goals as goal

pub returns-in-Ok : goal.returns-in-Ok
unfolding asked_answer
returns-in-Ok c =
    let e = ap asked_answer (sym c.in-Ok.is) ∙ c.owner-asked.ensures in
    (ap (λ (a : Asked). a.number) e, c.value.ensures ∙ ap value_of (c.of.ensures ∙ c.owner-asked.ensures))

pub returns-in-Err : goal.returns-in-Err
unfolding asked_answer
returns-in-Err c =
    let e = ap asked_answer (sym c.in-Err.is) ∙ c.owner-asked.ensures in (
      c.from-in-Err.ensures ∙ ap number_of c.from.ensures ∙ ap (λ (a : Asked). a.number) e,
      c.value.ensures ∙ ap value_of (c.of.ensures ∙ c.owner-asked.ensures),
    )
