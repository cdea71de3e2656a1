use mathlib.Core.Path.{ap, ◌∙◌}
use Rattle.generator.specs.Answers.{generated_answer}
use Rattle.generator.specs.Generator.{Generated}
use Rattle.tuilarder.proofs.tuilarder_generate.Goals as goal

pub returns-in-Ok : goal.returns-in-Ok
unfolding generated_answer
returns-in-Ok c =
    let e = c.in-Ok.ensures in
    (ap (λ (a : Generated). a.number) e, ap (λ (a : Generated). a.constants) e, ap (λ (a : Generated). a.count) e)

pub returns-in-Err : goal.returns-in-Err
unfolding generated_answer
returns-in-Err c =
    let e = c.in-Err.ensures in
    (c.from.ensures ∙ ap (λ (a : Generated). a.number) e, ap (λ (a : Generated). a.constants) e, ap (λ (a : Generated). a.count) e)
