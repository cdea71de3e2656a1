use mathlib.Core.Path.{ap₂, ◌∙◌}
use Rattle.session.specs.Calls.{giving}
use Rattle.session.specs.Answers.{start_answer}
use Rattle.tuilarder.proofs.tuilarder_start.Goals as goal

pub returns-in-Ok : goal.returns-in-Ok
unfolding start_answer
returns-in-Ok c = c.in-Ok.ensures

pub returns-in-Err : goal.returns-in-Err
unfolding start_answer
returns-in-Err c = ap₂ giving c.from.ensures c.wiped.ensures ∙ c.in-Err.ensures
