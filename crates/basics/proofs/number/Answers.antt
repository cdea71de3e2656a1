use Rattle.std.proofs.Common.{ap, ◌∙◌, sym}
use Rattle.basics.specs.Answers.{answer_number}
use Rattle.basics.proofs.number.Goals as goal

-- src/lib.rt:92:1
pub returns-in-Ok : goal.returns-in-Ok
unfolding answer_number
returns-in-Ok g c = ap answer_number (sym c.in-Ok.is)

-- src/lib.rt:92:1
pub returns-in-Err : goal.returns-in-Err
unfolding answer_number
returns-in-Err g c = c.from.ensures ∙ ap answer_number (sym c.in-Err.is)
