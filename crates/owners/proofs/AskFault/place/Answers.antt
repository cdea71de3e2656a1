-- `owners::AskFault::place` meets its contract.
-- Assumes nothing.
use mathlib.Core.Path.{sym, ap, ◌∙◌}
use Rattle.owners.specs.Answers.{ask_place}
use Rattle.owners.proofs.AskFault.place.Goals as goal

pub returns-in-Table : goal.returns-in-Table
unfolding ask_place
returns-in-Table c = c.place.ensures ∙ ap ask_place (sym c.in-Table.is)

pub returns-in-SeparatorTooShort : goal.returns-in-SeparatorTooShort
unfolding ask_place
returns-in-SeparatorTooShort c = ap ask_place (sym c.in-SeparatorTooShort.is)
