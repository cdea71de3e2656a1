-- A fault of a table that is asked is turned into its refusal.
-- Assumes nothing.
use mathlib.Core.Path.{sym, ap, ◌∙◌}
use Rattle.owners.specs.Answers.{ask_refusal}
use Rattle.owners.proofs.RefusalFromAskFault.from.Goals as goal

pub returns-in-Table : goal.returns-in-Table
unfolding ask_refusal
returns-in-Table c = c.from.ensures ∙ ap ask_refusal (sym c.in-Table.is)

pub returns-in-SeparatorTooShort : goal.returns-in-SeparatorTooShort
unfolding ask_refusal
returns-in-SeparatorTooShort c = ap ask_refusal (sym c.in-SeparatorTooShort.is)
