-- A fault of a table is turned into its refusal.
-- Assumes nothing.
use mathlib.Core.Path.{sym, ap}
use Rattle.owners.specs.Answers.{table_refusal}
use Rattle.owners.proofs.RefusalFromTableFault.from.Goals as goal

pub returns-in-Row : goal.returns-in-Row
unfolding table_refusal
returns-in-Row c = ap table_refusal (sym c.in-Row.is)

pub returns-in-Gap : goal.returns-in-Gap
unfolding table_refusal
returns-in-Gap c = ap table_refusal (sym c.in-Gap.is)
