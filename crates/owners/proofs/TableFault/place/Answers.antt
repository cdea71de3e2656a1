-- `owners::TableFault::place` meets its contract.
-- Assumes nothing.
use mathlib.Core.Path.{sym, ap}
use Rattle.owners.specs.Answers.{fault_place}
use Rattle.owners.proofs.TableFault.place.Goals as goal

pub returns-in-Row : goal.returns-in-Row
unfolding fault_place
returns-in-Row c = ap fault_place (sym c.in-Row.is)

pub returns-in-Gap : goal.returns-in-Gap
unfolding fault_place
returns-in-Gap c = ap fault_place (sym c.in-Gap.is)
