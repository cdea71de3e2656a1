-- `owners::OwnerRow::holds` meets its contract.
-- Assumes nothing.
use mathlib.Core.Path.{sym, ◌∙◌}
use borrow.Author.Tests.{lt-leb}
use Rattle.owners.proofs.Gap.{below_first, from_first}
use Rattle.owners.proofs.OwnerRow.holds.Goals as goal

pub returns-then-self-number : goal.returns-then-self-number
returns-then-self-number c = sym (from_first _ _ c.if-self-number.true)

pub returns-else-self-number : goal.returns-else-self-number
returns-else-self-number c = lt-leb _ _ c.if-self-number.false ∙ sym (below_first _ _ c.if-self-number.false)
