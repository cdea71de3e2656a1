-- `owners::row_count` meets its contract.
-- Assumes nothing.
use mathlib.Core.Path.{sym, ◌∙◌}
use Rattle.owners.proofs.Rows.{count_rows}
use Rattle.owners.proofs.row_count.Goals as goal

pub returns : goal.returns
returns c = c.div_ceil.ensures ∙ sym (count_rows _)
