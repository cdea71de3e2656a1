-- `owners::whole_rows` meets its contract.
-- Assumes nothing.
use mathlib.Core.List.{map}
use mathlib.Core.Path.{ap, ◌∙◌}
use Rattle.owners.specs.Owners.{row_of, table_of}
use Rattle.owners.proofs.Rows.{rows_chunks}
use Rattle.owners.proofs.whole_rows.Goals as goal

pub returns : goal.returns
unfolding table_of
returns c = ap (map row_of) c.as_chunks.ensures.front ∙ rows_chunks _ _
