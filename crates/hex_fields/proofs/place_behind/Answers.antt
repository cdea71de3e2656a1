-- `hex_fields::place_behind` meets its contract.
-- Assumes nothing.
use mathlib.Core.Path.{sym}
use Rattle.hex_fields.proofs.Reading.{behind_inside, behind_last}
use borrow.Author.Rules.{rules}
use Rattle.hex_fields.proofs.place_behind.Goals as goal

pub returns-then-end-text : goal.returns-then-end-text
returns-then-end-text c = sym (behind_inside _ _ (search rules))

pub returns-else-end-text : goal.returns-else-end-text
returns-else-end-text c = sym (behind_last _ _ (search rules))
