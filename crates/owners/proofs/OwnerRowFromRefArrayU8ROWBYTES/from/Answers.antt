-- Ten bytes are read as a row.
-- Assumes nothing.
use mathlib.Core.Path.{sym, ◌∙◌}
use native.Mathlib.Omega.{arith}
use Rattle.basics.proofs.Parts.{two_bytes_read, four_bytes_read}
use Rattle.owners.proofs.Rows.{row_parts}
use Rattle.owners.proofs.OwnerRowFromRefArrayU8ROWBYTES.from.Goals as goal

pub returns : goal.returns
returns c =
    let first = c.from_be_bytes.ensures ∙ four_bytes_read _ _ _ _ in
    let last = c.from_be_bytes-2.ensures ∙ four_bytes_read _ _ _ _ in
    let line = c.from_be_bytes-3.ensures ∙ two_bytes_read _ _ in
    rw (first, last, line) (sym (row_parts c.args.bytes.now (omega arith)))
