-- What the loop of `owners::line_of` keeps: the line is that of the rows from here on.
use mathlib.Core.Path.{◌≡◌}
use mathlib.Core.List.{List}
use Prim.Native.Nat.{ℕ}
use lib.ListN.{drop}
use Rattle.basics.specs.Logic.{any}
use Rattle.owners.specs.Owners.{table_of, holds, line_of}
use Rattle.owners.specs.declared.OwnerRow.{OwnerRow}
use Rattle.owners.proofs.line_of.Given as goal

-- the rows of a table of bytes
abbrev pub rows : List ℕ → List OwnerRow
rows table = (table_of table).rows

abbrev pub invariant-loop-bytes : goal.invariant-loop-bytes
invariant-loop-bytes l =
    (line_of l.number (rows l.table) ≡ line_of l.number (drop l.bytes-index (rows l.table)))
    × (any (holds l.number) (rows l.table) ≡ any (holds l.number) (drop l.bytes-index (rows l.table)))
