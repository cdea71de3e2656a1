-- What the loop of `owners::least_free` keeps: the gap lies where the pass from here on finds it.
use mathlib.Core.Path.{◌≡◌}
use mathlib.Core.List.{List}
use Prim.Native.Nat.{ℕ, ◌<◌}
use lib.ListN.{drop}
use Rattle.std.specs.Prelude.{Option, IfSome, unwrap_or}
use Rattle.owners.specs.Owners.{table_of, number_count}
use Rattle.owners.specs.declared.OwnerRow.{OwnerRow}
use Rattle.owners.proofs.Gap.{gap}
use Rattle.owners.proofs.least_free.Given as goal

-- the rows of a table of bytes
abbrev pub rows : List ℕ → List OwnerRow
rows table = (table_of table).rows

-- the number that the pass has come to, where none stands for the end of the numbers
abbrev pub reached : Option ℕ → ℕ
reached free = unwrap_or free number_count

abbrev pub invariant-loop-bytes : goal.invariant-loop-bytes
invariant-loop-bytes l =
    IfSome l.free (λ n. n < number_count) × (gap 0 (rows l.table) ≡ gap (reached l.free) (drop l.bytes-index (rows l.table)))
