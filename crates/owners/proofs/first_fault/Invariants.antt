-- What the loop of `owners::first_fault` keeps: no row before row k is at fault.
use mathlib.Core.Bool.{Bool}
use mathlib.Core.List.{List}
use Prim.Native.Nat.{ℕ}
use Rattle.owners.specs.Owners.{table_of, at_fault}
use Rattle.owners.proofs.Least.{NoneBefore}
use Rattle.owners.proofs.first_fault.Given as goal

-- which rows of a table are at fault, by number
abbrev pub faults : List ℕ → ℕ → Bool
faults table = at_fault (table_of table)

abbrev pub invariant-loop-k : goal.invariant-loop-k
invariant-loop-k l = NoneBefore (faults l.table) 1 l.k
