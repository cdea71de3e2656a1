-- `owners::first_fault` meets its contract.
-- Assumes nothing.
use mathlib.Core.Path.{◌≡◌, sym, ◌∙◌}
use mathlib.Core.Bool.{true}
use mathlib.Core.List.{List}
use Prim.Native.Nat.{ℕ, ◌≤◌, ◌<◌}
use native.Mathlib.Omega.{arith}
use Rattle.owners.specs.Owners.{table_of, row_count, first_fault}
use Rattle.owners.proofs.Answers.{first_fault_bound}
use Rattle.owners.proofs.Least.{NoneBefore, none_next, least_is}
use Rattle.owners.proofs.Tables.{behind_faultless}
use Rattle.owners.proofs.first_fault.Invariants.{faults}
use Rattle.owners.proofs.first_fault.Goals as goal

-- the first row that is at fault, of those looked at in turn
found : (table : List ℕ) (k count : ℕ) → count ≡ row_count (table_of table) → 1 ≤ k → k ≤ count → NoneBefore (faults table) 1 k
    → faults table k ≡ true → k ≡ first_fault (table_of table)
unfolding first_fault
found table k count rows from within none at =
    sym (least_is (faults table) (record { from = from; within = omega arith; none = none; passes = λ _. at }))

-- no row is at fault
passed : (table : List ℕ) (k count : ℕ) → count ≡ row_count (table_of table) → count < k → NoneBefore (faults table) 1 k
    → row_count (table_of table) < first_fault (table_of table)
passed table k count rows over none = behind_faultless (table_of table) (λ j h l. none j h (omega arith))

pub overflow_cast-result : goal.overflow_cast-result
overflow_cast-result c =
    let first = found _ _ _ c.row_count-k-end.ensures c.loop-k.auto.k c.loop-k-test.true c.loop-k.invariant (sym c.at_fault.ensures ∙ c.if-at_fault.true) in
    let bound = first_fault_bound (table_of c.args.table.now) in
    omega arith

pub returns-then-at_fault : goal.returns-then-at_fault
returns-then-at_fault c = (
  omega (arith, c.row_count-k-end.ensures),
  found _ _ _ c.row_count-k-end.ensures c.loop-k.auto.k c.loop-k-test.true c.loop-k.invariant (sym c.at_fault.ensures ∙ c.if-at_fault.true),
)

pub returns-else-at_fault : goal.returns-else-at_fault
returns-else-at_fault c =
    passed _ _ _ c.row_count-k-end.ensures (omega arith)
    (none_next (faults _) c.loop-k.invariant (sym c.at_fault.ensures ∙ c.if-at_fault.false))

pub returns : goal.returns
returns c = passed _ _ _ c.row_count-k-end.ensures (omega arith) c.loop-k.invariant
