-- `owners::check` meets its contract.
-- Assumes nothing.
use mathlib.Core.Path.{◌≡◌, sym, ap, ◌∙◌}
use Prim.Native.Nat.{ℕ, ◌≤◌, ◌<◌}
use native.Mathlib.Omega.{arith}
use Rattle.std.specs.Prelude.{Err}
use Rattle.basics.specs.Numbers.{owners_row_invalid, owners_gap}
use Rattle.basics.specs.Answers.{number_of}
use Rattle.owners.specs.Owners.{Table, row_count, first_fault, least_free, number_count, checked}
use Rattle.owners.specs.Answers.{table_refusal, fault_place, checked_answer}
use Rattle.owners.specs.declared.TableFault.TheVariants.{Row, Gap}
use Rattle.owners.proofs.Answers.{checked_fault, checked_gap, checked_accepted}
use Rattle.owners.proofs.Tables.{answer}
use Rattle.owners.proofs.check.Goals as goal

module _ (A : Type 0) (t : Table) where
  -- a row at fault
  row_answer : (k : ℕ) → k ≤ row_count t → k ≡ first_fault t → checked_answer {A = A} (Err (Row k)) ≡ checked t
  unfolding checked_answer table_refusal fault_place number_of
  row_answer k h e = ap (answer owners_row_invalid) e ∙ sym (checked_fault t (omega arith))

  -- no row at fault, and a gap
  gap_answer : (n : ℕ) → row_count t < first_fault t → n < number_count → n ≡ least_free t → checked_answer {A = A} (Err (Gap n)) ≡ checked t
  unfolding checked_answer table_refusal fault_place number_of
  gap_answer n p h e = ap (answer owners_gap) e ∙ sym (checked_gap t p (omega arith))

pub returns-in-Some : goal.returns-in-Some
returns-in-Some c = row_answer _ _ _ c.in-Some.ensures.0 c.in-Some.ensures.1

pub returns-in-Some-least_free : goal.returns-in-Some-least_free
returns-in-Some-least_free c =
    gap_answer _ _ _ c.in_default.ensures c.in-Some-least_free.ensures.0 c.in-Some-least_free.ensures.1

pub returns : goal.returns
unfolding checked_answer
returns c = sym (checked_accepted _ c.in_default.ensures c.in_default-least_free.ensures)
