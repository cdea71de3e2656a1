-- What a table is answered, case by case.
-- Assumes nothing.
use mathlib.Core.Path.{◌≡◌, refl, sym, ap, ◌∙◌}
use mathlib.Core.Bool.{true, true≢false}
use mathlib.Core.List.{List}
use mathlib.Core.Logic.{◌≢◌}
use Prim.Native.Nat.{ℕ, ◌≤◌, ◌<◌}
use native.Mathlib.Omega.{arith}
use borrow.Author.Tests.{ltb-true, ltb-false, lt-ltb, le-ltb, le-leb, lt-leb, ne_eqb}
use lib.Dec.{ltb}
use lib.ListN.{length}
use Rattle.basics.specs.Logic.{when◌then◌else◌, ◌and◌, all}
use Rattle.basics.specs.Numbers.{accepted, owners_row_invalid, owners_gap, separator_too_short}
use Rattle.basics.specs.Refusals.{first_number}
use Rattle.basics.proofs.Cases.{cases, if_true, if_false}
use Rattle.basics.proofs.FirstRow.{refusing, refused_before, behind, accepted_none}
use Rattle.owners.specs.Owners.{Table, row_count, at_fault, first_fault, least_free, number_count, check_rows, place_of, checked, separator_number, ask_rows, line_of, asked}
use Rattle.owners.proofs.Least.{least}
use Rattle.owners.proofs.Faults.{over_128}

module _ (t : Table) where
  pub checked_number : (checked t).number ≡ first_number (check_rows t)
  unfolding checked
  checked_number = refl

  -- row 129 is at fault, so no later one is the first
  pub first_fault_bound : first_fault t ≤ 129
  unfolding first_fault
  first_fault_bound =
      let l = least (at_fault t) 1 (row_count t) in
      cases
      (ltb 129 (first_fault t))
      (λ e. absurd (true≢false (sym (over_128 t 129 (omega arith)) ∙ l.none 129 (omega arith) (ltb-true _ _ e))))
      (ltb-false _ _)

  -- a row at fault
  module _ (h : first_fault t ≤ row_count t) where
    number_fault : first_number (check_rows t) ≡ owners_row_invalid
    unfolding first_number check_rows
    number_fault = if_true _ _ _ (le-leb _ _ h)

    pub checked_fault : checked t ≡ record { number = owners_row_invalid; place = first_fault t }
    unfolding checked place_of when◌then◌else◌
    checked_fault = rw number_fault

  -- no row at fault, and a gap
  module _ (h : row_count t < first_fault t) (l : least_free t < number_count) where
    number_gap : first_number (check_rows t) ≡ owners_gap
    unfolding first_number check_rows
    number_gap = if_false _ _ _ (lt-leb _ _ h) ∙ if_true _ _ _ (lt-ltb _ _ l)

    pub checked_gap : checked t ≡ record { number = owners_gap; place = least_free t }
    unfolding checked place_of when◌then◌else◌
    checked_gap = rw number_gap

  -- neither
  module _ (h : row_count t < first_fault t) (l : number_count ≤ least_free t) where
    number_accepted : first_number (check_rows t) ≡ accepted
    unfolding first_number check_rows
    number_accepted = if_false _ _ _ (lt-leb _ _ h) ∙ if_false _ _ _ (le-ltb _ _ l)

    pub checked_accepted : checked t ≡ record { number = accepted; place = 0 }
    unfolding checked place_of when◌then◌else◌
    checked_accepted = rw number_accepted

every_row_refuses : (t : Table) → all refusing (check_rows t) ≡ true
unfolding check_rows all ◌and◌
every_row_refuses t = refl

-- a table that is asked for a separator
module _ (t : Table) (separator : List ℕ) where
  -- refused by the table's check, whatever the separator
  module _ (n : (checked t).number ≢ accepted) where
    number_refused : first_number (ask_rows t separator) ≡ first_number (check_rows t)
    unfolding ask_rows checked
    number_refused = refused_before (check_rows t) _ n

    pub asked_refused : asked t separator ≡ record { number = (checked t).number; place = (checked t).place; line = 0 }
    unfolding asked checked
    asked_refused =
        rw number_refused
        (ap (λ (l : ℕ). record { number = first_number (check_rows t); place = place_of (first_number (check_rows t)) t; line = l })
        (if_false _ _ _ (ne_eqb _ _ n)))

  module _ (e : (checked t).number ≡ accepted) where
    behind_table : first_number (ask_rows t separator) ≡ (when ltb (length separator) 4 then separator_too_short else accepted)
    unfolding ask_rows first_number checked
    behind_table = behind (check_rows t) _ (accepted_none (check_rows t) (every_row_refuses t) e)

    pub asked_short : length separator < 4 → asked t separator ≡ record { number = separator_too_short; place = 0; line = 0 }
    unfolding asked place_of when◌then◌else◌
    asked_short h = rw (behind_table ∙ if_true _ _ _ (lt-ltb _ _ h))

    pub asked_line : 4 ≤ length separator
        → asked t separator ≡ record { number = accepted; place = 0; line = line_of (separator_number separator) t.rows }
    unfolding asked place_of when◌then◌else◌
    asked_line h = rw (behind_table ∙ if_false _ _ _ (le-ltb _ _ h))
