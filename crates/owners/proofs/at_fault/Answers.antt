-- `owners::at_fault` meets its contract.
-- Assumes nothing.
use mathlib.Core.Path.{refl, sym, ◌∙◌}
use mathlib.Core.Logic.{⊎_elim}
use Prim.Native.Nat.{◌-◌}
use native.Mathlib.Omega.{arith}
use Rattle.owners.proofs.Rows.{rows_long, part_row}
use Rattle.owners.proofs.Faults.{over_128, is_cut_short, first_above_last, by_previous, good}
use Rattle.owners.proofs.at_fault.Goals as goal

pub returns-then-k-gt-MAX_ROWS : goal.returns-then-k-gt-MAX_ROWS
returns-then-k-gt-MAX_ROWS c =
    let rows = rows_long _ _ c.whole_rows-rows.ensures in
    ⊎_elim (λ h. sym (over_128 _ _ h)) (λ h. sym (is_cut_short _ _ (omega (arith, h.1)))) c.then-k-gt-MAX_ROWS.either

pub returns-then-row : goal.returns-then-row
returns-then-row c =
    let is = part_row _ _ c.whole_rows-rows.ensures c.args.k _ _ refl (omega arith) ∙ sym c.from-row.ensures in
    sym (first_above_last _ _ (rw is (omega arith)))

pub returns-then-k-eq1 : goal.returns-then-k-eq1
returns-then-k-eq1 c =
    let rows = rows_long _ _ c.whole_rows-rows.ensures in
    let is = part_row _ _ c.whole_rows-rows.ensures c.args.k _ _ refl (omega arith) ∙ sym c.from-row.ensures in
    sym
    (good _ _
    (record { few = omega arith; whole = omega arith; ordered = rw is (omega arith); rising = λ h. absurd (omega arith) }))

pub returns : goal.returns
returns c =
    let rows = rows_long _ _ c.whole_rows-rows.ensures in
    let is = part_row _ _ c.whole_rows-rows.ensures c.args.k _ _ refl (omega arith) ∙ sym c.from-row.ensures in
    let previous = part_row _ _ c.whole_rows-rows.ensures (c.args.k - 1) (c.args.k - 2) _ (omega arith) (omega arith) ∙ sym c.from-previous.ensures in
    sym (by_previous _ _ (omega arith) (omega arith) (rw is (omega arith)) (omega arith) ∙ rw (is, previous))
