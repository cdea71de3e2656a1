-- `owners::line_of` meets its contract.
-- Assumes nothing.
use mathlib.Core.Path.{refl, sym, ap, ◌∙◌}
use native.Mathlib.Omega.{arith}
use Rattle.basics.proofs.Cases.{any_step, any_end}
use Rattle.owners.specs.Owners.{holds}
use Rattle.owners.specs.declared.OwnerRow.{OwnerRow}
use Rattle.owners.proofs.Rows.{no_row, rows_long, part_at}
use Rattle.owners.proofs.Lookup.{line_here, line_next}
use Rattle.owners.proofs.line_of.Goals as goal

pub loop-bytes-init : goal.loop-bytes-init
loop-bytes-init c = (refl, refl)

pub returns-then-holds : goal.returns-then-holds
returns-then-holds c =
    let inv = c.loop-bytes.invariant in
    let long = rows_long _ _ c.whole_rows-bytes-items.ensures in
    let is = part_at _ _ c.whole_rows-bytes-items.ensures c.loop-bytes.bytes-index _ (omega arith) ∙ sym c.from-row.ensures in
    let held = ap (holds _) is ∙ sym c.holds.ensures ∙ c.if-holds.true in
    sym (inv.0 ∙ line_here _ _ c.loop-bytes.bytes-index (omega arith) held ∙ ap (λ (r : OwnerRow). r.line) is)

pub loop-bytes-preserved : goal.loop-bytes-preserved
loop-bytes-preserved c =
    let inv = c.loop-bytes.invariant in
    let long = rows_long _ _ c.whole_rows-bytes-items.ensures in
    let is = part_at _ _ c.whole_rows-bytes-items.ensures c.loop-bytes.bytes-index _ (omega arith) ∙ sym c.from-row.ensures in
    let apart = ap (holds _) is ∙ sym c.holds.ensures ∙ c.if-holds.false in (
      inv.0 ∙ line_next _ _ c.loop-bytes.bytes-index (omega arith) apart,
      inv.1 ∙ any_step _ _ no_row c.loop-bytes.bytes-index (omega arith) apart,
    )

pub returns : goal.returns
returns c =
    let long = rows_long _ _ c.whole_rows-bytes-items.ensures in
    c.loop-bytes.invariant.1 ∙ any_end _ _ c.loop-bytes.bytes-index (omega arith)
