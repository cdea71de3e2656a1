-- `owners::least_free` meets its contract.
-- Assumes nothing.
use mathlib.Core.Path.{◌≡◌, refl, sym, ap, ◌∙◌}
use mathlib.Core.Bool.{true, false, not, true≢false}
use mathlib.Core.List.{List}
use Prim.Native.Nat.{ℕ, ◌+◌, ◌^◌, ◌≤◌, ◌<◌}
use native.Mathlib.Omega.{arith}
use borrow.Author.Tests.{ltb-true, ltb-false, eqb-true, eqb-false, not-true, not-false}
use lib.Dec.{ltb, eqb, lit<}
use lib.ListN.{drop}
use Rattle.std.specs.Prelude.{Option, Some, None, IfSome, MatchOption}
use Rattle.std.specs.Option.{SomeIff, option_eq}
use Rattle.basics.proofs.Cases.{cases}
use Rattle.owners.specs.Owners.{table_of, row_count, first_fault, number_count, least_free}
use Rattle.owners.specs.declared.OwnerRow.{OwnerRow}
use Rattle.owners.proofs.Rows.{rows_long, part_at}
use Rattle.owners.proofs.Gap.{gap, gap_row, gap_here, gap_end, none_at_fault, least_free_is_gap}
use Rattle.owners.proofs.least_free.Invariants.{rows, reached}
use Rattle.owners.proofs.least_free.Goals as goal

-- where the pass ends, its number is the least one
found : (table : List ℕ) (free : Option ℕ) → row_count (table_of table) < first_fault (table_of table) → IfSome free (λ n. n < number_count)
    → gap 0 (rows table) ≡ reached free
    → MatchOption free (number_count ≤ least_free (table_of table)) (λ n. (n < number_count) × (n ≡ least_free (table_of table)))
found table None pre few e =
    let is = least_free_is_gap (table_of table) (none_at_fault (table_of table) pre) (omega arith) in
    omega arith
found table (Some n) pre few e =
    (few, sym (least_free_is_gap (table_of table) (none_at_fault (table_of table) pre) (omega arith) ∙ e))

-- whether a row begins at the number that the pass has come to
apart : (free : Option ℕ) (first : ℕ) → first < number_count → not (option_eq eqb free (Some first)) ≡ true → first ≡ reached free → ⊥
apart None first few e h = omega arith
apart (Some n) first few e h = eqb-false n first (not-true _ e) (sym h)

same : (free : Option ℕ) (first : ℕ) → not (option_eq eqb free (Some first)) ≡ false → first ≡ reached free
same None first e = absurd (true≢false e)
same (Some n) first e = sym (eqb-true n first (not-false _ e))

-- the number behind a row's last
behind : (free : Option ℕ) (last : ℕ) → last < number_count → SomeIff free (last + 1 < 2 ^ 32) (last + 1)
    → IfSome free (λ n. n < number_count) × (reached free ≡ last + 1)
behind None last few h =
    cases
    (ltb (last + 1) number_count)
    (λ e. absurd (h (ltb-true _ _ e)))
    (λ e. let over = ltb-false (last + 1) number_count e in (tt, omega arith))
behind (Some n) last few h = (omega arith, h.1)

pub loop-bytes-init : goal.loop-bytes-init
loop-bytes-init c = (lit< tt, refl)

pub returns-then-ne : goal.returns-then-ne
returns-then-ne c =
    let inv = c.loop-bytes.invariant in
    let long = rows_long _ _ c.whole_rows-bytes-items.ensures in
    let is = part_at _ _ c.whole_rows-bytes-items.ensures c.loop-bytes.bytes-index _ (omega arith) ∙ sym c.from-row.ensures in
    let begins = apart c.loop-bytes.free c.from-row.result.first (omega arith) (sym c.ne.ensures ∙ c.if-ne.true) in
    found _ _ c.requires inv.0 (inv.1 ∙ gap_here _ _ c.loop-bytes.bytes-index (omega arith) (rw is begins))

pub loop-bytes-preserved : goal.loop-bytes-preserved
loop-bytes-preserved c =
    let inv = c.loop-bytes.invariant in
    let long = rows_long _ _ c.whole_rows-bytes-items.ensures in
    let is = part_at _ _ c.whole_rows-bytes-items.ensures c.loop-bytes.bytes-index _ (omega arith) ∙ sym c.from-row.ensures in
    let begins = same c.loop-bytes.free c.from-row.result.first (sym c.ne.ensures ∙ c.if-ne.false) in
    let next = behind _ c.from-row.result.last (omega arith) c.checked_add-free.ensures in (
      next.0,
      inv.1
          ∙ gap_row _ _ c.loop-bytes.bytes-index (omega arith) (rw is begins)
          ∙ ap (λ (r : OwnerRow). gap (r.last + 1) (drop (c.loop-bytes.bytes-index + 1) (rows c.args.table.now))) is
          ∙ ap (λ (n : ℕ). gap n (drop (c.loop-bytes.bytes-index + 1) (rows c.args.table.now))) (sym next.1),
    )

pub returns : goal.returns
returns c =
    let inv = c.loop-bytes.invariant in
    let long = rows_long _ _ c.whole_rows-bytes-items.ensures in
    found _ _ c.requires inv.0 (inv.1 ∙ gap_end _ _ c.loop-bytes.bytes-index (omega arith))
