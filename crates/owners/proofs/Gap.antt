-- The least number that no row holds, found in one pass over rising rows.
-- Assumes nothing.
use mathlib.Core.Path.{◌≡◌, refl, sym, subst, ap, ◌∙◌}
use mathlib.Core.Bool.{true, false, not}
use mathlib.Core.List.{List, [], ◌∷◌}
use Prim.Native.Nat.{ℕ, zero, suc, ◌+◌, ◌-◌, ◌≤◌, ◌<◌, zero-le}
use native.Mathlib.Numerals.{add-one}
use native.Mathlib.Omega.{arith}
use borrow.Author.Tests.{ltb-true, ltb-false, leb-true, leb-false, le-leb, lt-leb, eqb-true, eqb-false, eq-eqb, ne_eqb}
use lib.Dec.{leb, ltb, eqb}
use lib.ListN.{length, get_or, drop, drop_of_length-le}
use lib.Seq.{drop-cons}
use Rattle.basics.specs.Logic.{when◌then◌else◌, ◌or◌, any}
use Rattle.basics.proofs.Cases.{by, cases, if_true, if_false, and_both, and_step, and_stop, or_left, or_right, or_neither}
use Rattle.owners.specs.Owners.{Table, row, row_count, at_fault, first_fault, holds, is_free, number_count, least_free}
use Rattle.owners.specs.declared.OwnerRow.{OwnerRow}
use Rattle.owners.proofs.Rows.{no_row, row_suc, rows_within}
use Rattle.owners.proofs.Faults.{is_good}
use Rattle.owners.proofs.Least.{least, least_is}

-- rows in order, each above the one before it, the first of them from a number on
pub data Rising : ℕ → List OwnerRow → Type 0 where
  none : {low : ℕ} → Rising low []
  one : {low : ℕ} {r : OwnerRow} {rs : List OwnerRow} → low ≤ r.first → r.first ≤ r.last → Rising (suc r.last) rs → Rising low (r ∷ rs)

-- the end of the rows that follow each other without a gap, from a number on
unfoldable pub gap : ℕ → List OwnerRow → ℕ
gap free [] = free
gap free (r ∷ rs) = when eqb r.first free then gap (suc r.last) rs else free

module _ (n : ℕ) (r : OwnerRow) where
  pub holds_between : r.first ≤ n → n ≤ r.last → holds n r ≡ true
  unfolding holds
  holds_between h l = and_both _ _ (le-leb _ _ h) (le-leb _ _ l)

  pub from_first : r.first ≤ n → holds n r ≡ leb n r.last
  unfolding holds
  from_first h = and_step _ _ (le-leb _ _ h)

  pub below_first : n < r.first → holds n r ≡ false
  unfolding holds
  below_first h = and_stop _ _ (lt-leb _ _ h)

  pub above_last : r.last < n → holds n r ≡ false
  unfolding holds
  above_last h = cases (leb r.first n) (λ e. and_step _ _ e ∙ lt-leb _ _ h) (and_stop _ _)

gap_next : (free : ℕ) (r : OwnerRow) (rs : List OwnerRow) → r.first ≡ free → gap free (r ∷ rs) ≡ gap (suc r.last) rs
unfolding gap
gap_next free r rs e = if_true _ _ _ (eq-eqb _ _ e)

gap_stop : (free : ℕ) (r : OwnerRow) (rs : List OwnerRow) → (r.first ≡ free → ⊥) → gap free (r ∷ rs) ≡ free
unfolding gap
gap_stop free r rs n = if_false _ _ _ (ne_eqb _ _ n)

-- numbers below the rows
pub none_below : {low : ℕ} {rs : List OwnerRow} → Rising low rs → (n : ℕ) → n < low → any (holds n) rs ≡ false
unfolding any
none_below none n h = refl
none_below (one {low} {r} {rs} from ordered rest) n h =
    or_neither _ _ (below_first n r (omega arith)) (none_below rest n (omega arith))

gap_from : {low : ℕ} {rs : List OwnerRow} → Rising low rs → low ≤ gap low rs
unfolding gap
gap_from none = omega arith
gap_from (one {low} {r} {rs} from ordered rest) =
    by (λ (g : ℕ). low ≤ g) (eqb r.first low) _ _ (λ _. omega (arith, gap_from rest)) λ _. omega arith

-- each number before the gap is held,
pub held_before : {low : ℕ} {rs : List OwnerRow} → Rising low rs → (n : ℕ) → low ≤ n → n < gap low rs → any (holds n) rs ≡ true
unfolding gap any
held_before none n h = λ l. absurd (omega arith)
held_before (one {low} {r} {rs} from ordered rest) n h =
    by (λ (g : ℕ). n < g → holds n r or any (holds n) rs ≡ true) (eqb r.first low) _ _
    (λ e l.
    let begins = eqb-true r.first low e in
    cases
    (leb n r.last)
    (λ t. or_left _ _ (holds_between n r (omega arith) (leb-true _ _ t)))
    (λ f. or_right _ _ (held_before rest n (leb-false _ _ f) l)))
    λ _ l. absurd (omega arith)

-- and the gap is not.
pub gap_free : {low : ℕ} {rs : List OwnerRow} → Rising low rs → any (holds (gap low rs)) rs ≡ false
unfolding any
gap_free none = refl
gap_free (one {low} {r} {rs} from ordered rest) =
    cases
    (eqb r.first low)
    (λ e.
    subst
    (λ (g : ℕ). holds g r or any (holds g) rs ≡ false)
    (sym (gap_next low r rs (eqb-true _ _ e)))
    (or_neither _ _ (above_last _ r (gap_from rest)) (gap_free rest)))
    (λ f.
    let apart = eqb-false r.first low f in
    subst
    (λ (g : ℕ). holds g r or any (holds g) rs ≡ false)
    (sym (gap_stop low r rs apart))
    (or_neither _ _ (below_first low r (omega arith)) (none_below rest low (omega arith))))

-- the rows of a table in which no whole row is at fault are such
module _ (t : Table) (faultless : (k : ℕ) → 1 ≤ k → k ≤ length t.rows → at_fault t k ≡ false) where
  -- what row k has to be above
  low_of : ℕ → ℕ
  low_of zero = 0
  low_of (suc zero) = 0
  low_of (suc (suc k)) = suc (row t (suc k)).last

  above_low : (i : ℕ) → i < length t.rows → low_of (suc i) ≤ (row t (suc i)).first
  unfolding low_of
  above_low zero h = zero-le
  above_low (suc i) h =
      let previous : suc (suc i) - 1 ≡ suc i = omega arith in
      rw previous at ((is_good t (suc (suc i)) (faultless (suc (suc i)) (omega arith) (omega arith))).rising (omega arith))

  rising_from : (n i : ℕ) → length t.rows ≤ i + n → Rising (low_of (suc i)) (drop i t.rows)
  unfolding low_of
  rising_from zero i h = let past : length t.rows ≤ i = omega arith in rw (drop_of_length-le t.rows past) none
  rising_from (suc n) i h =
      cases
      (ltb i (length t.rows))
      (λ e.
      let l = ltb-true _ _ e in
      rw (drop-cons t.rows i no_row l, ← row_suc t i)
      (one
      (above_low i l)
      (is_good t (suc i) (faultless (suc i) (omega arith) (omega arith))).ordered
      (rising_from n (suc i) (omega arith))))
      (λ f. rw (drop_of_length-le t.rows (ltb-false _ _ f)) none)

  pub rows_rise : Rising 0 t.rows
  unfolding low_of
  rows_rise = rising_from (length t.rows) 0 (omega arith)

  -- so the least number that no row holds is the end of the pass, where that is no more than there are numbers
  pub least_free_is_gap : gap 0 t.rows ≤ number_count → least_free t ≡ gap 0 t.rows
  unfolding least_free is_free
  least_free_is_gap h =
      least_is (is_free t)
      (record {
        from = zero-le;
        within = omega arith;
        none = λ j _ l. ap not (held_before rows_rise j zero-le l);
        passes = λ _. ap not (gap_free rows_rise);
      })

-- where the first fault lies behind the rows, no whole row is at fault
pub none_at_fault : (t : Table) → row_count t < first_fault t → (k : ℕ) → 1 ≤ k → k ≤ length t.rows → at_fault t k ≡ false
unfolding first_fault
none_at_fault t h k l m = (least (at_fault t) 1 (row_count t)).none k l (omega (arith, rows_within t))

-- the pass, row by row
module _ (rs : List OwnerRow) (free i : ℕ) where
  pub gap_row : i < length rs → (get_or rs i no_row).first ≡ free → gap free (drop i rs) ≡ gap ((get_or rs i no_row).last + 1) (drop (i + 1) rs)
  gap_row h e = simp add-one (rw (drop-cons rs i no_row h) (gap_next free _ _ e))

  pub gap_here : i < length rs → ((get_or rs i no_row).first ≡ free → ⊥) → gap free (drop i rs) ≡ free
  gap_here h n = rw (drop-cons rs i no_row h) (gap_stop free _ _ n)

  pub gap_end : length rs ≤ i → gap free (drop i rs) ≡ free
  unfolding gap
  gap_end h = rw (drop_of_length-le rs h)
