-- Rows at fault, condition by condition.
-- Assumes nothing.
use mathlib.Core.Path.{◌≡◌, sym, ◌∙◌}
use mathlib.Core.Bool.{true, false}
use Prim.Native.Nat.{ℕ, ◌-◌, ◌≤◌, ◌<◌}
use borrow.Author.Tests.{ltb-true, ltb-false, lt-ltb, le-ltb, leb-true, leb-false, le-leb, lt-leb}
use lib.Dec.{leb, ltb}
use lib.ListN.{length}
use Rattle.basics.specs.Logic.{◌and◌}
use Rattle.basics.proofs.Cases.{cases, and_both, and_step, and_stop, or_left, or_right, or_neither, or_false}
use Rattle.owners.specs.Owners.{Table, row, max_rows, at_fault}

-- what a row that is not at fault is like
pub record Good (t : Table) (k : ℕ) : Type 0 where
  pub few : k ≤ max_rows
  pub whole : k ≤ length t.rows
  pub ordered : (row t k).first ≤ (row t k).last
  pub rising : 1 < k → (row t (k - 1)).last < (row t k).first

module _ (t : Table) (k : ℕ) where
  pub over_128 : max_rows < k → at_fault t k ≡ true
  unfolding at_fault
  over_128 h = or_right _ _ (or_right _ _ (or_left _ _ (lt-ltb _ _ h)))

  pub is_cut_short : length t.rows < k → at_fault t k ≡ true
  unfolding at_fault
  is_cut_short h = or_right _ _ (or_right _ _ (or_right _ _ (lt-ltb _ _ h)))

  pub first_above_last : (row t k).last < (row t k).first → at_fault t k ≡ true
  unfolding at_fault
  first_above_last h = or_left _ _ (lt-ltb _ _ h)

  pub not_above_previous : 1 < k → (row t k).first ≤ (row t (k - 1)).last → at_fault t k ≡ true
  unfolding at_fault
  not_above_previous h l = or_right _ _ (or_left _ _ (and_both _ _ (lt-ltb _ _ h) (le-leb _ _ l)))

  previous_passes : Good t k → ltb 1 k and leb (row t k).first (row t (k - 1)).last ≡ false
  previous_passes g =
      cases
      (ltb 1 k)
      (λ e. and_step _ _ e ∙ lt-leb _ _ (g.rising (ltb-true 1 k e)))
      (and_stop _ _)

  pub good : Good t k → at_fault t k ≡ false
  unfolding at_fault
  good g =
      or_neither _ _ (le-ltb _ _ g.ordered)
      (or_neither _ _ (previous_passes g) (or_neither _ _ (le-ltb _ _ g.few) (le-ltb _ _ g.whole)))

  -- where all else is in order, the previous row decides
  pub by_previous : k ≤ max_rows → k ≤ length t.rows → (row t k).first ≤ (row t k).last → 1 < k
      → at_fault t k ≡ leb (row t k).first (row t (k - 1)).last
  by_previous few whole ordered h =
      cases
      (leb (row t k).first (row t (k - 1)).last)
      (λ e. not_above_previous h (leb-true _ _ e) ∙ sym e)
      (λ e. good (record { few = few; whole = whole; ordered = ordered; rising = λ _. leb-false _ _ e }) ∙ sym e)

  pub is_good : at_fault t k ≡ false → Good t k
  unfolding at_fault
  is_good e =
      let p = or_false _ _ e in
      let q = or_false _ _ p.1 in
      let r = or_false _ _ q.1 in
      record {
        few = ltb-false _ _ r.0;
        whole = ltb-false _ _ r.1;
        ordered = ltb-false _ _ p.0;
        rising = λ h. leb-false _ _ (sym (and_step _ _ (lt-ltb 1 k h)) ∙ q.0);
      }
