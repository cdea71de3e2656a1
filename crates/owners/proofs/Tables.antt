-- Tables that are accepted and refused, by their rows and the numbers that these hold.
-- Assumes nothing.
use mathlib.Core.Path.{◌≡◌, sym, ap, ◌∙◌, subst}
use mathlib.Core.Bool.{true, false, not, true≢false}
use mathlib.Core.List.{List, [], ◌∷◌}
use mathlib.Core.Logic.{◌↔◌}
use Rattle.basics.specs.Logic.{when◌then◌else◌}
use Prim.Native.Nat.{ℕ, suc, ◌+◌, ◌-◌, ◌≤◌, ◌<◌, zero-le}
use native.Mathlib.Nat.{le_refl, le_antisymm}
use native.Mathlib.Omega.{arith}
use borrow.Author.Tests.{ltb-true, ltb-false, leb-true, leb-false, not-false}
use lib.Dec.{leb, ltb, lit≤}
use lib.ListN.{length}
use Rattle.basics.specs.Lists.{Below}
use Rattle.basics.specs.Numbers.{accepted, owners_row_invalid, owners_gap}
use Rattle.basics.proofs.Cases.{cases, if_true, any_at, any_some}
use Rattle.basics.proofs.Below.{below_at}
use Rattle.basics.proofs.Parts.{four_bytes_below}
use Rattle.owners.specs.Owners.{Table, row, row_count, at_fault, first_fault, holds, is_free, number_count, least_free, checked, separator_number, asked}
use Rattle.owners.specs.Owners.{Checked}
use Rattle.owners.proofs.Rows.{no_row, row_suc, rows_within}
use Rattle.owners.proofs.Least.{least, least_is}
use Rattle.owners.proofs.Faults.{Good, is_good}
use Rattle.owners.proofs.Gap.{gap, Rising, rows_rise, none_at_fault, least_free_is_gap}
use Rattle.owners.proofs.Lookup.{one_holds, line_of_row}
use Rattle.owners.proofs.Answers.{checked_fault, checked_gap, checked_accepted, asked_line}

-- an answer of a number and a place
abbrev pub answer : ℕ → ℕ → Checked
answer number place = record { number = number; place = place }

module _ (t : Table) where
  -- no row is at fault, one cut short included
  abbrev pub Faultless : Type 0
  Faultless = (k : ℕ) → 1 ≤ k → k ≤ row_count t → at_fault t k ≡ false

  -- every number is held
  abbrev pub Covering : Type 0
  Covering = (n : ℕ) → n < number_count → is_free t n ≡ false

  -- one of three holds
  by_verdict : {Q : Type 0} → (first_fault t ≤ row_count t → Q) → (row_count t < first_fault t → least_free t < number_count → Q)
      → (row_count t < first_fault t → number_count ≤ least_free t → Q) → Q
  by_verdict f g h =
      cases
      (leb (first_fault t) (row_count t))
      (λ e. f (leb-true _ _ e))
      (λ e. cases (ltb (least_free t) number_count) (λ l. g (leb-false _ _ e) (ltb-true _ _ l)) (λ l. h (leb-false _ _ e) (ltb-false _ _ l)))

  number_is : {n p : ℕ} → checked t ≡ answer n p → (checked t).number ≡ n
  number_is e = ap (λ (a : Checked). a.number) e

  place_is : {n p : ℕ} → checked t ≡ answer n p → (checked t).place ≡ p
  place_is e = ap (λ (a : Checked). a.place) e

  -- what an accepted table has passed
  pub passed_rows : (checked t).number ≡ accepted → row_count t < first_fault t
  passed_rows e =
      by_verdict
      (λ h. absurd (let z = number_is (checked_fault t h) in omega arith))
      (λ h _. h)
      (λ h _. h)

  pub passed_numbers : (checked t).number ≡ accepted → number_count ≤ least_free t
  passed_numbers e =
      by_verdict
      (λ h. absurd (let z = number_is (checked_fault t h) in omega arith))
      (λ h l. absurd (let z = number_is (checked_gap t h l) in omega arith))
      (λ _ l. l)

  faultless_behind : row_count t < first_fault t → Faultless
  unfolding first_fault
  faultless_behind h k l m = (least (at_fault t) 1 (row_count t)).none k l (omega arith)

  pub behind_faultless : Faultless → row_count t < first_fault t
  unfolding first_fault
  behind_faultless f =
      let e = least_is (at_fault t) {k = 1} {n = row_count t} {m = 1 + row_count t}
      (record { from = omega arith; within = omega arith; none = λ j h l. f j h (omega arith); passes = λ h. absurd (omega arith) }) in
      omega arith

  pub covering_all : number_count ≤ least_free t → Covering
  unfolding least_free
  covering_all h n l = (least (is_free t) 0 number_count).none n zero-le (omega arith)

  all_covering : Covering → number_count ≤ least_free t
  unfolding least_free
  all_covering f =
      let e = least_is (is_free t) {k = 0} {n = number_count} {m = number_count}
      (record { from = omega arith; within = omega arith; none = λ j h l. f j l; passes = λ h. absurd (omega arith) }) in
      omega arith

  -- the first row at fault
  abbrev pub FirstFault : ℕ → Type 0
  FirstFault k = (1 ≤ k) × (k ≤ row_count t) × (at_fault t k ≡ true) × ((j : ℕ) → 1 ≤ j → j < k → at_fault t j ≡ false)

  -- the least number that no row holds
  abbrev pub LeastFree : ℕ → Type 0
  LeastFree n = (n < number_count) × (is_free t n ≡ true) × ((m : ℕ) → m < n → is_free t m ≡ false)

  first_fault_is : first_fault t ≤ row_count t → FirstFault (first_fault t)
  unfolding first_fault
  first_fault_is h = let l = least (at_fault t) 1 (row_count t) in (l.from, h, l.passes (omega arith), l.none)

  is_first_fault : (k : ℕ) → FirstFault k → first_fault t ≡ k
  unfolding first_fault
  is_first_fault k (h, l, e, none) =
      least_is (at_fault t) (record { from = h; within = omega arith; none = none; passes = λ _. e })

  least_free_is : least_free t < number_count → LeastFree (least_free t)
  unfolding least_free
  least_free_is h = let l = least (is_free t) 0 number_count in (h, l.passes (omega arith), λ m. l.none m zero-le)

  is_least_free : (n : ℕ) → LeastFree n → least_free t ≡ n
  unfolding least_free
  is_least_free n (h, e, none) =
      least_is (is_free t) (record { from = zero-le; within = omega arith; none = λ m _. none m; passes = λ _. e })

  -- 15, and which place comes with it
  pub fault_answer : (k : ℕ) → (checked t ≡ answer owners_row_invalid k) ↔ FirstFault k
  fault_answer k = (
    λ e.
        by_verdict
        (λ h. subst FirstFault (sym (place_is (checked_fault t h)) ∙ place_is e) (first_fault_is h))
        (λ h l. absurd (let z = number_is (checked_gap t h l) in let y = number_is e in omega arith))
        (λ h l. absurd (let z = number_is (checked_accepted t h l) in let y = number_is e in omega arith)),
    λ f.
        let is = is_first_fault k f in
        checked_fault t (omega (arith, f.1)) ∙ ap (answer owners_row_invalid) is,
  )

  -- 16
  pub gap_answer : (n : ℕ) → (checked t ≡ answer owners_gap n) ↔ (Faultless × LeastFree n)
  gap_answer n = (
    λ e.
        by_verdict
        (λ h. absurd (let z = number_is (checked_fault t h) in let y = number_is e in omega arith))
        (λ h l. (faultless_behind h, subst LeastFree (sym (place_is (checked_gap t h l)) ∙ place_is e) (least_free_is l)))
        (λ h l. absurd (let z = number_is (checked_accepted t h l) in let y = number_is e in omega arith)),
    λ f.
        let is = is_least_free n f.1 in
        checked_gap t (behind_faultless f.0) (omega (arith, f.1.0)) ∙ ap (answer owners_gap) is,
  )

  -- 0
  pub accepted_answer : (checked t ≡ answer accepted 0) ↔ (Faultless × Covering)
  accepted_answer = (
    λ e. (faultless_behind (passed_rows (number_is e)), covering_all (passed_numbers (number_is e))),
    λ f. checked_accepted t (behind_faultless f.0) (all_covering f.1),
  )

  pub accepted_is : (checked t).number ≡ accepted → checked t ≡ answer accepted 0
  accepted_is e = checked_accepted t (passed_rows e) (passed_numbers e)

  -- numbers that are held, by the rows' numbers
  pub held_by_law : (n : ℕ) → is_free t n ≡ false → (k : ℕ) × (1 ≤ k) × (k ≤ length t.rows) × (holds n (row t k) ≡ true)
  unfolding is_free
  held_by_law n e =
      let found = any_some (holds n) t.rows no_row (not-false _ e) in
      (suc found.0, omega arith, found.1, rw (row_suc t found.0) found.2)

  pub by_row : (n k : ℕ) → 1 ≤ k → k ≤ length t.rows → holds n (row t k) ≡ true → is_free t n ≡ false
  unfolding is_free row
  by_row n k h l e = ap not (any_at (holds n) t.rows no_row (k - 1) (omega arith) e)

  pub free_numbers : (n : ℕ) → (is_free t n ≡ true) ↔ ((k : ℕ) → 1 ≤ k → k ≤ length t.rows → holds n (row t k) ≡ false)
  free_numbers n = (
    λ e k h l. cases (holds n (row t k)) (λ p. absurd (true≢false (sym e ∙ by_row n k h l p))) (λ p. p),
    λ f.
        cases
        (is_free t n)
        (λ e. e)
        (λ e.
        let held = held_by_law n e in
        absurd (true≢false (sym held.3 ∙ f held.0 held.1 held.2))),
  )

  -- the rows of an accepted table: all whole, at most 128, rising
  module _ (e : (checked t).number ≡ accepted) where
    no_fault : Faultless
    no_fault = faultless_behind (passed_rows e)

    rising : Rising 0 t.rows
    rising = rows_rise t (none_at_fault t (passed_rows e))

    last_good : 1 ≤ row_count t → Good t (row_count t)
    last_good h = is_good t (row_count t) (no_fault (row_count t) h (le_refl _))

    bounded : (m : ℕ) → (1 ≤ row_count t → row_count t ≤ m) → row_count t ≤ m
    bounded m f =
        cases
        (ltb 0 (row_count t))
        (λ e. f (ltb-true 0 (row_count t) e))
        (λ e. let none : row_count t ≤ 0 = ltb-false 0 (row_count t) e in omega arith)

    pub all_whole : row_count t ≡ length t.rows
    all_whole = le_antisymm (bounded (length t.rows) (λ h. (last_good h).whole)) (rows_within t)

    pub not_cut : t.cut_short ≡ false
    unfolding row_count
    not_cut =
        cases
        t.cut_short
        (λ c. absurd (let more : ◌≡◌ {A = ℕ} (when t.cut_short then 1 else 0) 1 = if_true _ _ _ c in omega (arith, all_whole)))
        (λ c. c)

    pub at_most_128 : row_count t ≤ 128
    at_most_128 = bounded 128 (λ h. (last_good h).few)

    pub covers : (n : ℕ) → n < number_count → (k : ℕ) × (1 ≤ k) × (k ≤ row_count t) × (holds n (row t k) ≡ true)
    covers n h =
        let found = held_by_law n (covering_all (passed_numbers e) n h) in
        (found.0, found.1, rw all_whole found.2, found.3)

    pub one_row : (n j k : ℕ) → 1 ≤ j → j ≤ row_count t → 1 ≤ k → k ≤ row_count t → holds n (row t j) ≡ true → holds n (row t k) ≡ true → j ≡ k
    unfolding row
    one_row n j k h l h' l' p q =
        let whole = all_whole in
        let same = one_holds n rising (j - 1) (k - 1) (omega arith) (omega arith) p q in
        omega arith

    pub line_found : (separator : List ℕ) (k : ℕ) → 4 ≤ length separator → 1 ≤ k → k ≤ row_count t
        → holds (separator_number separator) (row t k) ≡ true → asked t separator ≡ record { number = accepted; place = 0; line = (row t k).line }
    unfolding row
    line_found separator k long h l p =
        let whole = all_whole in
        asked_line t separator e long
        ∙ ap (λ (n : ℕ). record { number = accepted; place = 0; line = n }) (line_of_row _ rising (k - 1) (omega arith) p)

  -- a table is accepted where no row is at fault and the pass ends behind the last number
  pub accepted_by_pass : row_count t < first_fault t → gap 0 t.rows ≡ number_count → checked t ≡ answer accepted 0
  accepted_by_pass h e =
      let free = least_free_is_gap t (none_at_fault t h) (omega arith) in
      checked_accepted t h (omega arith)

-- a separator's number is one of 32 bits
pub separator_number_fits : (separator : List ℕ) → Below 256 separator → 4 ≤ length separator → separator_number separator < number_count
unfolding separator_number
separator_number_fits [] bytes h = absurd (omega arith)
separator_number_fits (a ∷ []) bytes h = absurd (omega arith)
separator_number_fits (a ∷ b ∷ []) bytes h = absurd (omega arith)
separator_number_fits (a ∷ b ∷ c ∷ []) bytes h = absurd (omega arith)
separator_number_fits (a ∷ b ∷ c ∷ d ∷ rest) bytes h =
    let at = below_at 256 (lit≤ tt) (a ∷ b ∷ c ∷ d ∷ rest) bytes in
    four_bytes_below a b c d (at 0) (at 1) (at 2) (at 3)
