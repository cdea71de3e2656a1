-- The row that holds a number, found in one pass.
-- Assumes nothing.
use mathlib.Core.Path.{◌≡◌, refl, sym, ap, ◌∙◌}
use mathlib.Core.Bool.{true, false, true≢false}
use mathlib.Core.List.{List}
use Prim.Native.Nat.{ℕ, zero, suc, ◌+◌, ◌≤◌, ◌<◌, suc-le-suc}
use native.Mathlib.Nat.{le_of_suc-le-suc, not-suc-le-zero}
use native.Mathlib.Numerals.{add-one}
use borrow.Author.Tests.{leb-true}
use lib.ListN.{length, get_or, drop, drop_of_length-le}
use lib.Seq.{drop-cons}
use Rattle.basics.proofs.Cases.{cases, if_true, if_false, and_right, any_at}
use Rattle.owners.specs.Owners.{holds, line_of}
use Rattle.owners.specs.declared.OwnerRow.{OwnerRow}
use Rattle.owners.proofs.Rows.{no_row}
use Rattle.owners.proofs.Gap.{Rising, none, one, none_below}

module _ (n : ℕ) (rs : List OwnerRow) (i : ℕ) where
  pub line_here : i < length rs → holds n (get_or rs i no_row) ≡ true → line_of n (drop i rs) ≡ (get_or rs i no_row).line
  unfolding line_of
  line_here h e = rw (drop-cons rs i no_row h) (if_true _ _ _ e)

  pub line_next : i < length rs → holds n (get_or rs i no_row) ≡ false → line_of n (drop i rs) ≡ line_of n (drop (i + 1) rs)
  unfolding line_of
  line_next h e = simp add-one (rw (drop-cons rs i no_row h) (if_false _ _ _ e))

  pub line_end : length rs ≤ i → line_of n (drop i rs) ≡ 0
  unfolding line_of
  line_end h = rw (drop_of_length-le rs h)

-- a row and one behind it do not hold the same number
not_both : (n : ℕ) (r : OwnerRow) (rs : List OwnerRow) → Rising (suc r.last) rs → (j : ℕ) → j < length rs
    → holds n r ≡ true → holds n (get_or rs j no_row) ≡ true → ⊥
unfolding holds
not_both n r rs rest j h e g =
    let below = leb-true n r.last (and_right _ _ e) in
    true≢false (sym (any_at (holds n) rs no_row j h g) ∙ none_below rest n (suc-le-suc below))

-- of rising rows, one at most holds a number
pub one_holds : {low : ℕ} {rs : List OwnerRow} (n : ℕ) → Rising low rs → (i j : ℕ) → i < length rs → j < length rs
    → holds n (get_or rs i no_row) ≡ true → holds n (get_or rs j no_row) ≡ true → i ≡ j
one_holds n none i j h = absurd (not-suc-le-zero h)
one_holds n (one {low} {r} {rs} from ordered rest) zero zero h = λ l e g. refl
one_holds n (one {low} {r} {rs} from ordered rest) zero (suc j) h = λ l e g. absurd (not_both n r rs rest j (le_of_suc-le-suc l) e g)
one_holds n (one {low} {r} {rs} from ordered rest) (suc i) zero h = λ l e g. absurd (not_both n r rs rest i (le_of_suc-le-suc h) g e)
one_holds n (one {low} {r} {rs} from ordered rest) (suc i) (suc j) h =
    λ l e g. ap suc (one_holds n rest i j (le_of_suc-le-suc h) (le_of_suc-le-suc l) e g)

-- so the line that is found is that of the row which holds the number
pub line_of_row : {low : ℕ} {rs : List OwnerRow} (n : ℕ) → Rising low rs → (i : ℕ) → i < length rs → holds n (get_or rs i no_row) ≡ true
    → line_of n rs ≡ (get_or rs i no_row).line
unfolding line_of
line_of_row n none i h = absurd (not-suc-le-zero h)
line_of_row n (one {low} {r} {rs} from ordered rest) zero h = λ e. if_true _ _ _ e
line_of_row n (one {low} {r} {rs} from ordered rest) (suc i) h =
    λ e.
    cases
    (holds n r)
    (λ t. absurd (not_both n r rs rest i (le_of_suc-le-suc h) t e))
    (λ f. if_false _ _ _ f ∙ line_of_row n rest i (le_of_suc-le-suc h) e)
