-- Laws of the first row of a table that applies.
-- Assumes nothing.
use mathlib.Core.Path.{◌≡◌, refl, sym, ◌∙◌}
use mathlib.Core.Bool.{Bool, true, false, not}
use mathlib.Core.List.{List, [], ◌∷◌, ◌++◌}
use mathlib.Core.Logic.{◌≢◌}
use Prim.Native.Nat.{ℕ, ◌≤◌, zero-le}
use borrow.Author.Tests.{leb-true, eqb-false, not-true}
use lib.Dec.{leb, eqb}
use Rattle.basics.specs.Logic.{when◌then◌else◌, ◌or◌, all, any}
use Rattle.basics.specs.Numbers.{accepted}
use Rattle.basics.specs.Refusals.{Row, first_number}
use Rattle.basics.proofs.Cases.{by, if_true, if_false, and_left, and_right, or_false}

-- whether a row applies, and whether it refuses
abbrev pub applying : Row → Bool
applying row = row.applies

abbrev pub refusing : Row → Bool
refusing row = not (eqb row.number accepted)

-- none of the rows applies
abbrev pub NoneApplies : List Row → Type 0
NoneApplies rows = any applying rows ≡ false

pub none_applies : (rows : List Row) → NoneApplies rows → first_number rows ≡ accepted
unfolding first_number any
none_applies [] e = refl
none_applies (row ∷ rows) e = let o = or_false _ _ e in if_false _ _ _ o.0 ∙ none_applies rows o.1

-- behind rows of which none applies, the other rows count
pub behind : (rows others : List Row) → NoneApplies rows → first_number (rows ++ others) ≡ first_number others
unfolding first_number any
behind [] others e = refl
behind (row ∷ rows) others e = let o = or_false _ _ e in if_false _ _ _ o.0 ∙ behind rows others o.1

-- a row that applies, where none before it does
pub row_applies : (rows : List Row) (row : Row) (others : List Row) → NoneApplies rows → row.applies ≡ true
    → first_number (rows ++ (row ∷ others)) ≡ row.number
unfolding first_number
row_applies rows row others e t = behind rows (row ∷ others) e ∙ if_true _ _ _ t

-- a refusal stays one, whatever rows stand behind
pub refused_before : (rows others : List Row) → first_number rows ≢ accepted → first_number (rows ++ others) ≡ first_number rows
unfolding first_number
refused_before [] others = λ n. absurd (n refl)
refused_before (row ∷ rows) others =
    by (λ (n : ℕ). n ≢ accepted → (when row.applies then row.number else first_number (rows ++ others)) ≡ n) row.applies _ _
    (λ t _. if_true _ _ _ t)
    λ f n. if_false _ _ _ f ∙ refused_before rows others n

-- where every row refuses, an accepted call is one to which none applies
pub accepted_none : (rows : List Row) → all refusing rows ≡ true → first_number rows ≡ accepted → NoneApplies rows
unfolding first_number any all ◌or◌
accepted_none [] r = λ e. refl
accepted_none (row ∷ rows) r =
    by (λ (n : ℕ). n ≡ accepted → row.applies or any applying rows ≡ false) row.applies _ _
    (λ _ e. absurd (eqb-false row.number accepted (not-true _ (and_left _ _ r)) e))
    λ f e. rw f (accepted_none rows (and_right _ _ r) e)

-- no number is above a bound that all rows keep
pub number_bound : (m : ℕ) (rows : List Row) → all (λ row. leb row.number m) rows ≡ true → first_number rows ≤ m
unfolding first_number all
number_bound m [] e = zero-le
number_bound m (row ∷ rows) e =
    by (λ (n : ℕ). n ≤ m) _ _ _ (λ _. leb-true _ _ (and_left _ _ e)) λ _. number_bound m rows (and_right _ _ e)

-- a number that no row has is not given
pub never_given : (n : ℕ) (rows : List Row) → all (λ row. not (eqb row.number n)) rows ≡ true → n ≢ accepted → first_number rows ≢ n
unfolding first_number all
never_given n [] e some = λ z. some (sym z)
never_given n (row ∷ rows) e some =
    by (λ (k : ℕ). k ≢ n) _ _ _ (λ _. eqb-false row.number n (not-true _ (and_left _ _ e))) λ _. never_given n rows (and_right _ _ e) some
