-- Two lists compared, element by element.
-- Assumes nothing.
use mathlib.Core.Path.{◌≡◌, refl, ap₂}
use mathlib.Core.Bool.{Bool, true, false, not, false≢true}
use mathlib.Core.List.{List, [], ◌∷◌}
use Prim.Native.Nat.{ℕ, ◌+◌, ◌≤◌, ◌<◌}
use mir.Val.{bool_byte}
use native.Mathlib.Nat.{add-zero}
use native.Mathlib.Numerals.{add-one}
use native.Mathlib.Omega.{arith}
use borrow.Author.Tests.{eqb-true, eq-eqb, ne_eqb}
use lib.Dec.{eqb}
use lib.ListN.{length, get_or, drop, drop_of_length-le}
use lib.Seq.{drop-cons}
use Rattle.basics.specs.Logic.{◌and◌}
use Rattle.basics.proofs.Cases.{cases, and_left, and_right, and_both, and_false}
use Rattle.seal.specs.Seal.{is_mark}

-- 1 where two elements differ, else 0
abbrev difference : ℕ → ℕ → ℕ
difference x y = bool_byte (not (eqb x y))

pub difference_least : (b : Bool) → bool_byte b ≤ 1
difference_least true = omega arith
difference_least false = omega arith

-- one element further, with n differences before it
pub compared : (n : ℕ) (xs ys : List ℕ) (i : ℕ) → i < length xs → i < length ys
    → (eqb n 0 and is_mark (drop i xs) (drop i ys))
    ≡ (eqb (n + difference (get_or xs i 0) (get_or ys i 0)) 0 and is_mark (drop (i + 1) xs) (drop (i + 1) ys))
unfolding is_mark ◌and◌
compared n xs ys i hx hy =
    cases (eqb (get_or xs i 0) (get_or ys i 0))
    (λ e. rw (add-one, drop-cons xs i 0, drop-cons ys i 0, e, add-zero n))
    λ e.
    let some : eqb (n + 1) 0 ≡ false = ne_eqb (n + 1) 0 (λ z. omega arith) in
    rw (drop-cons xs i 0, drop-cons ys i 0, e, some) (and_false (eqb n 0))

pub mark_end : (xs ys : List ℕ) (i : ℕ) → length xs ≤ i → length ys ≤ i → is_mark (drop i xs) (drop i ys) ≡ true
unfolding is_mark
mark_end xs ys i hx hy = rw (drop_of_length-le xs hx, drop_of_length-le ys hy)

-- the test passes of equal lists alone
pub is_mark_same : (xs ys : List ℕ) → is_mark xs ys ≡ true → xs ≡ ys
unfolding is_mark
is_mark_same [] [] e = refl
is_mark_same [] (y ∷ ys) e = absurd (false≢true e)
is_mark_same (x ∷ xs) [] e = absurd (false≢true e)
is_mark_same (x ∷ xs) (y ∷ ys) e = ap₂ (λ (a : ℕ) (l : List ℕ). a ∷ l) (eqb-true x y (and_left _ _ e)) (is_mark_same xs ys (and_right _ _ e))

pub same_is_mark : (xs : List ℕ) → is_mark xs xs ≡ true
unfolding is_mark
same_is_mark [] = refl
same_is_mark (x ∷ xs) = and_both _ _ (eq-eqb x x refl) (same_is_mark xs)
