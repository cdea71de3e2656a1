-- Bounds, digits, and parts of lists.
use Rattle.std.specs.Prelude.{◌≡◌, refl, true, List, [], ◌∷◌, ◌++◌, ◌↔◌, ℕ, suc, ◌+◌, ◌*◌, ◌/◌, ◌%◌, ◌<◌, length, take, drop}
use Rattle.std.proofs.Common.{ltb-true, lt-ltb}
use Rattle.basics.specs.Logic.{all}
use Rattle.basics.specs.Lists.{is_below, Below, placed, joined, total}
use Rattle.basics.specs.Digits.{digits, number, number_after}
use Rattle.basics.proofs.Cases.{and_left, and_right, and_both}
use Rattle.basics.proofs.Positional.{number_append}

-- What a bound is, for one number and for a list.
pub numbers_below : (bound x : ℕ) → (is_below bound x ≡ true) ↔ (x < bound)
numbers_below bound x = (ltb-true x bound, lt-ltb x bound)

pub lists_below : (bound x : ℕ) (xs : List ℕ)
    → Below bound [] × (Below bound (x ∷ xs) → (x < bound) × Below bound xs) × (x < bound → Below bound xs → Below bound (x ∷ xs))
unfolding all
lists_below bound x xs = (
  refl,
  λ e. (ltb-true x bound (and_left _ _ e), and_right _ _ e),
  λ l e. and_both _ _ (lt-ltb x bound l) e,
)

-- Digits and numbers to any base, the highest digit first.
pub by_digits : (base n x d : ℕ) (ds : List ℕ)
    → (digits base 0 x ≡ []) × (digits base (suc n) x ≡ digits base n (x / base) ++ (x % base ∷ []))
    × (number base [] ≡ 0) × (number base (ds ++ (d ∷ [])) ≡ number base ds * base + d)
unfolding digits number number_after
by_digits base n x d ds = (refl, refl, refl, number_append base ds d)

-- A text in a buffer, lists one behind the other, and the sum of a list.
pub by_parts : (buffer : List ℕ) (at : ℕ) (text : List ℕ) (xss : List (List ℕ)) (n : ℕ) (ns : List ℕ)
    → (placed buffer at text ≡ take at buffer ++ text ++ drop (at + length text) buffer)
    × (joined [] ≡ []) × (joined (text ∷ xss) ≡ text ++ joined xss) × (total [] ≡ 0) × (total (n ∷ ns) ≡ n + total ns)
unfolding placed joined total
by_parts buffer at text xss n ns = (refl, refl, refl, refl, refl)

-- A text in the middle of a buffer leaves what stands before and behind it.
pub text_in_the_middle : placed (1 ∷ 2 ∷ 3 ∷ 4 ∷ 5 ∷ []) 1 (8 ∷ 9 ∷ []) ≡ 1 ∷ 8 ∷ 9 ∷ 4 ∷ 5 ∷ []
unfolding placed
text_in_the_middle = refl
