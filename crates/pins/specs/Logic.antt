-- Choices, tests, and lists by index: rules for every input.
use Rattle.std.specs.Prelude.{◌≡◌, refl, Bool, true, false, List, [], ◌∷◌, ◌↔◌, ℕ, suc, ◌+◌, ◌<◌, length, get_or}
use Rattle.std.proofs.Common.{arith}
use Rattle.basics.specs.Logic.{when◌then◌else◌, ◌and◌, ◌or◌, same, all, any}
use Rattle.basics.specs.Lists.{tabulate, sum}
use Rattle.basics.proofs.Cases.{and_both, all_at, any_at, any_some}
use Rattle.basics.proofs.Fill.{length_tabulate, tabulate_at}

-- Each choice and test, in every case.
pub choices : (A : Type 0) (x y : A) → ((when true then x else y) ≡ x) × ((when false then x else y) ≡ y)
unfolding when◌then◌else◌
choices A x y = (refl, refl)

pub tests :
    (true and true ≡ true) × (true and false ≡ false) × (false and true ≡ false) × (false and false ≡ false)
    × (true or true ≡ true) × (true or false ≡ true) × (false or true ≡ true) × (false or false ≡ false)
    × (same true true ≡ true) × (same true false ≡ false) × (same false true ≡ false) × (same false false ≡ true)
unfolding ◌and◌ ◌or◌ same
tests = (refl, refl, refl, refl, refl, refl, refl, refl, refl, refl, refl, refl)

all_by_places : (f : ℕ → Bool) (xs : List ℕ) → ((i : ℕ) → i < length xs → f (get_or xs i 0) ≡ true) → all f xs ≡ true
unfolding all
all_by_places f [] h = refl
all_by_places f (x ∷ xs) h = and_both _ _ (h 0 (omega arith)) (all_by_places f xs (λ i l. h (suc i) (omega arith)))

-- Every element passes exactly if the one at each place does, and some element exactly if one at a place does, however long the list is.
pub every_element : (f : ℕ → Bool) (xs : List ℕ) → (all f xs ≡ true) ↔ ((i : ℕ) → i < length xs → f (get_or xs i 0) ≡ true)
every_element f xs = (λ e i l. all_at f xs 0 i e (λ past. absurd (omega arith)), all_by_places f xs)

pub some_element : (f : ℕ → Bool) (xs : List ℕ) → (any f xs ≡ true) ↔ ((i : ℕ) × (i < length xs) × (f (get_or xs i 0) ≡ true))
some_element f xs = (any_some f xs 0, λ (i, l, e). any_at f xs 0 i l e)

-- Lists and sums by index, of any length.
pub lists_by_index : (n : ℕ) (f : ℕ → ℕ) → (length (tabulate n f) ≡ n) × ((i : ℕ) → i < n → get_or (tabulate n f) i 0 ≡ f i)
lists_by_index n f = (length_tabulate n f, tabulate_at n f)

pub sums_by_index : (n : ℕ) (f : ℕ → ℕ) → (sum 0 f ≡ 0) × (sum (suc n) f ≡ sum n f + f n)
unfolding sum
sums_by_index n f = (refl, refl)
