-- Laws of `Below`: each number of a list is below a bound.
-- Assumes nothing.
use mathlib.Core.Path.{refl}
use mathlib.Core.List.{List, [], ◌∷◌, ◌++◌}
use Prim.Native.Nat.{ℕ, zero, suc, ◌<◌, ◌≤◌}
use native.Mathlib.Nat.{lt_of_lt_of_le}
use borrow.Author.Tests.{ltb-true, lt-ltb}
use lib.ListN.{get_or, take, drop}
use Rattle.basics.specs.Logic.{all}
use Rattle.basics.specs.Lists.{tabulate, is_below, Below}
use Rattle.basics.proofs.Cases.{and_left, and_right, and_both, all_at}

module _ (m : ℕ) where
  pub below_nil : Below m []
  unfolding all
  below_nil = refl

  pub below_cons : (x : ℕ) (xs : List ℕ) → x < m → Below m xs → Below m (x ∷ xs)
  unfolding all
  below_cons x xs h hs = and_both _ _ (lt-ltb x m h) hs

  pub below_head : (x : ℕ) (xs : List ℕ) → Below m (x ∷ xs) → x < m
  unfolding all
  below_head x xs h = ltb-true x m (and_left _ _ h)

  pub below_tail : (x : ℕ) (xs : List ℕ) → Below m (x ∷ xs) → Below m xs
  unfolding all
  below_tail x xs h = and_right _ _ h

  pub below_push : (xs : List ℕ) (x : ℕ) → Below m xs → x < m → Below m (xs ++ (x ∷ []))
  below_push [] x h l = below_cons x [] l below_nil
  below_push (y ∷ xs) x h l = below_cons y (xs ++ (x ∷ [])) (below_head y xs h) (below_push xs x (below_tail y xs h) l)

  pub below_tabulate : (n : ℕ) (f : ℕ → ℕ) → ((i : ℕ) → f i < m) → Below m (tabulate n f)
  unfolding tabulate
  below_tabulate zero f h = below_nil
  below_tabulate (suc n) f h = below_push (tabulate n f) (f n) (below_tabulate n f h) (h n)

  pub below_take : (n : ℕ) (xs : List ℕ) → Below m xs → Below m (take n xs)
  below_take zero xs h = below_nil
  below_take (suc n) [] h = below_nil
  below_take (suc n) (x ∷ xs) h = below_cons x (take n xs) (below_head x xs h) (below_take n xs (below_tail x xs h))

  pub below_drop : (n : ℕ) (xs : List ℕ) → Below m xs → Below m (drop n xs)
  below_drop zero xs h = h
  below_drop (suc n) [] h = below_nil
  below_drop (suc n) (x ∷ xs) h = below_drop n xs (below_tail x xs h)

  -- place by place; past its end a list reads as 0
  pub below_at : 0 < m → (xs : List ℕ) → Below m xs → (k : ℕ) → get_or xs k 0 < m
  below_at pos xs h k = ltb-true _ m (all_at (is_below m) xs 0 k h (λ _. lt-ltb 0 m pos))

  pub at_below : (xs : List ℕ) → ((k : ℕ) → get_or xs k 0 < m) → Below m xs
  at_below [] h = below_nil
  at_below (x ∷ xs) h = below_cons x xs (h 0) (at_below xs (λ k. h (suc k)))

-- what is below a bound is below a larger one
pub below_larger : {m n : ℕ} → m ≤ n → (xs : List ℕ) → Below m xs → Below n xs
below_larger l [] h = below_nil _
below_larger {m} {n} l (x ∷ xs) h = below_cons n x xs (lt_of_lt_of_le (below_head m x xs h) l) (below_larger l xs (below_tail m x xs h))
