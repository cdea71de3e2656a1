-- The front of a list.
-- Assumes nothing.
use mathlib.Core.Path.{◌≡◌, refl, ap}
use mathlib.Core.List.{List, [], ◌∷◌}
use Prim.Native.Nat.{ℕ, zero, suc}
use lib.ListN.{length, take}

-- its own length says which front it is
pub take_front : (n : ℕ) (l : List ℕ) → take n l ≡ take (length (take n l)) l
take_front zero l = refl
take_front (suc n) [] = refl
take_front (suc n) (x ∷ l) = ap (λ (k : List ℕ). x ∷ k) (take_front n l)
