-- What holds at each place of a list, or of two.
use Rattle.std.specs.Prelude.{◌≡◌, List, ℕ, ◌<◌, length, get_or}
use Rattle.field.proofs.Congruence.{Congruent}

-- a list of n elements, of which P holds at each place
pub record Each (n : ℕ) (P : ℕ → ℕ → Type 0) (s : List ℕ) : Type 0 where
  pub long : length s ≡ n
  pub each : (k : ℕ) → k < n → P k (get_or s k 0)

-- two states, element by element modulo m
pub record Alike (m : ℕ) (x z : List ℕ) : Type 0 where
  pub at : (i : ℕ) → i < 24 → Congruent m (get_or x i 0) (get_or z i 0)
