-- Definitions that no public contract cites: what private functions of the crate take and give.
use Rattle.std.specs.Prelude.{List, ℕ, ◌+◌, ◌%◌, ◌<◌, get_or}
use Rattle.keccak.specs.Permutation.{◌⊕◌, rotate}

-- P holds of the coordinates of each lane
abbrev pub EachLane : (ℕ → ℕ → Type 0) → Type 0
EachLane P = (x y : ℕ) → x < 5 → y < 5 → P x y

-- D[x] of theta, from the list C
abbrev pub effect_of : List ℕ → ℕ → ℕ
effect_of c x = get_or c ((x + 4) % 5) 0 ⊕ rotate (get_or c ((x + 1) % 5) 0) 1
