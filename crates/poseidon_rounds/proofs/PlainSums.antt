-- A plain sum, element by element.
-- Assumes nothing.
use mathlib.Core.Path.{◌≡◌}
use mathlib.Core.List.{List}
use Prim.Native.Nat.{ℕ, ◌+◌, ◌*◌, ◌<◌}
use lib.ListN.{get_or}
use Rattle.basics.proofs.Fill.{tabulate_at}
use Rattle.poseidon_rounds.specs.PlainSums.{plain_sums}

pub plain_sum_at : (constants : List ℕ) (r : ℕ) (s : List ℕ) (i : ℕ) → i < 24
    → get_or (plain_sums constants r s) i 0 ≡ get_or s i 0 + get_or constants (24 * r + i) 0
unfolding plain_sums
plain_sum_at constants r s i h = tabulate_at 24 (λ k. get_or s k 0 + get_or constants (24 * r + k) 0) i h
