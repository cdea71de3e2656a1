-- The loop of `seal::combine` has written the first i results over what was squeezed.
use mathlib.Core.Path.{◌≡◌}
use mathlib.Core.List.{zip_with}
use Prim.Native.Nat.{ℕ}
use lib.ListN.{length}
use Rattle.seal.proofs.Overwrite.{Over}
use Rattle.seal.proofs.combine.Given as goal

abbrev pub invariant-loop-i : goal.invariant-loop-i
invariant-loop-i g l =
    (length l.squeezed ≡ length l.initial.squeezed)
    × ((h : ℕ → ℕ → ℕ) → ((x y z : ℕ) → goal.F-post g l.f x y z → z ≡ h x y)
    → Over l.initial.squeezed (zip_with h l.block l.initial.squeezed) l.i l.squeezed)
