-- The loop of `poseidon::reduce_all`: the elements so far are reduced, and the others as they were.
use mathlib.Core.Path.{◌≡◌}
use Prim.Native.Nat.{ℕ, ◌%◌, ◌≤◌}
use lib.ListN.{get_or}
use Rattle.basics.proofs.Fill.{Filled}
use Rattle.poseidon.proofs.reduce_all.Given as goal

abbrev pub invariant-loop-x : goal.invariant-loop-x
invariant-loop-x l =
    Filled 24 (λ k. get_or l.fn.state k 0 % l.m) l.x-items l.x-index
    × ((k : ℕ) → l.x-index ≤ k → get_or l.x-items k 0 ≡ get_or l.fn.state k 0)
