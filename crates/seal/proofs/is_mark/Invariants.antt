-- The loop of `seal::is_mark` has counted where the elements so far differ.
use mathlib.Core.Path.{◌≡◌}
use Prim.Native.Nat.{◌≤◌}
use lib.Dec.{eqb}
use lib.ListN.{length, drop}
use Rattle.basics.specs.Logic.{◌and◌}
use Rattle.seal.specs.Seal.{is_mark}
use Rattle.seal.proofs.is_mark.Given as goal

abbrev pub invariant-loop-x : goal.invariant-loop-x
invariant-loop-x l =
    (l.differences ≤ length l.yielded)
    × (is_mark l.mark l.given ≡ (eqb l.differences 0 and is_mark (drop (length l.yielded) l.mark) (drop (length l.yielded) l.given)))
