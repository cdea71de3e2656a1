-- The loop of `seal::declare` has written the words of the first i blocks behind the first word.
use mathlib.Core.Path.{◌≡◌}
use mathlib.Core.List.{◌++◌}
use Prim.Native.Nat.{◌+◌, ◌*◌, ◌≤◌}
use lib.ListN.{length, take, drop}
use Rattle.seal.specs.Seal.{block_words, seal_words}
use Rattle.seal.proofs.declare.Given as goal

abbrev pub invariant-loop-i : goal.invariant-loop-i
invariant-loop-i l =
    (l.i ≤ length l.lengths) × (length l.words ≡ 64) × (take (2 * l.i + 1) l.words ++ block_words (drop l.i l.lengths) ≡ seal_words l.lengths)
