-- What the loop of `sound_words::alternate` keeps.
use mathlib.Core.Path.{◌≡◌}
use mathlib.Core.Bool.{true, not}
use Prim.Native.Nat.{◌≤◌}
use lib.Dec.{eqb}
use lib.ListN.{drop}
use Rattle.basics.specs.Logic.{◌and◌}
use Rattle.words.specs.Words.{is_absorb}
use Rattle.pattern.proofs.Soundness.{tests}
use Rattle.sound_words.proofs.alternate.Given as goal

abbrev pub invariant-loop-word : goal.invariant-loop-word
invariant-loop-word l =
    (l.faults ≤ l.word-index) × (tests true l.words ≡ (eqb l.faults 0 and tests (not (is_absorb l.last)) (drop l.word-index l.words)))
