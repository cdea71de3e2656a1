-- What the loop of `cutting::cut` keeps.
use lib.ListN.{take}
use Rattle.cutting.specs.Cutting.{cut_words}
use Rattle.cutting.specs.Steps.{HasCalls}
use Rattle.cutting.proofs.cut.Given as goal

abbrev pub invariant-loop-word : goal.invariant-loop-word
invariant-loop-word l = HasCalls l.calls (cut_words 16777216 (take l.word-index l.words))
