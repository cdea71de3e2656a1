-- What the loop of `cutting::push_calls` keeps, and that it ends.
use Rattle.cutting.proofs.Steps.{Begun}
use Rattle.cutting.proofs.push_calls.Given as goal

abbrev pub invariant-loop-calls : goal.invariant-loop-calls
invariant-loop-calls l = Begun l.fn.calls l.calls l.word l.left

abbrev pub decreases-loop-calls : goal.decreases-loop-calls
decreases-loop-calls l = l.left
