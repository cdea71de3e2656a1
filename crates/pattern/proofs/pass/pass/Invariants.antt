-- What the loop of `pattern::pass::pass` keeps.
use mathlib.Core.Path.{◌≡◌}
use lib.ListN.{take}
use Rattle.basics.specs.Answers.{answer_number}
use Rattle.pattern.specs.Steps.{holding, count_in}
use Rattle.pattern.specs.Pass.{held_after}
use Rattle.pattern.proofs.pass.pass.Given as goal

abbrev pub invariant-loop-n : goal.invariant-loop-n
invariant-loop-n l = holding (answer_number l.held) l.list (count_in l.held) ≡ held_after (take l.n l.words)
