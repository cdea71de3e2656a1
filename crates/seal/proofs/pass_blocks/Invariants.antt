-- The loop of `seal::pass_blocks` has passed the blocks so far.
use Rattle.seal.proofs.Passes.{Passing}
use Rattle.seal.proofs.pass_blocks.Given as goal

abbrev pub invariant-loop-n : goal.invariant-loop-n
invariant-loop-n g l = Passing g.P.Pass.given g.P.Pass.after g.P.Pass.Asks l.lengths l.text l.initial.session l.n-index l.at l.session l.out
