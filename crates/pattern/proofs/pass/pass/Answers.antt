-- `pattern::pass::pass` meets its contract.
-- Assumes nothing.
use mathlib.Core.Path.{ap, ◌∙◌}
use mathlib.Core.List.{List}
use Prim.Native.Nat.{ℕ}
use native.Mathlib.Omega.{arith}
use lib.ListN.{take}
use lib.Seq.{length-take-le, take_all}
use Rattle.basics.specs.Answers.{answer_number}
use Rattle.pattern.specs.Steps.{holding, count_in}
use Rattle.pattern.specs.Pass.{held_after}
use Rattle.pattern.proofs.PassStep.{begins, next_word, holding_few, holding_within}
use Rattle.pattern.proofs.pass.pass.Goals as goal

pub loop-n-init : goal.loop-n-init
unfolding answer_number count_in
loop-n-init c = ap (λ (l : List ℕ). holding 0 l 0) c.requires.1 ∙ begins

pub pass_word-held-requires : goal.pass_word-held-requires
pass_word-held-requires c =
    let loop = c.loop-n in
    let words = c.args.words.now in
    let long = length-take-le loop.n words (omega arith) in
    λ e. (
      omega (arith, holding_few (take loop.n words) _ _ _ loop.invariant e),
      λ some. rw long at (holding_within (take loop.n words) _ _ _ loop.invariant e some),
    )

pub loop-n-preserved : goal.loop-n-preserved
loop-n-preserved c =
    let loop = c.loop-n in
    let words = c.args.words.now in
    let n = loop.n in
    c.pass_word-held.ensures.0 (take n words) (length-take-le n words (omega arith)) loop.invariant ∙ next_word words n (omega arith)

pub returns : goal.returns
returns c =
    let loop = c.loop-n in
    let words = c.args.words.now in
    loop.invariant ∙ ap held_after (take_all loop.n words (omega arith))
