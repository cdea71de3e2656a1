-- `cutting::cut` meets its contract.
-- Assumes nothing.
use mathlib.Core.Path.{refl, ap, ◌∙◌}
use Prim.Native.Nat.{◌+◌}
use native.Mathlib.Omega.{arith}
use lib.Seq.{take_all}
use Rattle.std.specs.Prelude.{Err}
use Rattle.std.proofs.lemmas.Result.{err_from_is_err_and}
use Rattle.pattern.specs.Answers.{words_answer}
use Rattle.cutting.specs.Cutting.{cut_words}
use Rattle.cutting.proofs.Steps.{cut_next, cut_whole, cut_over}
use Rattle.cutting.proofs.cut.Goals as goal

pub loop-word-init : goal.loop-word-init
unfolding cut_words
loop-word-init c = record { places = refl; counted = refl }

pub returns-in_err-push_calls : goal.returns-in_err-push_calls
returns-in_err-push_calls c =
    let loop = c.loop-word in
    let words = c.args.words.now in
    let err = err_from_is_err_and c.from_residual.result c.from_residual.ensures.1 in
    let (number, full) = c.in_err-push_calls.ensures.err in
    ap words_answer (err.1 ∙ ap Err err.2)
    ∙ cut_over words (loop.word-index + 1) _ number (rw (cut_next 16777216 words loop.word-index (omega arith)) (full _ loop.invariant))

pub loop-word-preserved : goal.loop-word-preserved
loop-word-preserved c =
    let loop = c.loop-word in
    let words = c.args.words.now in
    rw (cut_next 16777216 words loop.word-index (omega arith)) (c.in_ok-push_calls.ensures.ok _ loop.invariant)

pub returns : goal.returns
returns c =
    let loop = c.loop-word in
    let words = c.args.words.now in
    cut_whole words _ (rw (take_all loop.word-index words (omega arith)) at loop.invariant)
