-- `cutting::push_calls` meets its contract.
-- Assumes nothing.
use mathlib.Core.Path.{◌≡◌}
use mathlib.Core.List.{List, ◌++◌}
use Prim.Native.Nat.{ℕ, ◌<◌}
use native.Mathlib.Omega.{arith}
use lib.ListN.{length}
use Rattle.std.proofs.lemmas.Result.{err_from_is_err_and, on_ok_weaker, IfErr-weaker}
use Rattle.basics.specs.Answers.{number_of}
use Rattle.words.specs.Words.{length_of}
use Rattle.cutting.specs.Steps.{HasCalls, calls_of}
use Rattle.cutting.proofs.Steps.{begun, begun_more, begun_last, begun_full}
use Rattle.cutting.proofs.push_calls.Goals as goal

pub loop-calls-init : goal.loop-calls-init
loop-calls-init c = begun c.args.calls.now c.args.word

pub returns-in_err-push-clause-err : goal.returns-in_err-push-clause-err
returns-in_err-push-clause-err c =
    let loop = c.loop-calls in
    let err = err_from_is_err_and c.from_residual.result c.from_residual.ensures.1 in
    let (number, full) = c.in_err-push.ensures.err in
    rw (err.1, err.2) (number, begun_full _ _ _ loop.left loop.invariant (omega (arith, loop.auto.left-fits)) full)

pub overflow_sub-left : goal.overflow_sub-left
unfolding length_of
overflow_sub-left c = omega (arith, c.length_of.ensures, c.loop-calls-test.true)

pub loop-calls-smaller : goal.loop-calls-smaller
unfolding length_of
loop-calls-smaller c = omega (arith, c.length_of.ensures, c.loop-calls-test.true)

pub loop-calls-preserved : goal.loop-calls-preserved
loop-calls-preserved c =
    let loop = c.loop-calls in
    begun_more _ _ _ loop.left loop.invariant (omega (arith, loop.auto.left-fits)) _ (omega (arith, c.length_of.ensures, c.loop-calls-test.true))
    (rw c.full_call.ensures at c.in_ok-push.ensures.ok)

pub returns-clause-ok : goal.returns-clause-ok
returns-clause-ok c =
    let loop = c.loop-calls in
    on_ok_weaker _
    (begun_last _ _ _ loop.left loop.invariant (omega (arith, loop.auto.left-fits)) _ (omega (arith, c.length_of.ensures, c.loop-calls-test.false)))
    c.push-2.ensures.ok

pub returns-clause-err : goal.returns-clause-err
returns-clause-err c =
    let loop = c.loop-calls in
    IfErr-weaker c.push-2.result _ (λ e. (number_of e ≡ 1) × ((cs : List ℕ) → HasCalls c.args.calls.now cs → 64 < length (cs ++ calls_of 16777216 c.args.word)))
    (λ e told. (told.0, begun_full _ _ _ loop.left loop.invariant (omega (arith, loop.auto.left-fits)) told.1))
    c.push-2.ensures.err
