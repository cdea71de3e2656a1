-- `Source::start` meets its contract.
-- Assumes nothing.
use mathlib.Core.Path.{◌≡◌, sym}
use native.Mathlib.Omega.{arith}
use Rattle.generator.specs.Steps.{bits_left}
use Rattle.generator.proofs.Streams.{drop_next}
use Rattle.generator.proofs.Source.start.Goals as goal

pub loop-preserved : goal.loop-preserved
loop-preserved c =
    let l = c.loop in
    (omega arith, rw c.shift.ensures.register (drop_next _ _ l.counter _ l.invariant.1))

pub returns : goal.returns
unfolding bits_left
returns c =
    let l = c.loop in
    let e : l.counter ≡ 160 = omega arith in
    rw l.invariant.0 (sym (rw e at l.invariant.1))
