-- `Source::next_output` meets its contract: the pairs passed give no output bit.
-- Assumes nothing.
use mathlib.Core.Path.{◌≡◌, ◌∙◌, ap}
use mathlib.Core.List.{[], ◌∷◌}
use Prim.Native.Nat.{ℕ, ◌-◌, ◌≤◌, ◌<◌}
use native.Mathlib.Omega.{arith}
use Rattle.generator.specs.Generator.{next_bit, shifted}
use Rattle.generator.specs.Steps.{bits_left, outputs_left}
use Rattle.generator.specs.declared.Source.{Source}
use Rattle.generator.proofs.Streams.{bit_bound, output_some, output_skip, output_none}
use Rattle.generator.proofs.Source.next_output.Goals as goal

-- a pair of new bits is taken
module _ (before first second : Source) {a b : ℕ} (enough : 2 ≤ before.left)
    (ea : a ≡ next_bit before.register) (ra : first.register ≡ shifted before.register) (la : first.left ≡ before.left - 2)
    (eb : b ≡ next_bit first.register) (rb : second.register ≡ shifted first.register) (lb : second.left ≡ first.left) where
  output : a ≡ 1 → outputs_left before ≡ b ∷ outputs_left second
  unfolding outputs_left bits_left
  output e = rw (lb, la, rb, ra) (output_some before.left before.register ea (eb ∙ ap next_bit ra) enough e)

  none : (a ≡ 1 → ⊥) → outputs_left before ≡ outputs_left second
  unfolding outputs_left bits_left
  none e = rw (lb, la, rb, ra) (output_skip before.left before.register ea (eb ∙ ap next_bit ra) enough e)

-- fewer than two are left
ended : (s : Source) → s.left < 2 → outputs_left s ≡ []
unfolding outputs_left bits_left
ended s = output_none s.left s.register

pub returns-then-first-eq1 : goal.returns-then-first-eq1
returns-then-first-eq1 c =
    let l = c.loop-self in
    let a = c.shift-first.ensures in
    let b = c.shift-second.ensures in (
      l.invariant.1 ∙ output l.self c.shift-first.new.self c.shift-second.new.self c.loop-self-test.true a.bit a.register a.left b.bit b.register b.left c.if-first-eq1.true,
      (rw b.bit (bit_bound _), omega arith),
    )

pub loop-self-preserved : goal.loop-self-preserved
loop-self-preserved c =
    let l = c.loop-self in
    let a = c.shift-first.ensures in
    let b = c.shift-second.ensures in
    (omega arith, l.invariant.1 ∙ none l.self c.shift-first.new.self c.shift-second.new.self c.loop-self-test.true a.bit a.register a.left b.bit b.register b.left c.if-first-eq1.false)

pub returns : goal.returns
returns c =
    let e = ended c.loop-self.self c.loop-self-test.false in
    ((c.loop-self.invariant.1 ∙ e, e), tt)
