-- `Source::next_constant` meets its contract: the candidates passed give no constant.
-- Assumes nothing.
use mathlib.Core.Path.{◌≡◌, ◌∙◌, ap}
use mathlib.Core.List.{[], ◌∷◌}
use Prim.Native.Nat.{ℕ, ◌≤◌, ◌<◌}
use Rattle.generator.specs.Generator.{kept}
use Rattle.generator.specs.Steps.{candidates_left, constants_left}
use Rattle.generator.specs.declared.Source.{Source}
use Rattle.generator.proofs.Streams.{kept_below, skip}
use Rattle.generator.proofs.Source.next_constant.Goals as goal

module _ (modulus : ℕ) (before after : Source) where
  constant : {candidate : ℕ} → candidates_left before ≡ candidate ∷ candidates_left after → candidate < modulus
      → constants_left modulus before ≡ candidate ∷ constants_left modulus after
  unfolding constants_left
  constant e h = ap (kept modulus) e ∙ kept_below modulus _ _ h

  passed : {candidate : ℕ} → candidates_left before ≡ candidate ∷ candidates_left after → modulus ≤ candidate
      → constants_left modulus before ≡ constants_left modulus after
  unfolding constants_left
  passed e h = ap (kept modulus) e ∙ skip modulus _ _ h

ended : (modulus : ℕ) (s : Source) → candidates_left s ≡ [] → constants_left modulus s ≡ []
unfolding constants_left kept
ended modulus s e = ap (kept modulus) e

pub returns-then-candidate-modulus : goal.returns-then-candidate-modulus
returns-then-candidate-modulus c =
    c.loop-candidate.invariant ∙ constant c.args.modulus _ _ c.in-Some.ensures.0 c.if-candidate-modulus.true

pub loop-candidate-preserved : goal.loop-candidate-preserved
loop-candidate-preserved c =
    c.loop-candidate.invariant ∙ passed c.args.modulus _ _ c.in-Some.ensures.0 c.if-candidate-modulus.false

pub returns : goal.returns
returns c =
    let e = c.in_default.ensures.0 in
    (c.loop-candidate.invariant ∙ ended c.args.modulus _ e.0, ended c.args.modulus _ e.1)
