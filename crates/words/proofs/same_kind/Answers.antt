-- `words::same_kind` meets its contract.
-- Assumes nothing.
use mathlib.Core.Path.{◌≡◌, refl, ap₂, ◌∙◌}
use denote.Enum.Bare.{sameb}
use Rattle.basics.specs.Logic.{same}
use Rattle.words.specs.Kinds.{absorbs}
use Rattle.words.specs.declared.Kind.{Kind}
use Rattle.words.specs.declared.Kind.TheVariants.{Absorb, Squeeze}
use Rattle.words.specs.contracts.Kind.{the_type}
use Rattle.words.proofs.same_kind.Goals as goal

-- two kinds are the same if both absorb, or neither
same_absorbs : (a b : Kind) → sameb the_type a b ≡ same (absorbs a) (absorbs b)
unfolding same absorbs
same_absorbs Absorb Absorb = refl
same_absorbs Absorb Squeeze = refl
same_absorbs Squeeze Absorb = refl
same_absorbs Squeeze Squeeze = refl

pub returns : goal.returns
returns c = c.eq.ensures ∙ same_absorbs _ _ ∙ ap₂ same c.kind_of.ensures c.kind_of-2.ensures
