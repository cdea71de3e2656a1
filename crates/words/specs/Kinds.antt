-- Kinds of calls, as definitions have them.
use Rattle.std.specs.Prelude.{Bool, true, false}
use Rattle.words.specs.declared.Kind.{Kind}
use Rattle.words.specs.declared.Kind.TheVariants.{Absorb, Squeeze}

-- whether a call of a kind absorbs
unfoldable pub absorbs : Kind → Bool
absorbs Absorb = true
absorbs Squeeze = false
