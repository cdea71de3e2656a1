-- How many elements a pattern absorbs and squeezes.
use Rattle.std.specs.Prelude.{List, [], ◌∷◌, ℕ, ◌+◌}
use Rattle.basics.specs.Logic.{when◌then◌else◌}
use Rattle.words.specs.Words.{Phase}

-- the sum of the lengths of the ABSORB phases
unfoldable pub absorb_length : List Phase → ℕ
absorb_length [] = 0
absorb_length (a ∷ ps) = (when a.absorbs then a.elements else 0) + absorb_length ps

-- the sum of the lengths of the SQUEEZE phases
unfoldable pub squeeze_length : List Phase → ℕ
squeeze_length [] = 0
squeeze_length (a ∷ ps) = (when a.absorbs then 0 else a.elements) + squeeze_length ps
