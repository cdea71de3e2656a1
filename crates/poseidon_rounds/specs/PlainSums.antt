-- The sums of a state with a round's constants, not reduced.
use Rattle.std.specs.Prelude.{List, ℕ, ◌+◌, ◌*◌, get_or}
use Rattle.basics.specs.Lists.{tabulate}

-- "adding the round constants needn't reduce its sums .. Let that sum be the plain sum of its two inputs, unreduced" (document 02, P5)
unfoldable pub plain_sums : List ℕ → ℕ → List ℕ → List ℕ
plain_sums constants r s = tabulate 24 (λ i. get_or s i 0 + get_or constants (24 * r + i) 0)
