-- Definitions that no public contract cites: what private functions of the crate take and give.
use Rattle.std.specs.Prelude.{List, ℕ, ◌+◌, ◌%◌, eqb, get_or, set}
use Rattle.basics.specs.Logic.{when◌then◌else◌}
use Rattle.basics.specs.Figures.{rate}
use Rattle.poseidon.specs.Permutation.{Parameters, permutation}
use Rattle.sponge.specs.Sponge.{outer}

-- the state where an element goes in or comes out at a position: permuted where that is 8
unfoldable pub state_for : Parameters → ℕ → List ℕ → List ℕ
state_for F position state = when eqb position rate then permutation F state else state

-- how many permutations that is
unfoldable pub permutations_for : ℕ → ℕ
permutations_for position = when eqb position rate then 1 else 0

-- the state with an element added at a position, permuted first where that is 8
unfoldable pub state_with : Parameters → ℕ → List ℕ → ℕ → List ℕ
state_with F position state x =
    set (state_for F position state) (outer position) ((get_or (state_for F position state) (outer position) 0 + x) % F.modulus)

-- the absorb position, where an element comes out at a squeeze position
unfoldable pub absorb_for : ℕ → ℕ → ℕ
absorb_for squeeze absorb = when eqb squeeze rate then 0 else absorb
