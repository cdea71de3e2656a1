-- The loop of `sponge::SpongeState::squeeze_by`: the places so far have the elements that come out, with one permutation each at most.
use mathlib.Core.Path.{◌≡◌}
use Prim.Native.Nat.{◌≤◌}
use Rattle.basics.specs.Lists.{placed}
use Rattle.poseidon.specs.Permutation.{parameters}
use Rattle.sponge.specs.Sponge.{squeeze_elements, squeezed_elements}
use Rattle.sponge.specs.Counted.{counted}
use Rattle.sponge.proofs.SpongeState.squeeze_by.Given as goal

abbrev pub invariant-loop-out : goal.invariant-loop-out
invariant-loop-out g l =
    (squeeze_elements (parameters (g.P.Permute.field_of l.by)) (counted l.initial.self 0) l.out-index ≡ counted l.self l.permutations)
    × (l.out-items ≡ placed l.initial.out-items 0 (squeezed_elements (parameters (g.P.Permute.field_of l.by)) (counted l.initial.self 0) l.out-index))
    × (l.permutations ≤ l.out-index)
