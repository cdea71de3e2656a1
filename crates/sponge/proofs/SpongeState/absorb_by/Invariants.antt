-- The loop of `sponge::SpongeState::absorb_by`: the elements so far are absorbed, with one permutation each at most.
use mathlib.Core.Path.{◌≡◌}
use Prim.Native.Nat.{◌≤◌}
use lib.ListN.{take}
use Rattle.poseidon.specs.Permutation.{parameters}
use Rattle.sponge.specs.Sponge.{absorb_elements}
use Rattle.sponge.specs.Counted.{counted}
use Rattle.sponge.proofs.SpongeState.absorb_by.Given as goal

abbrev pub invariant-loop-element : goal.invariant-loop-element
invariant-loop-element g l =
    (absorb_elements (parameters (g.P.Permute.field_of l.by)) (counted l.initial.self 0) (take l.element-index l.input) ≡ counted l.self l.permutations)
    × (l.permutations ≤ l.element-index)
