-- `sponge::SpongeState::squeeze_element` meets its contract.
-- Assumes nothing.
use mathlib.Core.Path.{refl}
use borrow.Author.Tests.{eq-eqb, ne_eqb}
use Rattle.poseidon.specs.Permutation.{parameters}
use Rattle.sponge.proofs.Elements.{squeezed, moved_on, stays}
use Rattle.sponge.proofs.SpongeState.squeeze_element.Goals as goal
use Rattle.sponge.proofs.SpongeState.squeeze_element.Goals.{then-self-eq-RATE, else-self-eq-RATE}

pub returns : goal.returns
returns g c =
    let F = parameters (g.P.Permute.field_of c.args.by.now) in
    let s = c.args.self.now in
    let a = s.absorb_position in
    let q = s.squeeze_position in
    let permuted = c.permute_if_full-permutations.ensures in
    elim c.if-self-eq-RATE.branch [
      | then-self-eq-RATE w ↦ rw w.self-is
          (squeezed F s.state _ a q _ 0 q permuted.0 permuted.1 (moved_on q a (eq-eqb q 8 w.if-self-eq-RATE.true)) refl)
      | else-self-eq-RATE w ↦ rw w.self-is
          (squeezed F s.state _ a q _ a q permuted.0 permuted.1 (stays q a (ne_eqb q 8 w.if-self-eq-RATE.false)) refl)
    ]
