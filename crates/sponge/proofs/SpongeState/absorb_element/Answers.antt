-- `sponge::SpongeState::absorb_element` meets its contract.
-- Assumes nothing.
use Rattle.poseidon.specs.Permutation.{parameters}
use Rattle.sponge.proofs.Elements.{absorbed}
use Rattle.sponge.proofs.SpongeState.absorb_element.Goals as goal

pub returns : goal.returns
unfolding parameters
returns g c =
    let s = c.args.self.now in
    let permuted = c.permute_if_full-permutations.ensures in
    absorbed (parameters (g.P.Permute.field_of c.args.by.now)) s.state _ s.absorb_position s.squeeze_position _ c.args.element _ permuted.0 permuted.1
    (rw (← c.field.ensures) c.add.ensures)
