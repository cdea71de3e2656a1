-- `keccak::state` meets its contract.
-- Assumes nothing.
use Rattle.std.proofs.Common.{[], ◌∷◌, lit<}
use Rattle.basics.specs.Lists.{tabulate}
use Rattle.keccak.specs.Permutation.{state}
use Rattle.keccak.proofs.state.Goals as goal

pub returns : goal.returns
unfolding state tabulate
returns g c =
    λ f is i.
    is 0 0 (lit< tt) (lit< tt) _ c.f.ensures i
    ∷ is 1 0 (lit< tt) (lit< tt) _ c.f-2.ensures i
    ∷ is 2 0 (lit< tt) (lit< tt) _ c.f-3.ensures i
    ∷ is 3 0 (lit< tt) (lit< tt) _ c.f-4.ensures i
    ∷ is 4 0 (lit< tt) (lit< tt) _ c.f-5.ensures i
    ∷ is 0 1 (lit< tt) (lit< tt) _ c.f-6.ensures i
    ∷ is 1 1 (lit< tt) (lit< tt) _ c.f-7.ensures i
    ∷ is 2 1 (lit< tt) (lit< tt) _ c.f-8.ensures i
    ∷ is 3 1 (lit< tt) (lit< tt) _ c.f-9.ensures i
    ∷ is 4 1 (lit< tt) (lit< tt) _ c.f-10.ensures i
    ∷ is 0 2 (lit< tt) (lit< tt) _ c.f-11.ensures i
    ∷ is 1 2 (lit< tt) (lit< tt) _ c.f-12.ensures i
    ∷ is 2 2 (lit< tt) (lit< tt) _ c.f-13.ensures i
    ∷ is 3 2 (lit< tt) (lit< tt) _ c.f-14.ensures i
    ∷ is 4 2 (lit< tt) (lit< tt) _ c.f-15.ensures i
    ∷ is 0 3 (lit< tt) (lit< tt) _ c.f-16.ensures i
    ∷ is 1 3 (lit< tt) (lit< tt) _ c.f-17.ensures i
    ∷ is 2 3 (lit< tt) (lit< tt) _ c.f-18.ensures i
    ∷ is 3 3 (lit< tt) (lit< tt) _ c.f-19.ensures i
    ∷ is 4 3 (lit< tt) (lit< tt) _ c.f-20.ensures i
    ∷ is 0 4 (lit< tt) (lit< tt) _ c.f-21.ensures i
    ∷ is 1 4 (lit< tt) (lit< tt) _ c.f-22.ensures i
    ∷ is 2 4 (lit< tt) (lit< tt) _ c.f-23.ensures i
    ∷ is 3 4 (lit< tt) (lit< tt) _ c.f-24.ensures i
    ∷ is 4 4 (lit< tt) (lit< tt) _ c.f-25.ensures i
    ∷ []
