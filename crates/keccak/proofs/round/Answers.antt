-- `keccak::round` meets its contract.
-- Assumes nothing.
use mathlib.Core.Path.{◌∙◌, ap}
use mathlib.Core.List.{List}
use Prim.Native.Nat.{ℕ}
use Rattle.keccak.specs.Permutation.{rho, pi, chi, iota}
use Rattle.keccak.proofs.round.Goals as goal

pub returns : goal.returns
returns c =
    c.iota.ensures
    ∙ ap (λ (a : List ℕ). iota a c.args.constant.now)
    (c.chi.ensures
    ∙ ap chi (c.pi.ensures ∙ ap pi (c.rho.ensures ∙ ap rho c.theta.ensures)))
