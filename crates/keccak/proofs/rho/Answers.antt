-- `keccak::rho` meets its contract.
-- Assumes nothing.
use Rattle.std.proofs.Common.{rules}
use Rattle.keccak.specs.Permutation.{rho, rho_lane}
use Rattle.keccak.proofs.rho.Goals as goal

pub returns : goal.returns
unfolding rho
returns c = c.state.ensures (rho_lane c.args.a) (λ x y x_below y_below r called. search rules)
