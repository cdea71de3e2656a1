-- `keccak::pi` meets its contract.
-- Assumes nothing.
use Rattle.std.proofs.Common.{rules}
use Rattle.keccak.specs.Permutation.{pi, pi_lane}
use Rattle.keccak.proofs.pi.Goals as goal

pub returns : goal.returns
unfolding pi
returns c = c.state.ensures (pi_lane c.args.a) (λ x y x_below y_below r called. search rules)
