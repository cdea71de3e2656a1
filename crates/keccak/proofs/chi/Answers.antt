-- `keccak::chi` meets its contract.
-- Assumes nothing.
use Rattle.std.proofs.Common.{rules}
use Rattle.keccak.specs.Permutation.{chi, chi_lane}
use Rattle.keccak.proofs.chi.Goals as goal

pub returns : goal.returns
unfolding chi
returns c = c.state.ensures (chi_lane c.args.a) (λ x y x_below y_below r called. search rules)
