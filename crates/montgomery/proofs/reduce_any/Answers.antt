-- `montgomery::reduce_any` meets its contract.
-- Assumes nothing.
use Rattle.montgomery.proofs.Reduction.{reduction_of_any}
use Rattle.std.proofs.Common.{rules}
use Rattle.montgomery.proofs.reduce_any.Goals as goal

pub returns : goal.returns
returns c = reduction_of_any _ _ _ _ _ _ (search rules) c.fold.ensures c.reduce.ensures
