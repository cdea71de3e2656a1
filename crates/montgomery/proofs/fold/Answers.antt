-- `montgomery::fold` meets its contract.
-- Assumes nothing.
use Rattle.std.proofs.Common.{arith, rules}
use Rattle.montgomery.proofs.Reduction.{fold_fits}
use Rattle.montgomery.proofs.fold.Goals as goal

pub overflow_add-result : goal.overflow_add-result
overflow_add-result c =
    let a = c.args in
    omega (arith, c.product.ensures, fold_fits a.a a.r (search rules))
