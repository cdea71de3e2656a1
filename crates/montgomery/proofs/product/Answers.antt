-- `montgomery::product` meets its contract: the product of two numbers of 32 bits fits 64.
-- Assumes nothing.
use Rattle.std.proofs.Common.{mod-lt, zero-lt-suc}
use Rattle.field.proofs.Product.{product_fits}
use Rattle.montgomery.proofs.product.Goals as goal

pub overflow_mul-result : goal.overflow_mul-result
overflow_mul-result c = record { fits = product_fits 32 (mod-lt _ (zero-lt-suc _)) (mod-lt _ (zero-lt-suc _)) }
