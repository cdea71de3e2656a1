-- `field::wide_mul` meets its contract: the product of two numbers of 32 bits fits 64.
-- Assumes nothing.
use Rattle.field.proofs.Product.{product_fits}
use borrow.Author.Rules.{rules}
use Rattle.field.proofs.wide_mul.Goals as goal

pub overflow_mul-result : goal.overflow_mul-result
overflow_mul-result c = record { fits = product_fits 32 (search rules) (search rules) }
