-- `montgomery::reduce` meets its contract.
-- Assumes nothing.
use Rattle.std.proofs.Common.{ℕ, ◌+◌, ◌%◌, refl, ap, ◌∙◌, rules}
use Rattle.montgomery.specs.Montgomery.{low_product}
use Rattle.montgomery.proofs.Reduction.{reduction}
use Rattle.montgomery.proofs.reduce.Goals as goal

pub returns : goal.returns
returns c =
    let a = c.args in
    reduction a.a a.m a.q _ _ (search rules)
    (ap (λ (x : ℕ). (a.a + x) % 18446744073709551616) (c.product-2.ensures ∙ ap (λ (x : ℕ). low_product x a.m) c.product.ensures))
    refl
