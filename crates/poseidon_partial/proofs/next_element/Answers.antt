-- `poseidon_partial::next_element` meets its contract.
-- Assumes nothing.
use Rattle.std.proofs.Common.{ℕ, ap, ◌∙◌}
use Rattle.montgomery.specs.Montgomery.{low_product}
use Rattle.montgomery.proofs.Reduction.{reduced_at}
use Rattle.poseidon_partial.proofs.Partial.{next_element}
use Rattle.poseidon_partial.proofs.next_element.Goals as goal

pub returns : goal.returns
returns c =
    let a = c.args in
    next_element a.entry a.v a.y a.m a.q _ _ _ (c.product.ensures ∙ ap (λ (x : ℕ). low_product x a.y) c.wide.ensures)
    c.wrapping_add_u64.ensures.value (reduced_at c.wide-2.ensures c.wide-3.ensures c.reduce.ensures)
