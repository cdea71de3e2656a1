-- `poseidon_blocks::term` meets its contract.
-- Assumes nothing.
use Rattle.std.proofs.Common.{ℕ, get_or, ap, ◌∙◌}
use Rattle.montgomery.specs.Montgomery.{low_product}
use Rattle.poseidon_blocks.proofs.term.Goals as goal

pub returns : goal.returns
returns c =
    let a = c.args in
    c.product.ensures ∙ ap (λ (y : ℕ). low_product y (get_or a.x.now a.j 0)) c.wide.ensures
