-- `poseidon_blocks::close` meets its contract.
-- Assumes nothing.
use Rattle.std.proofs.Common.{ℕ, ◌+◌, ap, ◌∙◌, arith, rules}
use Rattle.montgomery.specs.Montgomery.{low_product}
use Rattle.montgomery.proofs.Reduction.{reduced_at}
use Rattle.poseidon_matrix.proofs.Laws.{high_fits}
use Rattle.poseidon_blocks.proofs.Blocks.{closed}
use Rattle.poseidon_blocks.proofs.close.Goals as goal

pub overflow_add-low-2 : goal.overflow_add-low-2
overflow_add-low-2 c =
    let a = c.args in
    omega (arith, c.product-folded.ensures, high_fits (a.high + a.shared_high) c.wide.result (omega arith))

pub overflow_add-low-3 : goal.overflow_add-low-3
overflow_add-low-3 c =
    let a = c.args in
    omega (arith, c.product-folded.ensures, high_fits (a.high + a.shared_high) c.wide.result (omega arith))

pub returns : goal.returns
returns c =
    let a = c.args in
    closed a.low a.high a.shared_low a.shared_high a.c a.m a.q a.r _ _ _ (search rules) (search rules) (search rules) (search rules) (search rules)
    (c.product-folded.ensures ∙ ap (λ (y : ℕ). low_product (a.high + a.shared_high) y) c.wide.ensures)
    (ap (λ (y : ℕ). a.low + a.shared_low + c.product-folded.result + y) c.wide-2.ensures)
    (reduced_at c.wide-3.ensures c.wide-4.ensures c.reduce.ensures)
