-- `poseidon_matrix::row` meets its contract: the parts summed apart make the sum of the products so far.
-- Assumes nothing.
use Rattle.std.proofs.Common.{◌≡◌, ℕ, ◌+◌, refl, ap, ◌∙◌, arith, rules}
use Rattle.basics.specs.Lists.{sum}
use Rattle.montgomery.specs.Montgomery.{low_product}
use Rattle.montgomery.proofs.Reduction.{reduced_at}
use Rattle.poseidon_matrix.specs.Matrix.{row_sum}
use Rattle.poseidon_matrix.proofs.Laws.{row_step, row_end, high_fits}
use Rattle.poseidon_matrix.proofs.row.Goals as goal

pub loop-d-init : goal.loop-d-init
unfolding sum
loop-d-init c = (omega arith, omega arith, omega arith, omega arith, λ ht hx. refl)

pub loop-d-preserved : goal.loop-d-preserved
loop-d-preserved c =
    let a = c.args in
    let l = c.loop-d in (
      omega arith,
      omega arith,
      omega arith,
      omega arith,
      row_step a.table.now a.x.now a.i l.d l.low l.high _ _ _ _ _
          c.term.ensures c.term-in-loop-d.ensures c.term-in-loop-d-2.ensures c.term-in-loop-d-3.ensures
          c.sum_of_four-four.ensures l.invariant.4,
    )

pub overflow_add-low-2 : goal.overflow_add-low-2
overflow_add-low-2 c = omega (arith, c.product.ensures, high_fits c.loop-d.high c.wide.result (omega arith))

pub overflow_add-low-3 : goal.overflow_add-low-3
overflow_add-low-3 c = omega (arith, c.product.ensures, high_fits c.loop-d.high c.wide.result (omega arith))

pub returns : goal.returns
unfolding row_sum
returns c =
    let l = c.loop-d in
    let a = c.args in
    let whole : l.d ≡ 12 = omega arith in
    row_end a.table.now a.x.now a.i a.c a.m a.q a.r l.low l.high _ _ _ (omega arith) (omega arith) (search rules)
    (c.product.ensures ∙ ap (λ (y : ℕ). low_product l.high y) c.wide.ensures)
    (ap (λ (y : ℕ). l.low + c.product.result + y) c.wide-2.ensures)
    (rw whole at l.invariant.4) (reduced_at c.wide-3.ensures c.wide-4.ensures c.reduce.ensures)
