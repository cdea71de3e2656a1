-- `poseidon_partial::next_first` meets its contract.
-- Assumes nothing.
use Rattle.std.proofs.Common.{ℕ, ◌+◌, ap, ◌∙◌, arith, rules}
use Rattle.montgomery.specs.Montgomery.{low_product, folded}
use Rattle.montgomery.proofs.Reduction.{reduced_at}
use Rattle.poseidon_partial.proofs.Partial.{next_first, rest_fits, fold_fits_all}
use Rattle.poseidon_partial.proofs.next_first.Goals as goal

pub overflow_add-folded : goal.overflow_add-folded
overflow_add-folded c = omega (arith, c.fold-folded.ensures, fold_fits_all c.product.result c.wide-2.result (search rules))

pub overflow_add-folded-2 : goal.overflow_add-folded-2
overflow_add-folded-2 c = omega (arith, c.fold-folded.ensures, fold_fits_all c.product.result c.wide-2.result (search rules), c.product-rest.ensures, rest_fits c.args.high c.wide-3.result c.requires.1)

pub overflow_add-folded-3 : goal.overflow_add-folded-3
overflow_add-folded-3 c = omega (arith, c.fold-folded.ensures, fold_fits_all c.product.result c.wide-2.result (search rules), c.product-rest.ensures, rest_fits c.args.high c.wide-3.result c.requires.1)

pub overflow_cast-result : goal.overflow_cast-result
overflow_cast-result c = omega (arith, c.reduce.ensures.narrow)

pub returns : goal.returns
returns c =
    let a = c.args in
    next_first a.y a.first_entry a.low a.high a.c a.m a.q a.r _ _ _ _ _ c.requires.0 c.requires.1 (search rules) (search rules)
    (c.product.ensures ∙ ap (λ (x : ℕ). low_product a.y x) c.wide.ensures)
    (c.fold-folded.ensures ∙ ap (λ (x : ℕ). folded c.product.result x) c.wide-2.ensures)
    (c.product-rest.ensures ∙ ap (λ (x : ℕ). low_product a.high x) c.wide-3.ensures)
    (ap (λ (x : ℕ). c.fold-folded.result + a.low + c.product-rest.result + x) c.wide-4.ensures)
    (reduced_at c.wide-5.ensures c.wide-6.ensures c.reduce.ensures)
