-- `poseidon_partial::next_elements` meets its contract.
-- Assumes nothing.
use Rattle.std.proofs.Common.{ℕ, ◌+◌, ◌*◌, ◌%◌, get_or, ap, ◌∙◌, subst, arith, rules}
use Rattle.montgomery.specs.Montgomery.{low_product}
use Rattle.poseidon_partial.specs.Partial.{NextElement}
use Rattle.poseidon_partial.proofs.Partial.{spreading_start, spreading_step, spreading_end}
use Rattle.poseidon_partial.proofs.next_elements.Goals as goal

pub loop-i-init : goal.loop-i-init
loop-i-init c = spreading_start c.requires

pub loop-i-preserved : goal.loop-i-preserved
loop-i-preserved c =
    let l = c.loop-i in
    let i = l.i in
    let a = c.args in
    let at = 48 * (a.round % 24) in
    let e = c.next_element-w.result in
    let d : NextElement (get_or a.sparse.now (at + 2 * i) 0) (get_or a.v.now i 0) a.y a.m a.q e =
    subst (λ (x : ℕ). NextElement (get_or a.sparse.now (at + 2 * i) 0) x a.y a.m a.q e) (l.invariant.rest i (omega arith)) c.next_element-w.ensures in
    spreading_step e c.product-product.result _ l.invariant (omega arith) d
    (c.product-product.ensures ∙ ap (λ (x : ℕ). low_product x e) c.wide.ensures) (search rules)
    c.wrapping_add_u64-sum.ensures.value

pub returns : goal.returns
returns c = spreading_end _ c.loop-i.invariant (omega arith) c.low_part.ensures
