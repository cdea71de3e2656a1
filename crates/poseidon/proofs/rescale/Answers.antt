-- `poseidon::rescale` meets its contract.
-- Assumes nothing.
use mathlib.Core.Path.{◌≡◌, ◌∙◌, ap₂, refl, subst}
use Prim.Native.Nat.{ℕ, ◌+◌}
use native.Mathlib.Omega.{arith}
use lib.ListN.{get_or}
use Rattle.montgomery.specs.Montgomery.{low_product, ReducedAny}
use Rattle.montgomery.proofs.Reduction.{reduced_any_at}
use Rattle.poseidon_rounds.proofs.Places.{start, step, end}
use Rattle.poseidon.proofs.Whole.{product_room}
use Rattle.poseidon.proofs.rescale.Goals as goal

pub loop-i-init : goal.loop-i-init
loop-i-init c = start refl

pub overflow_add-sum : goal.overflow_add-sum
overflow_add-sum c = omega (arith, c.product.ensures, product_room c.from.result c.from-in-loop-i.result, c.from-in-loop-i-2.ensures, c.fits-addends (120 + c.loop-i.i))

pub overflow_cast-y : goal.overflow_cast-y
overflow_cast-y c = omega (arith, c.reduce_any.ensures.narrow)

pub loop-i-preserved : goal.loop-i-preserved
loop-i-preserved c =
    let a = c.args in
    let i = c.loop-i.i in
    let e : c.product.result + c.from-in-loop-i-2.result ≡ low_product (get_or a.x.now i 0) a.word + get_or a.addends.now (120 + i) 0 =
    ap₂ (λ (y z : ℕ). y + z)
    (c.product.ensures ∙ ap₂ (λ (y z : ℕ). low_product y z) c.from.ensures c.from-in-loop-i.ensures)
    c.from-in-loop-i-2.ensures in
    step _ c.loop-i.invariant (omega arith)
    (subst (λ (y : ℕ). ReducedAny y a.m a.q a.r c.reduce_any.result) e
    (reduced_any_at c.from-in-loop-i-3.ensures c.from-in-loop-i-4.ensures c.from-in-loop-i-5.ensures c.reduce_any.ensures))

pub returns : goal.returns
returns c = end c.loop-i.invariant (omega arith)
