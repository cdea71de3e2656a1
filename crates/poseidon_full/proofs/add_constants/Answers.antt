-- `poseidon_full::add_constants` meets its contract.
-- Assumes nothing.
use Rattle.std.proofs.Common.{sym, refl, ◌∙◌, mod-eq_of_lt, arith}
use Rattle.poseidon_rounds.proofs.Places.{start, step, end}
use Rattle.poseidon_rounds.proofs.PlainSums.{plain_sum_at}
use Rattle.poseidon_full.proofs.add_constants.Goals as goal

pub loop-i-init : goal.loop-i-init
loop-i-init c = start refl

pub loop-i-preserved : goal.loop-i-preserved
loop-i-preserved c =
    step _ c.loop-i.invariant (omega arith)
    (λ h.
    let at = plain_sum_at _ _ _ _ (omega arith) in
    c.wrapping_add_u32.ensures.value ∙ mod-eq_of_lt (omega (arith, at, h)) ∙ sym at)

pub returns : goal.returns
returns c = end c.loop-i.invariant (omega arith)
