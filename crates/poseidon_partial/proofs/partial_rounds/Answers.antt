-- `poseidon_partial::partial_rounds` meets its contract.
-- Assumes nothing.
use Rattle.std.proofs.Common.{refl, arith}
use Rattle.montgomery.proofs.Powers.{raised_small_at}
use Rattle.poseidon_partial.proofs.Partial.{going_start, going_step, going_end}
use Rattle.poseidon_partial.proofs.partial_rounds.Goals as goal

pub next_elements-s-requires : goal.next_elements-s-requires
next_elements-s-requires c = c.widened-v.ensures.long

pub loop-k-init : goal.loop-k-init
loop-k-init c = going_start refl c.widened-v.ensures c.next_elements-s.ensures

pub next_first-x-requires : goal.next_first-x-requires
next_first-x-requires c = (c.loop-k.invariant.low_le, c.loop-k.invariant.high_le)

pub next_elements-s-requires-in-loop-k : goal.next_elements-s-requires-in-loop-k
next_elements-s-requires-in-loop-k c = c.loop-k.invariant.long

pub loop-k-preserved : goal.loop-k-preserved
loop-k-preserved c =
    going_step _ _ _ _ _ (omega (arith, c.loop-k-test)) c.loop-k.invariant
    (raised_small_at c.wide.ensures c.wide-in-loop-k.ensures c.wide-in-loop-k-2.ensures c.wide-in-loop-k-3.ensures c.power-y.ensures)
    c.next_first-x.ensures c.next_elements-s-in-loop-k.ensures

pub returns : goal.returns
returns c = going_end (omega arith) c.loop-k.invariant c.narrowed.ensures
