-- The loop of `poseidon::rescale`: the places filled so far are rescaled.
use Prim.Native.Nat.{◌+◌}
use lib.ListN.{get_or}
use Rattle.montgomery.specs.Montgomery.{low_product, ReducedAny}
use Rattle.poseidon_rounds.proofs.Places.{Filling}
use Rattle.poseidon.proofs.rescale.Given as goal

abbrev pub invariant-loop-i : goal.invariant-loop-i
invariant-loop-i l = Filling 24 (λ k. ReducedAny (low_product (get_or l.x k 0) l.word + get_or l.addends (120 + k) 0) l.m l.q l.r) l.y-items l.i
