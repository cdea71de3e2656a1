-- The loop of `poseidon_blocks::multiply`: the rows filled so far, in both halves, are the product's.
use Rattle.std.proofs.Common.{◌+◌, ◌-◌, ◌*◌, ◌%◌, get_or}
use Rattle.poseidon_blocks.specs.Blocks.{MatrixRow}
use Rattle.poseidon_blocks.proofs.Blocks.{FillingHalves}
use Rattle.poseidon_blocks.proofs.multiply.Given as goal

abbrev pub invariant-loop-i : goal.invariant-loop-i
invariant-loop-i l =
    FillingHalves (λ k. MatrixRow l.table l.x (get_or l.addends (24 * (l.addends_row % 11) + k) 0) l.m l.q l.r k) l.out l.i

abbrev pub decreases-loop-i : goal.decreases-loop-i
decreases-loop-i l = 12 - l.i
