-- The loop of `poseidon_blocks::two_rows`: three sums of products, as far as the diagonals so far.
use Rattle.std.proofs.Common.{◌≡◌, ◌-◌, ◌%◌, ◌≤◌}
use Rattle.poseidon_blocks.specs.Blocks.{PartialSum}
use Rattle.poseidon_blocks.proofs.two_rows.Given as goal

abbrev pub invariant-loop-d : goal.invariant-loop-d
invariant-loop-d l =
    (l.d ≤ 6)
    × (l.d % 2 ≡ 0)
    × PartialSum l.table l.first 0 l.i l.d l.a.low l.a.high
    × PartialSum l.table l.last 1 l.i l.d l.b.low l.b.high
    × PartialSum l.table l.sums 2 l.i l.d l.s.low l.s.high

abbrev pub decreases-loop-d : goal.decreases-loop-d
decreases-loop-d l = 6 - l.d
