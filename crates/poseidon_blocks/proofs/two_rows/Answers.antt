-- `poseidon_blocks::two_rows` meets its contract.
-- Assumes nothing.
use Rattle.std.proofs.Common.{◌≡◌, refl, arith, rules}
use Rattle.poseidon_blocks.proofs.Blocks.{sum_start, block_row}
use Rattle.poseidon_blocks.proofs.two_rows.Goals as goal

pub loop-d-init : goal.loop-d-init
loop-d-init c =
    let a = c.args in
    (omega arith, refl, sum_start a.table.now a.first.now 0 a.i, sum_start a.table.now a.last.now 1 a.i, sum_start a.table.now a.sums.now 2 a.i)

pub add_products-a-requires : goal.add_products-a-requires
add_products-a-requires c = (omega arith, search rules, omega arith, c.loop-d.invariant.2)

pub add_products-b-requires : goal.add_products-b-requires
add_products-b-requires c = (omega arith, search rules, omega arith, c.loop-d.invariant.3)

pub add_products-s-requires : goal.add_products-s-requires
add_products-s-requires c = (omega arith, search rules, omega arith, c.loop-d.invariant.4)

pub loop-d-preserved : goal.loop-d-preserved
loop-d-preserved c =
    (omega arith, omega arith, c.add_products-a.ensures, c.add_products-b.ensures, c.add_products-s.ensures)

pub returns : goal.returns
returns c =
    let a = c.args in
    let l = c.loop-d in
    let whole : l.d ≡ 6 = omega arith in
    let shared = rw whole at l.invariant.4 in
    record {
      at_first = block_row a.table.now a.first.now a.sums.now 0 a.i a.c a.m a.q a.r _ _ _ _ _ (rw whole at l.invariant.2) shared c.close.ensures;
      at_last = block_row a.table.now a.last.now a.sums.now 1 a.i a.e a.m a.q a.r _ _ _ _ _ (rw whole at l.invariant.3) shared c.close-2.ensures;
    }
