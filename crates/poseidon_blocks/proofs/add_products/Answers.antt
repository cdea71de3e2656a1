-- `poseidon_blocks::add_products` meets its contract.
-- Assumes nothing.
use Rattle.std.proofs.Common.{rules}
use Rattle.poseidon_blocks.proofs.Blocks.{sum_step}
use Rattle.poseidon_blocks.proofs.add_products.Goals as goal

pub returns : goal.returns
returns c =
    let a = c.args in
    sum_step a.table.now a.x.now a.block a.i a.d a.sum.low a.sum.high _ _ _ _ _
    c.term.ensures c.term-2.ensures
    c.term-3.ensures c.term-4.ensures c.sum_of_four-four.ensures (search rules)
    c.requires.3
