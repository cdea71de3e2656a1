-- `poseidon_blocks::lowered` meets its contract.
-- Assumes nothing.
use Rattle.poseidon_blocks.proofs.Blocks.{lowered}
use Rattle.std.proofs.Common.{rules}
use Rattle.poseidon_blocks.proofs.lowered.Goals as goal

pub returns : goal.returns
returns c =
    let a = c.args in
    lowered a.a a.b a.m _ _ _ _ c.wide.ensures c.wrapping_add_u64-sum.ensures.value c.product.ensures
    c.wrapping_sub_u64.ensures.value (search rules)
