-- `poseidon_partial::low_part` meets its contract.
-- Assumes nothing.
use Rattle.poseidon_partial.proofs.Partial.{low_part}
use Rattle.std.proofs.Common.{rules}
use Rattle.poseidon_partial.proofs.low_part.Goals as goal

pub returns : goal.returns
returns c =
    let a = c.args in
    low_part a.sum a.high _ (search rules) c.wrapping_sub_u64.ensures.value
