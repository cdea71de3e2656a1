-- `sha3::last_block` meets its contract.
-- Assumes nothing.
use Rattle.sha3.proofs.Padding.{marked}
use Rattle.sha3.proofs.last_block.Goals as goal

pub returns : goal.returns
returns c = marked c.args.rest.now _ c.requires c.copy_from_slice.ensures.after
