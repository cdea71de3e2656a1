-- `hex_fields::byte` meets its contract.
-- Assumes nothing.
use Rattle.hex_fields.specs.Fields.{pair_byte}
use borrow.Author.Rules.{rules}
use Rattle.hex_fields.proofs.byte.Goals as goal

pub returns : goal.returns
unfolding pair_byte
returns c = search rules
