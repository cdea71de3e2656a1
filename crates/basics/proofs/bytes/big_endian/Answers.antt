-- `basics::bytes::big_endian` meets its contract.
-- Assumes nothing.
use mathlib.Core.Path.{◌∙◌}
use Rattle.basics.proofs.Parts.{four_bytes_read}
use Rattle.basics.proofs.bytes.big_endian.Goals as goal

pub returns : goal.returns
returns c = c.from_be_bytes.ensures ∙ four_bytes_read _ _ _ _
