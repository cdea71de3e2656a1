-- `tag::bytes::put_word` meets its contract.
-- Assumes nothing.
use mathlib.Core.Path.{ap, ◌∙◌}
use native.Mathlib.Omega.{arith}
use borrow.Rule.Slice.PartMut.{put_mid}
use Prim.Native.Nat.{◌+◌, ◌-◌}
use Rattle.basics.specs.Digits.{digits}
use Rattle.basics.proofs.Positional.{length_digits}
use Rattle.tag.proofs.WordBytes.{part_copied, bytes_of_word}
use Rattle.tag.proofs.bytes.put_word.Goals as goal

pub returns : goal.returns
returns c =
    let at = c.args.at in
    let copied = c.copy_from_slice.ensures.after ∙ c.to_be_bytes.ensures ∙ bytes_of_word c.args.word in
    let long = length_digits 256 4 c.args.word in
    ap (put_mid at (at + 4 - at) c.args.buffer.now) copied
    ∙ part_copied c.args.buffer.now (digits 256 4 c.args.word) at (at + 4 - at) (omega (arith, long))
