-- `tag::bytes::put_tail` meets its contract.
-- Assumes nothing.
use mathlib.Core.Path.{refl, sym, ap, ◌∙◌}
use native.Mathlib.Omega.{arith}
use Rattle.basics.specs.Lists.{placed}
use Rattle.basics.proofs.Placed.{placed_none}
use Rattle.tag.specs.Forms.{form_number}
use Rattle.tag.proofs.Forms.{low_digits, tail_2, tail_2_long, tail_1}
use Rattle.tag.proofs.bytes.put_tail.Goals as goal

pub put_word-requires : goal.put_word-requires
unfolding form_number
put_word-requires c = omega (arith, rw c.in-Two.is at c.requires, tail_2_long 2 refl c.args.separator_length)

pub returns-in-Two : goal.returns-in-Two
unfolding form_number
returns-in-Two c =
    let args = c.args in
    let n = args.separator_length in
    rw c.in-Two.is (c.put_word.ensures ∙ ap (placed args.buffer.now args.at) (low_digits n ∙ sym (tail_2 2 refl n)))

pub returns-in-One : goal.returns-in-One
unfolding form_number
returns-in-One c =
    let args = c.args in
    rw c.in-One.is
    (sym (ap (placed args.buffer.now args.at) (tail_1 1 refl args.separator_length) ∙ placed_none args.buffer.now args.at))
