-- `tag_reader::split_tail` meets its contract.
-- Assumes nothing.
use mathlib.Core.Path.{◌≡◌, refl, sym, ap, ◌∙◌}
use Prim.Native.Nat.{◌≤◌}
use native.Mathlib.Omega.{arith}
use borrow.Author.Tests.{lt-ltb, le-ltb}
use lib.ListN.{length}
use Rattle.std.specs.Int.{w32, from_be_bytes}
use Rattle.std.proofs.lemmas.Option.{MatchOption-at_some, MatchOption-at_none}
use Rattle.std.proofs.lemmas.Result.{err_from_is_err_and}
use Rattle.basics.specs.declared.Refusal.TheVariants.{NotTagString}
use Rattle.basics.proofs.Cases.{and_stop, and_step}
use Rattle.tag.specs.TagString.{tail_missing}
use Rattle.tag.specs.Forms.{form_number}
use Rattle.tag.proofs.Forms.{body_1, length_in_1, body_2, length_in_2}
use Rattle.tag_reader.proofs.Chunks.{tail_read}
use Rattle.tag_reader.proofs.split_tail.Goals as goal

pub returns-in-One : goal.returns-in-One
unfolding form_number tail_missing
returns-in-One c =
    let s = c.args.string.now in
    rw c.in-One.is (and_stop _ _ refl, sym (body_1 1 refl s), sym (length_in_1 1 refl s c.args.separator_length))

pub returns-in_err-body-in-Two : goal.returns-in_err-body-in-Two
unfolding form_number tail_missing
returns-in_err-body-in-Two c =
    let none = c.in_err-body-in-Two.ensures in
    let short = MatchOption-at_none _ _ none.ok_part c.split_last_chunk.ensures.cases in
    let err = err_from_is_err_and c.from_residual.result c.from_residual.ensures.1 in
    let value = rw none.ok_part at none.value in
    let refusal : c.in_err-body-in-Two.field-0.0 ≡ NotTagString = cc in
    rw (c.in-Two.is, err.1) (and_step _ _ refl ∙ lt-ltb (length c.args.string.now) 4 short, err.2 ∙ refusal)

pub returns-in_ok-body-in-Two : goal.returns-in_ok-body-in-Two
unfolding form_number tail_missing
returns-in_ok-body-in-Two c =
    let s = c.args.string.now in
    let (body, tail, long) = MatchOption-at_some _ _ _ c.in_ok-body-in-Two.ensures.ok_part c.split_last_chunk.ensures.cases in
    let four : 4 ≤ length s = omega (arith, long) in
    rw c.in-Two.is (
      and_step _ _ refl ∙ le-ltb (length s) 4 four,
      body ∙ sym (body_2 2 refl s),
      c.from_be_bytes.ensures
          ∙ ap (from_be_bytes w32) tail
          ∙ tail_read s four
          ∙ sym (length_in_2 2 refl s c.args.separator_length),
    )
