-- `card::put_ok` meets its contract.
-- Assumes nothing.
use Rattle.card.proofs.Bounds.{length_hex, count_digits}
use Rattle.card.proofs.Texts.{ok_written}
use borrow.Author.Rules.{rules}
use Rattle.card.proofs.put_ok.Goals as goal

pub overflow_add-tag_end : goal.overflow_add-tag_end
overflow_add-tag_end c =
    let tag = length_hex c.args.string.now in
    search rules

pub put_decimal-count_end-requires : goal.put_decimal-count_end-requires
put_decimal-count_end-requires c =
    let tag = length_hex c.args.string.now in
    let few = count_digits c.args.permutations c.requires.1 in
    search rules

pub overflow_add-result : goal.overflow_add-result
overflow_add-result c =
    let tag = length_hex c.args.string.now in
    let few = count_digits c.args.permutations c.requires.1 in
    search rules

pub returns : goal.returns
returns c =
    ok_written _ _ _ _ _ _ _ _ _ _ (search rules) c.requires.0 c.requires.1
    c.copy.ensures.1
    c.put_hex-tag_end.ensures
    c.copy-2.ensures.1
    c.put_decimal-count_end.ensures
    c.copy-3.ensures.1
