-- `card::put_no` meets its contract.
-- Assumes nothing.
use mathlib.Core.Path.{◌∙◌, ap}
use lib.ListN.{length}
use Rattle.basics.proofs.Refused.{refusal_small}
use Rattle.basics.specs.Lists.{placed}
use Rattle.card.specs.Answer.{no_text, with_newline}
use Rattle.card.proofs.Bounds.{number_digits}
use Rattle.card.proofs.Texts.{no_written}
use borrow.Author.Rules.{rules}
use Rattle.card.proofs.put_no.Goals as goal

pub put_decimal-number_end-requires : goal.put_decimal-number_end-requires
put_decimal-number_end-requires c =
    let few = number_digits c.from-number.result (rw c.from-number.ensures (refusal_small c.args.refusal)) in
    search rules

pub overflow_add-result : goal.overflow_add-result
overflow_add-result c =
    let few = number_digits c.from-number.result (rw c.from-number.ensures (refusal_small c.args.refusal)) in
    search rules

pub returns : goal.returns
returns c =
    let text = ap (λ (n : _). with_newline (no_text n)) c.from-number.ensures in
    let written =
    no_written _ _ _ _ _ _ (search rules) (rw c.from-number.ensures (refusal_small c.args.refusal))
    c.copy.ensures.1
    c.put_decimal-number_end.ensures
    c.copy-2.ensures.1 in
    (written.0 ∙ ap length text, written.1 ∙ ap (placed c.args.buffer.now 0) text)
