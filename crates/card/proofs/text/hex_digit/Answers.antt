-- `card::text::hex_digit` meets its contract.
-- Assumes nothing.
use mathlib.Core.Path.{sym}
use borrow.Author.Tests.{lt-ltb, le-ltb}
use Rattle.basics.proofs.Cases.{if_true, if_false}
use Rattle.card_grammar.specs.Text.{hex_digit}
use Rattle.card.proofs.text.hex_digit.Goals as goal

pub returns-then-digit-lt10 : goal.returns-then-digit-lt10
unfolding hex_digit
returns-then-digit-lt10 c = sym (if_true _ _ _ (lt-ltb _ 10 c.if-digit-lt10.true))

pub returns-else-digit-lt10 : goal.returns-else-digit-lt10
unfolding hex_digit
returns-else-digit-lt10 c = sym (if_false _ _ _ (le-ltb _ 10 c.if-digit-lt10.false))
