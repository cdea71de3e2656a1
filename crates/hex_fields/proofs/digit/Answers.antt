-- `hex_fields::digit` meets its contract.
-- Assumes nothing.
use mathlib.Core.Path.{sym}
use Rattle.hex_fields.proofs.Reading.{digit_decimal, digit_letter}
use borrow.Author.Rules.{rules}
use Rattle.hex_fields.proofs.digit.Goals as goal

pub returns-then-code-lt58 : goal.returns-then-code-lt58
returns-then-code-lt58 c = (search rules, sym (digit_decimal _ (search rules)))

pub returns : goal.returns
returns c = (search rules, sym (digit_letter _ (search rules)))
