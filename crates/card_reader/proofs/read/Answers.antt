-- `card_reader::read` meets its contract.
-- Assumes nothing.
use mathlib.Core.Path.{sym, ap}
use native.Mathlib.Omega.{arith}
use Rattle.card_reader.specs.Answers.{card_given}
use Rattle.card_reader.specs.Reading.{reading}
use Rattle.card_grammar.proofs.Laws.{long_none}
use Rattle.card_reader.proofs.read.Goals as goal

pub returns-then-line-gt-MAX_LINE : goal.returns-then-line-gt-MAX_LINE
unfolding card_given
returns-then-line-gt-MAX_LINE c = ap reading (sym (long_none _ (omega (arith, c.if-line-gt-MAX_LINE.true))))
