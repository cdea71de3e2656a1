-- `card_machine::half_step` meets its contract.
-- Assumes nothing.
use mathlib.Core.Path.{sym}
use borrow.Author.Tests.{lt-ltb, le-ltb}
use Rattle.basics.specs.Logic.{when◌then◌else◌}
use Rattle.card_grammar.specs.Machine.{move_of}
use Rattle.card_machine.proofs.half_step.Goals as goal

pub returns-in-Some : goal.returns-in-Some
unfolding move_of when◌then◌else◌
returns-in-Some c = simp (sym c.in-Some.ensures.1, lt-ltb _ _ c.in-Some.ensures.0, lt-ltb _ _ c.if-high-lt16.true, c.from.ensures)

pub returns-in_default : goal.returns-in_default
unfolding move_of when◌then◌else◌
returns-in_default c = simp (sym c.in-Some.ensures.1, lt-ltb _ _ c.in-Some.ensures.0, le-ltb _ _ c.if-high-lt16.false)

pub returns-in_default-2 : goal.returns-in_default-2
unfolding move_of when◌then◌else◌
returns-in_default-2 c = simp c.in_default.ensures
