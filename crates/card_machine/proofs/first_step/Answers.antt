-- `card_machine::first_step` meets its contract.
-- Assumes nothing.
use mathlib.Core.Path.{sym}
use borrow.Author.Tests.{lt-ltb}
use Rattle.basics.specs.Logic.{when◌then◌else◌}
use Rattle.card_grammar.specs.Machine.{move_of}
use Rattle.card_machine.proofs.first_step.Goals as goal

pub returns-in-Some : goal.returns-in-Some
unfolding move_of when◌then◌else◌
returns-in-Some c = simp (sym c.in-Some.ensures.1, lt-ltb _ _ c.in-Some.ensures.0, c.from.ensures)

pub returns-in-None : goal.returns-in-None
unfolding move_of when◌then◌else◌
returns-in-None c = simp c.in-None.ensures
