-- `card_machine::start_step` meets its contract.
-- Assumes nothing.
use mathlib.Core.Path.{refl, sym}
use borrow.Author.Tests.{lt-ltb, eq-eqb, ne_eqb}
use Rattle.basics.specs.Logic.{when◌then◌else◌}
use Rattle.card_grammar.specs.Machine.{move_of}
use Rattle.card_machine.proofs.start_step.Goals as goal

pub returns-then-byte-eq48 : goal.returns-then-byte-eq48
unfolding move_of when◌then◌else◌
returns-then-byte-eq48 c = simp (eq-eqb _ _ c.if-byte-eq48.true) refl

pub returns-in-Some : goal.returns-in-Some
unfolding move_of when◌then◌else◌
returns-in-Some c = simp (ne_eqb _ _ c.if-byte-eq48.false, sym c.in-Some.ensures.1, lt-ltb _ _ c.in-Some.ensures.0, c.from.ensures)

pub returns-in-None : goal.returns-in-None
unfolding move_of when◌then◌else◌
returns-in-None c = simp (ne_eqb _ _ c.if-byte-eq48.false, c.in-None.ensures)
