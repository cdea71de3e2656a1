-- `card_machine::more_step` meets its contract.
-- Assumes nothing.
use borrow.Author.Tests.{eq-eqb, ne_eqb}
use Rattle.basics.specs.Logic.{when◌then◌else◌}
use Rattle.card_grammar.specs.Machine.{move_of}
use Rattle.card_machine.proofs.more_step.Goals as goal

pub returns-then-byte-eq41 : goal.returns-then-byte-eq41
unfolding move_of when◌then◌else◌
returns-then-byte-eq41 c = simp (eq-eqb _ _ c.if-byte-eq41.true)

pub returns : goal.returns
unfolding move_of when◌then◌else◌
returns c = simp (ne_eqb _ _ c.if-byte-eq41.false) c.first_step.ensures
