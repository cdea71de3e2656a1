-- `card_machine::calls_step` meets its contract.
-- Assumes nothing.
use borrow.Author.Tests.{eq-eqb, ne_eqb}
use Rattle.basics.specs.Logic.{when◌then◌else◌}
use Rattle.card_grammar.specs.Machine.{move_of}
use Rattle.card_machine.proofs.calls_step.Goals as goal

pub returns-then-byte-eq32 : goal.returns-then-byte-eq32
unfolding move_of when◌then◌else◌
returns-then-byte-eq32 c = simp (eq-eqb _ _ c.if-byte-eq32.true)

pub returns : goal.returns
unfolding move_of when◌then◌else◌
returns c = simp (ne_eqb _ _ c.if-byte-eq32.false) c.expect.ensures
