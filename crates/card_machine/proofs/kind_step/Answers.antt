-- `card_machine::kind_step` meets its contract.
-- Assumes nothing.
use borrow.Author.Tests.{eq-eqb, ne_eqb}
use Rattle.basics.specs.Logic.{when◌then◌else◌}
use Rattle.card_grammar.specs.Machine.{move_of}
use Rattle.card_machine.proofs.kind_step.Goals as goal

pub returns-then-byte-eq97 : goal.returns-then-byte-eq97
unfolding move_of when◌then◌else◌
returns-then-byte-eq97 c = simp (eq-eqb _ _ c.if-byte-eq97.true)

pub returns : goal.returns
unfolding move_of when◌then◌else◌
returns c = simp (ne_eqb _ _ c.if-byte-eq97.false) c.expect.ensures
