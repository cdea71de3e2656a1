-- `card_machine::expect` meets its contract.
-- Assumes nothing.
use borrow.Author.Tests.{eq-eqb, ne_eqb}
use Rattle.basics.specs.Logic.{when◌then◌else◌}
use Rattle.card_grammar.specs.Machine.{expected}
use Rattle.card_machine.proofs.expect.Goals as goal

pub returns-then-byte-wanted : goal.returns-then-byte-wanted
unfolding expected when◌then◌else◌
returns-then-byte-wanted c = simp (eq-eqb _ _ c.if-byte-wanted.true)

pub returns-else-byte-wanted : goal.returns-else-byte-wanted
unfolding expected when◌then◌else◌
returns-else-byte-wanted c = simp (ne_eqb _ _ c.if-byte-wanted.false)
