-- `card_machine::middle_step` meets its contract.
-- Assumes nothing.
use mathlib.Core.Path.{sym}
use borrow.Author.Tests.{lt-ltb, le-ltb}
use Rattle.basics.specs.Logic.{when◌then◌else◌}
use Rattle.card_grammar.specs.Machine.{move_of, middle_at}
use Rattle.card_machine.proofs.middle_step.Goals as goal

pub returns-then-place-lt7 : goal.returns-then-place-lt7
unfolding move_of middle_at when◌then◌else◌
returns-then-place-lt7 c = simp (lt-ltb _ _ c.if-place-lt7.true, sym c.byte_at-wanted.ensures) c.expect.ensures

pub returns : goal.returns
unfolding move_of middle_at when◌then◌else◌
returns c = simp (le-ltb _ _ c.if-place-lt7.false, sym c.byte_at-wanted.ensures) c.expect-2.ensures
