-- `card_machine::head_step` meets its contract.
-- Assumes nothing.
use mathlib.Core.Path.{sym}
use borrow.Author.Tests.{lt-ltb, le-ltb}
use Rattle.basics.specs.Logic.{when◌then◌else◌}
use Rattle.card_grammar.specs.Machine.{move_of, head_at}
use Rattle.card_machine.proofs.head_step.Goals as goal

pub returns-then-place-lt12 : goal.returns-then-place-lt12
unfolding move_of head_at when◌then◌else◌
returns-then-place-lt12 c = simp (lt-ltb _ _ c.if-place-lt12.true, sym c.byte_at-wanted.ensures) c.expect.ensures

pub returns : goal.returns
unfolding move_of head_at when◌then◌else◌
returns c = simp (le-ltb _ _ c.if-place-lt12.false, sym c.byte_at-wanted.ensures) c.expect-2.ensures
