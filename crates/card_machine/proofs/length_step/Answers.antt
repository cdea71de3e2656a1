-- `card_machine::length_step` meets its contract.
-- Assumes nothing.
use mathlib.Core.Path.{sym}
use borrow.Author.Tests.{lt-ltb, le-leb, lt-leb, eq-eqb, ne_eqb}
use Rattle.basics.specs.Logic.{when◌then◌else◌}
use Rattle.card_grammar.specs.Machine.{move_of}
use Rattle.card_machine.proofs.Values.{not_below}
use Rattle.card_machine.proofs.length_step.Goals as goal

pub returns-in-Some : goal.returns-in-Some
unfolding move_of when◌then◌else◌
returns-in-Some c = simp (eq-eqb _ _ c.if-byte-eq41.true, lt-ltb _ 4294967296 c.in-Some.ensures.0, c.in-Some.ensures.1)

pub returns-in-None : goal.returns-in-None
unfolding move_of when◌then◌else◌
returns-in-None c = simp (eq-eqb _ _ c.if-byte-eq41.true, not_below _ 4294967296 c.in-None.ensures)

pub returns-in_default : goal.returns-in_default
unfolding move_of when◌then◌else◌
returns-in_default c = simp (ne_eqb _ _ c.if-byte-eq41.false, c.in_default.ensures)

pub returns-then-longer-le2147483647 : goal.returns-then-longer-le2147483647
unfolding move_of when◌then◌else◌
returns-then-longer-le2147483647 c =
    let longer = rw (c.from.ensures, c.from-2.ensures) at c.if-longer-le2147483647.true in
    simp (
      ne_eqb _ _ c.if-byte-eq41.false,
      sym c.in-Some-decimal_value.ensures.1,
      lt-ltb _ _ c.in-Some-decimal_value.ensures.0,
      le-leb _ 2147483647 longer,
      c.from.ensures,
      c.from-2.ensures,
    )

pub returns-else-longer-le2147483647 : goal.returns-else-longer-le2147483647
unfolding move_of when◌then◌else◌
returns-else-longer-le2147483647 c =
    let longer = rw (c.from.ensures, c.from-2.ensures) at c.if-longer-le2147483647.false in
    simp (
      ne_eqb _ _ c.if-byte-eq41.false,
      sym c.in-Some-decimal_value.ensures.1,
      lt-ltb _ _ c.in-Some-decimal_value.ensures.0,
      lt-leb _ 2147483647 longer,
    )
