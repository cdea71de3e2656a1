-- `card_machine::step` meets its contract.
-- Assumes nothing.
use mathlib.Core.Path.{refl}
use Rattle.card_grammar.specs.Machine.{move_of}
use Rattle.card_machine.proofs.step.Goals as goal

pub returns-in-Head : goal.returns-in-Head
returns-in-Head c = rw c.in-Head.is c.head_step.ensures

pub returns-in-Domain : goal.returns-in-Domain
returns-in-Domain c = rw c.in-Domain.is c.domain_step.ensures

pub returns-in-First : goal.returns-in-First
returns-in-First c = rw c.in-First.is c.first_step.ensures

pub returns-in-Half : goal.returns-in-Half
returns-in-Half c = rw c.in-Half.is c.half_step.ensures

pub returns-in-More : goal.returns-in-More
returns-in-More c = rw c.in-More.is c.more_step.ensures

pub returns-in-Middle : goal.returns-in-Middle
returns-in-Middle c = rw c.in-Middle.is c.middle_step.ensures

pub returns-in-Calls : goal.returns-in-Calls
returns-in-Calls c = rw c.in-Calls.is c.calls_step.ensures

pub returns-in-Open : goal.returns-in-Open
unfolding move_of
returns-in-Open c = rw c.in-Open.is c.expect.ensures

pub returns-in-Kind : goal.returns-in-Kind
returns-in-Kind c = rw c.in-Kind.is c.kind_step.ensures

pub returns-in-Space : goal.returns-in-Space
unfolding move_of
returns-in-Space c = rw c.in-Space.is c.expect-in-Space.ensures

pub returns-in-Start : goal.returns-in-Start
returns-in-Start c = rw c.in-Start.is c.start_step.ensures

pub returns-in-Zero : goal.returns-in-Zero
returns-in-Zero c = rw c.in-Zero.is c.zero_step.ensures

pub returns-in-Length : goal.returns-in-Length
returns-in-Length c = rw c.in-Length.is c.length_step.ensures

pub returns-in-Close : goal.returns-in-Close
unfolding move_of
returns-in-Close c = rw c.in-Close.is c.expect-in-Close.ensures

pub returns-in-End : goal.returns-in-End
unfolding move_of
returns-in-End c = rw c.in-End.is refl

pub returns-in-Dead : goal.returns-in-Dead
unfolding move_of
returns-in-Dead c = rw c.in-Dead.is
