-- `tag::tail_length` meets its contract.
-- Assumes nothing.
use Rattle.basics.specs.Logic.{when◌then◌else◌}
use Rattle.basics.specs.Digits.{digits}
use Rattle.tag.specs.TagString.{tail_of}
use Rattle.tag.specs.Forms.{form_number}
use Rattle.tag.proofs.tail_length.Goals as goal

pub returns-in-One : goal.returns-in-One
unfolding form_number tail_of when◌then◌else◌
returns-in-One c = rw c.in-One.is

pub returns-in-Two : goal.returns-in-Two
unfolding form_number tail_of when◌then◌else◌ digits
returns-in-Two c = rw c.in-Two.is
