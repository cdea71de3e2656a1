-- `field::field_of` meets its contract.
-- Assumes nothing.
use Rattle.std.proofs.Common.{rules}
use Rattle.basics.specs.Logic.{when◌then◌else◌, ◌or◌}
use Rattle.field.specs.Field.{is_field, field_of}
use Rattle.field.proofs.field_of.Goals as goal

pub returns : goal.returns
unfolding is_field field_of ◌or◌ when◌then◌else◌
returns c = search rules
