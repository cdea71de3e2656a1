-- `Field::try_from` meets its contract.
-- Assumes nothing.
use Rattle.std.proofs.Common.{rules}
use Rattle.basics.specs.Logic.{when◌then◌else◌, ◌or◌}
use Rattle.field.specs.Field.{is_field, field_of}
use Rattle.field.proofs.FieldTryFromU32.try_from.Goals as goal

pub returns-in-1 : goal.returns-in-1
unfolding is_field field_of ◌or◌ when◌then◌else◌
returns-in-1 c = search rules

pub returns-in-2 : goal.returns-in-2
unfolding is_field field_of ◌or◌ when◌then◌else◌
returns-in-2 c = search rules

pub returns-in_default : goal.returns-in_default
unfolding is_field field_of ◌or◌ when◌then◌else◌
returns-in_default c = search rules
