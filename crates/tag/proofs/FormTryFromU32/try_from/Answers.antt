-- `tag::Form::try_from` meets its contract.
-- Assumes nothing.
use borrow.Author.Rules.{rules}
use Rattle.basics.specs.Logic.{◌or◌}
use Rattle.tag.specs.TagString.{is_form}
use Rattle.tag.specs.Forms.{form_number}
use Rattle.tag.proofs.FormTryFromU32.try_from.Goals as goal

pub returns-in-1 : goal.returns-in-1
unfolding form_number
returns-in-1 c = search rules

pub returns-in-2 : goal.returns-in-2
unfolding form_number
returns-in-2 c = search rules

pub returns-in_default : goal.returns-in_default
unfolding is_form ◌or◌
returns-in_default c = search rules
