-- `tag::is_form` meets its contract.
-- Assumes nothing.
use mathlib.Core.Path.{◌∙◌}
use Rattle.tag.proofs.Named.{named_ok}
use Rattle.tag.proofs.is_form.Goals as goal

pub returns : goal.returns
returns c = c.is_ok.ensures.value ∙ named_ok c.args.number c.try_from.result c.try_from.ensures
