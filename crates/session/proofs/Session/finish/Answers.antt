-- `session::Session::finish` meets its contract.
-- Assumes nothing.
use mathlib.Core.Path.{sym, ap, ◌∙◌}
use Rattle.basics.specs.Answers.{answer_number}
use Rattle.basics.specs.Numbers.{accepted}
use Rattle.session.specs.Record.{wiped}
use Rattle.session.specs.Calls.{giving, finish}
use Rattle.session.proofs.Numbers.{answer_accepted, refusal_answer}
use Rattle.session.proofs.Session.finish.Goals as goal

pub returns-in-Err : goal.returns-in-Err
unfolding finish
returns-in-Err c = c.refuse.ensures ∙ refusal_answer c.args.self.now wiped _ _ c.check_finish.ensures _ c.in-Err.is

pub returns : goal.returns
unfolding finish answer_number
returns c = ap (giving accepted) c.wiped.ensures ∙ sym (answer_accepted c.args.self.now wiped _ (sym c.in_default.ensures))
