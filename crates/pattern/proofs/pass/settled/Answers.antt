-- `pattern::pass::settled` meets its contract.
-- Assumes nothing.
use mathlib.Core.Path.{sym, ap, ap₂, ◌∙◌}
use Rattle.basics.specs.Answers.{answer_number}
use Rattle.pattern.specs.Pass.{earlier}
use Rattle.pattern.specs.Steps.{refusal_number}
use Rattle.pattern.proofs.FromPass.{earlier_of_none}
use Rattle.pattern.proofs.pass.settled.Goals as goal

pub returns-in_default-clause-number : goal.returns-in_default-clause-number
unfolding refusal_number
returns-in_default-clause-number c = sym (ap (λ e. earlier (answer_number c.args.held) (refusal_number e)) c.in_default.is ∙ (earlier_of_none _).0)

pub returns-in-Ok-clause-number : goal.returns-in-Ok-clause-number
unfolding answer_number refusal_number
returns-in-Ok-clause-number c = sym (ap₂ (λ h e. earlier (answer_number h) (refusal_number e)) c.in-Ok.is c.in-Some.is ∙ (earlier_of_none _).1)

pub returns-in-Err-clause-number : goal.returns-in-Err-clause-number
unfolding answer_number refusal_number
returns-in-Err-clause-number c = c.earlier_of.ensures ∙ sym (ap₂ (λ h e. earlier (answer_number h) (refusal_number e)) c.in-Err.is c.in-Some.is)
