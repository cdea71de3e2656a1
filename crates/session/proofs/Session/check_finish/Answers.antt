-- `session::Session::check_finish` meets its contract.
-- Assumes nothing.
use mathlib.Core.Path.{sym, ◌∙◌}
use Rattle.std.proofs.lemmas.Result.{err_from_is_err_and}
use Rattle.basics.specs.Answers.{number_of, answer_number}
use Rattle.session.proofs.Answered.{turned_away, handed_on}
use Rattle.session.proofs.Numbers.{OpenSound, record_passes, finish_refused, finish_early, finish_passes}
use Rattle.session.proofs.Session.check_finish.Goals as goal
use Rattle.session.proofs.Session.check_finish.Goals.{In_ok-check_record}

-- behind the rows about the record
passed : (c : In_ok-check_record) → OpenSound c.args.self.now
unfolding answer_number
passed c = record_passes _ (sym c.in_ok-check_record.ensures)

pub returns-in_err-check_record : goal.returns-in_err-check_record
returns-in_err-check_record c =
    let err = err_from_is_err_and c.from_residual.result c.from_residual.ensures.1 in
    let was = c.in_err-check_record.was in
    handed_on _ _ c.check_record.ensures _ was _ _ err.1 err.2 ∙ sym (finish_refused _ (turned_away _ _ c.check_record.ensures _ was))

pub returns-then-self : goal.returns-then-self
unfolding answer_number number_of
returns-then-self c =
    let at = (goal.at.returns-then-self c).In_ok-check_record in
    sym (finish_early _ (passed at) c.if-self.true)

pub returns : goal.returns
unfolding answer_number
returns c =
    let at = (goal.at.returns c).In_ok-check_record in
    sym (finish_passes _ (passed at) c.if-self.false)
