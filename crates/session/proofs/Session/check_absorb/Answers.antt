-- `session::Session::check_absorb` meets its contract.
-- Assumes nothing.
use mathlib.Core.Path.{◌≡◌, sym, ◌∙◌}
use mathlib.Core.Bool.{true, false}
use lib.ListN.{length}
use Rattle.std.proofs.lemmas.Result.{err_from_is_err_and}
use Rattle.basics.specs.Answers.{number_of, answer_number}
use Rattle.basics.specs.Logic.{all}
use Rattle.field.specs.Field.{is_element}
use Rattle.words.specs.Kinds.{absorbs}
use Rattle.session.specs.Record.{field_in}
use Rattle.session.proofs.Answered.{turned_away, handed_on}
use Rattle.session.proofs.Numbers.{Takes, call_takes, absorb_refused, absorb_unreduced, absorb_passes}
use Rattle.session.proofs.Session.check_absorb.Goals as goal
use Rattle.session.proofs.Session.check_absorb.Goals.{In_ok-check_call}

-- behind the rows of the call
takes : (c : In_ok-check_call) → Takes c.args.self.now true (length c.args.input.now)
unfolding answer_number absorbs
takes c = call_takes _ _ _ (sym c.in_ok-check_call.ensures)

pub returns-in_err-check_call : goal.returns-in_err-check_call
unfolding absorbs
returns-in_err-check_call c =
    let err = err_from_is_err_and c.from_residual.result c.from_residual.ensures.1 in
    let was = c.in_err-check_call.was in
    handed_on _ _ c.check_call.ensures _ was _ _ err.1 err.2 ∙ sym (absorb_refused _ _ (turned_away _ _ c.check_call.ensures _ was))

pub returns-then-not-is_reduced : goal.returns-then-not-is_reduced
unfolding answer_number number_of
returns-then-not-is_reduced c =
    let at = (goal.at.returns-then-not-is_reduced c).In_ok-check_call in
    let unreduced : all (is_element (field_in c.args.self.now)) c.args.input.now ≡ false = cc in
    sym (absorb_unreduced _ _ (takes at) unreduced)

pub returns : goal.returns
unfolding answer_number
returns c =
    let at = (goal.at.returns c).In_ok-check_call in
    let reduced : all (is_element (field_in c.args.self.now)) c.args.input.now ≡ true = cc in
    sym (absorb_passes _ _ (takes at) reduced)
