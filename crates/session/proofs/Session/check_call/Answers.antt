-- `session::Session::check_call` meets its contract.
-- Assumes nothing.
use mathlib.Core.Path.{◌≡◌, sym, ◌∙◌}
use mathlib.Core.Bool.{true, false}
use Rattle.std.proofs.lemmas.Result.{err_from_is_err_and}
use Rattle.basics.specs.Answers.{number_of, answer_number}
use Rattle.words.specs.Kinds.{absorbs}
use Rattle.progress.specs.Place.{in_pattern}
use Rattle.session.proofs.Answered.{turned_away, handed_on}
use Rattle.session.proofs.Numbers.{OpenSound, record_passes, call_refused, call_empty, call_fits, call_outside}
use Rattle.session.proofs.Session.check_call.Goals as goal
use Rattle.session.proofs.Session.check_call.Goals.{In_ok-check_record}

-- behind the rows about the record
passed : (c : In_ok-check_record) → OpenSound c.args.self.now
unfolding answer_number
passed c = record_passes _ (sym c.in_ok-check_record.ensures)

pub returns-in_err-check_record : goal.returns-in_err-check_record
returns-in_err-check_record c =
    let err = err_from_is_err_and c.from_residual.result c.from_residual.ensures.1 in
    let was = c.in_err-check_record.was in
    handed_on _ _ c.check_record.ensures _ was _ _ err.1 err.2 ∙ sym (call_refused _ _ _ (turned_away _ _ c.check_record.ensures _ was))

pub returns-then-elements-eq0 : goal.returns-then-elements-eq0
unfolding answer_number
returns-then-elements-eq0 c =
    let at = (goal.at.returns-then-elements-eq0 c).In_ok-check_record in
    sym (call_empty _ _ _ (passed at) c.if-elements-eq0.true)

pub returns-then-not-in_pattern : goal.returns-then-not-in_pattern
unfolding answer_number number_of
returns-then-not-in_pattern c =
    let at = (goal.at.returns-then-not-in_pattern c).In_ok-check_record in
    let r = c.args.self.now in
    let outside : in_pattern r.words r.count r.phase r.done (absorbs c.args.kind) c.args.elements ≡ false = cc in
    sym (call_outside _ _ _ (passed at) c.if-elements-eq0.false outside)

pub returns : goal.returns
unfolding answer_number
returns c =
    let at = (goal.at.returns c).In_ok-check_record in
    let r = c.args.self.now in
    let fits : in_pattern r.words r.count r.phase r.done (absorbs c.args.kind) c.args.elements ≡ true = cc in
    sym (call_fits _ _ _ (passed at) c.if-elements-eq0.false fits)
