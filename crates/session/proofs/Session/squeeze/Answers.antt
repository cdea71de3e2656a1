-- `session::Session::squeeze` meets its contract.
-- Assumes nothing.
use mathlib.Core.Path.{◌≡◌, sym, ap, ap₂, ◌∙◌}
use mathlib.Core.Bool.{false}
use native.Mathlib.Omega.{arith}
use lib.ListN.{length}
use Rattle.basics.specs.Answers.{answer_number}
use Rattle.basics.specs.Numbers.{accepted}
use Rattle.field.specs.declared.Field.{Field}
use Rattle.poseidon.specs.Permutation.{parameters}
use Rattle.sponge.specs.Sponge.{Sponge, squeeze_elements, squeezed_elements}
use Rattle.sponge.specs.Counted.{counted}
use Rattle.words.specs.Kinds.{absorbs}
use Rattle.session.specs.Record.{parameters_in, squeeze_all}
use Rattle.session.specs.Calls.{giving, squeeze}
use Rattle.session.specs.Steps.{moved_on}
use Rattle.session.proofs.Answered.{turned_away}
use Rattle.session.proofs.Buffers.{buffer_left, buffer_written}
use Rattle.session.proofs.Folds.{uncounted, squeeze_all_law, squeezed_all_law}
use Rattle.session.proofs.Numbers.{Takes, answer_accepted, refusal_answer, call_takes, squeeze_countable}
use Rattle.session.proofs.Session.squeeze.Goals as goal
use Rattle.session.proofs.Session.squeeze.Goals.{After-squeeze-permutations, In_default}

-- behind the rows of the call
takes : (c : In_default) → Takes c.args.self.now false (length c.args.output.now)
unfolding answer_number absorbs
takes c = call_takes _ _ _ (sym c.in_default.ensures)

-- what is made of the record's sponge
squeezed : (c : After-squeeze-permutations)
    → counted c.squeeze-permutations.new.self c.squeeze-permutations.result ≡ squeeze_elements (parameters_in c.args.self.now) (uncounted c.args.self.now) (length c.args.output.now)
squeezed c =
    c.squeeze-permutations.ensures.0
    ∙ ap₂ (λ (f : Field) (s : Sponge). squeeze_elements (parameters f) s (length c.args.output.now)) c.field_of.ensures c.sponge-sponge.ensures

pub returns-in-Err : goal.returns-in-Err
unfolding squeeze absorbs
returns-in-Err c =
    let r = c.args.self.now in
    let buffer = c.args.output.now in (
      c.refuse.ensures ∙ refusal_answer r (squeeze_all r (length buffer)) _ _ c.check_call.ensures _ c.in-Err.is,
      sym (buffer_left r buffer (turned_away _ _ c.check_call.ensures _ c.in-Err.is)),
    )

pub move_on-requires : goal.move_on-requires
move_on-requires c =
    let at_default = (goal.at.move_on-requires c).In_default in
    let at_squeezed = (goal.at.move_on-requires c).After-squeeze-permutations in
    let count = ap (λ (s : Sponge). s.permutations) (squeezed at_squeezed) in
    omega (arith, count, squeeze_countable c.args.self.now (length c.args.output.now) (takes at_default))

pub returns : goal.returns
unfolding squeeze answer_number absorbs
returns c =
    let at_default = (goal.at.returns c).In_default in
    let at_squeezed = (goal.at.returns c).After-squeeze-permutations in
    let r = c.args.self.now in
    let buffer = c.args.output.now in
    let n = length buffer in
    let right = sym c.in_default.ensures in
    let out = c.squeeze-permutations.ensures.1
    ∙ ap₂ (λ (f : Field) (s : Sponge). squeezed_elements (parameters f) s n) c.field_of.ensures c.sponge-sponge.ensures in
    let next = c.move_on.ensures
    ∙ ap (λ (s : Sponge). moved_on r s n) (squeezed at_squeezed)
    ∙ squeeze_all_law r n (takes at_default).fits in (
      ap (giving accepted) next ∙ sym (answer_accepted r (squeeze_all r n) _ right),
      out ∙ squeezed_all_law r n ∙ sym (buffer_written r buffer right),
    )
