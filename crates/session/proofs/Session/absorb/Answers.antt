-- `session::Session::absorb` meets its contract.
-- Assumes nothing.
use mathlib.Core.Path.{◌≡◌, sym, ap, ap₂, ◌∙◌}
use mathlib.Core.Bool.{true}
use native.Mathlib.Omega.{arith}
use lib.ListN.{length}
use Rattle.basics.specs.Answers.{answer_number}
use Rattle.basics.specs.Numbers.{accepted}
use Rattle.field.specs.declared.Field.{Field}
use Rattle.poseidon.specs.Permutation.{parameters}
use Rattle.sponge.specs.Sponge.{Sponge, absorb_elements}
use Rattle.sponge.specs.Counted.{counted}
use Rattle.session.specs.Record.{parameters_in, absorb_all}
use Rattle.session.specs.Calls.{giving, absorb}
use Rattle.session.specs.Steps.{moved_on}
use Rattle.session.proofs.Folds.{uncounted, absorb_all_law}
use Rattle.session.proofs.Numbers.{Takes, answer_accepted, refusal_answer, absorb_takes, absorb_countable}
use Rattle.session.proofs.Session.absorb.Goals as goal
use Rattle.session.proofs.Session.absorb.Goals.{After-absorb-permutations, In_default}

-- behind the rows of ABSORB
takes : (c : In_default) → Takes c.args.self.now true (length c.args.input.now)
unfolding answer_number
takes c = absorb_takes _ _ (sym c.in_default.ensures)

-- what is made of the record's sponge
absorbed : (c : After-absorb-permutations)
    → counted c.absorb-permutations.new.self c.absorb-permutations.result ≡ absorb_elements (parameters_in c.args.self.now) (uncounted c.args.self.now) c.args.input.now
absorbed c =
    c.absorb-permutations.ensures
    ∙ ap₂ (λ (f : Field) (s : Sponge). absorb_elements (parameters f) s c.args.input.now) c.field_of.ensures c.sponge-sponge.ensures

pub returns-in-Err : goal.returns-in-Err
unfolding absorb
returns-in-Err c =
    let r = c.args.self.now in
    c.refuse.ensures ∙ refusal_answer r (absorb_all r c.args.input.now) _ _ c.check_absorb.ensures _ c.in-Err.is

pub move_on-requires : goal.move_on-requires
move_on-requires c =
    let at_default = (goal.at.move_on-requires c).In_default in
    let at_absorbed = (goal.at.move_on-requires c).After-absorb-permutations in
    let count = ap (λ (s : Sponge). s.permutations) (absorbed at_absorbed) in
    omega (arith, count, absorb_countable c.args.self.now c.args.input.now (takes at_default))

pub returns : goal.returns
unfolding absorb answer_number
returns c =
    let at_default = (goal.at.returns c).In_default in
    let at_absorbed = (goal.at.returns c).After-absorb-permutations in
    let r = c.args.self.now in
    let xs = c.args.input.now in
    let next = c.move_on.ensures
    ∙ ap (λ (s : Sponge). moved_on r s (length xs)) (absorbed at_absorbed)
    ∙ absorb_all_law r xs (takes at_default).fits in
    ap (giving accepted) next ∙ sym (answer_accepted r (absorb_all r xs) _ (sym c.in_default.ensures))
