-- `pattern::check` meets its contract.
-- Assumes nothing.
use mathlib.Core.Path.{◌≡◌, refl, sym, ap, ap₂, ◌∙◌}
use mathlib.Core.List.{List, []}
use mathlib.Core.Logic.{◌≢◌}
use Prim.Native.Nat.{ℕ, min}
use native.Mathlib.Omega.{arith}
use borrow.Author.Tests.{eqb-true, eqb-false, ne_eqb}
use Rattle.std.specs.Prelude.{Err}
use Rattle.std.proofs.lemmas.Result.{err_from_is_err_and}
use Rattle.basics.specs.Answers.{number_of, answer_number}
use Rattle.pattern.specs.Answers.{words_answer}
use lib.ListN.{length, take}
use lib.Seq.{take_all}
use Rattle.pattern.specs.Opening.{opening, opening_number}
use Rattle.pattern.specs.Steps.{holding}
use Rattle.pattern.specs.Pass.{earlier, held_after, ending}
use Rattle.pattern.specs.Opening.{WordList}
use Rattle.pattern.proofs.StartCheck.{checked_refused, checked_accepted}
use Rattle.pattern.proofs.PassStep.{held_65, holding_number, holding_words, free, none_held_yet, holding_few}
use Rattle.basics.proofs.Refused.{refusal_some}
use Rattle.pattern.proofs.Settled.{none_refused}
use Rattle.pattern.proofs.FromPass.{start_none, start_by_pass, words_by_pass}
use Rattle.pattern.proofs.check.Goals as goal

pub returns-then-is_empty : goal.returns-then-is_empty
unfolding words_answer number_of
returns-then-is_empty c =
    let words = c.args.words.now in
    let none : words ≡ [] = sym (take_all 0 words (omega (arith, eqb-true _ 0 (sym c.if-is_empty.ensures)))) in
    sym (checked_refused (opening words c.args.separator.now) 1 refl (rw none (start_none c.args.separator.now)))

-- what the pass holds at its end, by the words that it looked at
pass_held : (ws list : List ℕ) (looked number count : ℕ)
    → looked ≡ min (length ws) 65
    → holding number list count ≡ held_after (take looked ws)
    → holding number list count ≡ held_after ws
pass_held ws list looked number count is h = h ∙ ap (λ (n : ℕ). held_after (take n ws)) is ∙ held_65 ws

-- the number that it holds
number_held : (ws list : List ℕ) (number count : ℕ) → holding number list count ≡ held_after ws → number ≡ (held_after ws).number
number_held ws list number count h = sym (holding_number _ _ _) ∙ ap (λ (m : WordList). m.number) h

-- the number that is checked first
number_is : (ws separator list : List ℕ) (number count end first : ℕ)
    → length ws ≢ 0
    → holding number list count ≡ held_after ws
    → end ≡ ending (length separator)
    → first ≡ earlier number end
    → first ≡ opening_number (opening ws separator)
number_is ws separator list number count end first some h ends is =
    is
    ∙ ap₂ (λ (held end : ℕ). earlier held end) (number_held ws list number count h) ends
    ∙ start_by_pass separator ws some

pub returns-in_err-count : goal.returns-in_err-count
unfolding words_answer answer_number
returns-in_err-count c =
    let ws = c.args.words.now in
    let some : length ws ≢ 0 = eqb-false _ 0 (sym c.if-is_empty.ensures) in
    let held = pass_held ws _ _ _ _ c.min-looked_at.ensures c.pass-passed.ensures in
    let is = number_is ws c.args.separator.now _ _ _ _ _ some held c.ending_of.ensures c.in_err-count.ensures.number in
    let err = err_from_is_err_and c.from_residual.result c.from_residual.ensures.1 in
    ap words_answer (err.1 ∙ ap Err err.2)
    ∙ sym (checked_refused _ _ (ne_eqb _ 0 (refusal_some c.in_err-count.field-0.0)) (sym is))

pub invariant_of-result : goal.invariant_of-result
invariant_of-result c =
    let ws = c.args.words.now in
    let held = pass_held ws _ _ _ _ c.min-looked_at.ensures c.pass-passed.ensures in
    let (counts, none, _) = none_refused _ _ _ c.in_ok-count.ensures.count c.in_ok-count.ensures.number in
    let few = holding_few ws _ _ _ held none in
    let fit = (free ws (none_held_yet ws _ _ _ held none)).few in
    record { fits = omega arith }

pub returns : goal.returns
unfolding words_answer answer_number
returns c =
    let ws = c.args.words.now in
    let separator = c.args.separator.now in
    let some : length ws ≢ 0 = eqb-false _ 0 (sym c.if-is_empty.ensures) in
    let pass = pass_held ws _ _ _ _ c.min-looked_at.ensures c.pass-passed.ensures in
    let number = c.in_ok-count.ensures.number in
    let is = number_is ws separator _ _ _ _ _ some pass c.ending_of.ensures number in
    let (counts, held, _) = none_refused _ _ _ c.in_ok-count.ensures.count number in
    rw counts
    (sym (holding_words _ _ _ held)
    ∙ pass
    ∙ words_by_pass ws some (sym (number_held ws _ _ _ pass) ∙ held)
    ∙ sym (checked_accepted (opening ws separator) (sym is)))
