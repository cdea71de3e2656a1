-- `pattern::pass::pass_word` meets its contract.
-- Assumes nothing.
use mathlib.Core.Path.{◌≡◌, refl, sym, ap, ◌∙◌}
use mathlib.Core.List.{List}
use Prim.Native.Nat.{ℕ}
use native.Mathlib.Omega.{arith}
use Rattle.std.specs.Prelude.{Err}
use Rattle.std.proofs.lemmas.Result.{err_from_is_err_and}
use lib.ListN.{length}
use Rattle.basics.specs.Answers.{answer_number}
use Rattle.pattern.specs.Steps.{holding, count_in}
use Rattle.pattern.specs.Pass.{earned, earlier, pass_step, held_after}
use Rattle.pattern.specs.Opening.{WordList}
use Rattle.pattern.proofs.Settled.{refused_number, none_refused}
use Rattle.pattern.proofs.PassStep.{step_number, step_holds, earned_none, none_held_yet, held_fits, holding_number, holding_words, holding_refused, holding_holds, merges_more}
use Rattle.pattern.proofs.pass.pass_word.Goals as goal

-- the number that is held or earned, by the words so far
kept : (ws list : List ℕ) (n word held count earns number : ℕ)
    → length ws ≡ n
    → holding held list count ≡ held_after ws
    → earns ≡ earned n word
    → number ≡ earlier held earns
    → number ≡ earlier (held_after ws).number (earned (length ws) word)
kept ws list n word held count earns number e h by_word is =
    let holds = sym (holding_number _ _ _) ∙ ap (λ (m : WordList). m.number) h in
    is ∙ rw (holds, e) (ap (earlier (held_after ws).number) by_word)

pub returns-in_err-count : goal.returns-in_err-count
returns-in_err-count c =
    let err = err_from_is_err_and c.from_residual.result c.from_residual.ensures.1 in
    let same : c.from_residual.result ≡ c.settled.result = err.1 ∙ ap Err err.2 ∙ sym c.in_err-count.was in
    let (some, none) = refused_number _ _ err.1 in
    let is = ap answer_number same ∙ c.settled.ensures.number in (
      λ ws e h.
          let w = c.args.word in
          holding_refused _ _ _ some none
          ∙ sym
          (ap (λ (n : ℕ). pass_step n (held_after ws) w) (sym e)
          ∙ step_number (length ws) (held_after ws) w _ (sym (kept ws _ _ _ _ _ _ _ e h c.earned_by.ensures is)) some),
      λ _. refl,
    )

pub add_word-requires : goal.add_word-requires
add_word-requires c =
    let (counts, held, free) = none_refused _ _ _ c.in_ok-count.ensures.count c.in_ok-count.ensures.number in
    let (few, within) = c.requires held in
    let (room, short) = earned_none _ _ (sym c.earned_by.ensures ∙ free) in
    (omega arith, rw counts (λ some. omega (arith, within some)))

pub returns : goal.returns
unfolding answer_number count_in
returns c =
    let number = c.in_ok-count.ensures.number in
    let (counts, held, _) = none_refused _ _ _ c.in_ok-count.ensures.count number in (
      λ ws e h.
          let w = c.args.word in
          let merged = c.add_word.ensures ws (held_fits ws (none_held_yet ws _ _ _ h held)) (rw counts (holding_holds ws _ _ _ h held)) in
          holding_words 0 _ _ refl
          ∙ sym
          (ap (λ (n : ℕ). pass_step n (held_after ws) w) (sym e)
          ∙ step_holds ws w
          ∙ merges_more ws w (sym (kept ws _ _ _ _ _ _ _ e h c.earned_by.ensures number))
          ∙ merged.holds),
      λ n. absurd (n refl),
    )
