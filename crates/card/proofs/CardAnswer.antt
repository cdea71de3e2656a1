-- The answer to a card, from what the start check, the writer of strings and the count of permutations give.
-- Assumes nothing.
use mathlib.Core.Path.{◌≡◌, sym, ap, ap₂, ◌∙◌}
use mathlib.Core.List.{List}
use mathlib.Core.Logic.{◌≢◌}
use Prim.Native.Nat.{ℕ}
use borrow.Author.Tests.{eq-eqb, ne_eqb}
use lib.ListN.{take}
use Rattle.basics.specs.Numbers.{accepted}
use Rattle.basics.proofs.Cases.{if_true, if_false}
use Rattle.pattern.specs.Opening.{Opening, opening_number, checked}
use Rattle.pattern.specs.Opening.{WordList}
use Rattle.pattern.proofs.Checked.{number_checked, started, count_checked, words_checked}
use Rattle.tag.specs.TagString.{tag_string}
use Rattle.counters.specs.Permutations.{permutations_at, full_permutations}
use Rattle.card.specs.Answer.{card_form, ok_text, no_text, card_answer}

module _ (o : Opening) where
  pub accepted_answer : opening_number o ≡ accepted → card_answer o ≡ ok_text (tag_string card_form o) (full_permutations o.words)
  unfolding card_answer
  accepted_answer e = if_true _ _ _ (eq-eqb (opening_number o) accepted e)

  pub refused_answer : opening_number o ≢ accepted → card_answer o ≡ no_text (opening_number o)
  unfolding card_answer
  refused_answer e = if_false _ _ _ (ne_eqb (opening_number o) accepted e)

-- ---- from the answer r of the start check

module _ (o : Opening) (r : WordList) (e : r ≡ checked o) where
  pub refuses : r.number ≢ accepted → card_answer o ≡ no_text r.number
  refuses n =
      let same = number_checked o r e in
      refused_answer o (λ z. n (same ∙ z)) ∙ ap no_text (sym same)

  module _ (n : r.number ≡ accepted) where
    pub counts : permutations_at (take r.count r.words) r.count 0 ≡ full_permutations o.words
    unfolding full_permutations
    counts = ap₂ (λ (l : List ℕ) (k : ℕ). permutations_at l k 0) (words_checked o r e n) (count_checked o r e n)

    -- the tag string that was written, and the count
    pub answers : (string : List ℕ) → string ≡ tag_string card_form o
        → ok_text string (permutations_at (take r.count r.words) r.count 0) ≡ card_answer o
    answers string e' = ap₂ ok_text e' counts ∙ sym (accepted_answer o (started o r e n))
