-- What an answer r of the start check tells: its number, and the merged words if that is 0.
-- Assumes nothing.
use mathlib.Core.Path.{◌≡◌, sym, ap, ◌∙◌}
use Prim.Native.Nat.{◌≤◌}
use lib.ListN.{length, take}
use Rattle.basics.specs.Numbers.{accepted}
use Rattle.pattern.specs.Pattern.{max_words, merged_words}
use Rattle.pattern.specs.Opening.{Opening, opening_number, with_words, checked}
use Rattle.pattern.specs.Opening.{WordList}
use Rattle.pattern.proofs.Answers.{count_at, count_within, words_used}
use Rattle.pattern.proofs.StartCheck.{checked_number, checked_accepted, few_words}

module _ (o : Opening) (r : WordList) (e : r ≡ checked o) where
  pub number_checked : r.number ≡ opening_number o
  number_checked = ap (λ (m : WordList). m.number) e ∙ checked_number o

  module _ (n : r.number ≡ accepted) where
    pub started : opening_number o ≡ accepted
    started = sym number_checked ∙ n

    pub answer_checked : r ≡ with_words accepted (merged_words o.words)
    answer_checked = e ∙ checked_accepted o started

    pub count_checked : r.count ≡ length (merged_words o.words)
    count_checked = ap (λ (m : WordList). m.count) answer_checked ∙ count_at accepted (merged_words o.words)

    pub words_checked : take r.count r.words ≡ merged_words o.words
    words_checked = ap (λ (m : WordList). take m.count m.words) answer_checked ∙ words_used accepted (merged_words o.words)

    pub count_fits : r.count ≤ max_words
    count_fits = rw count_checked (few_words o started)

    pub count_inside : r.count ≤ length r.words
    count_inside = rw answer_checked (count_within accepted (merged_words o.words))
