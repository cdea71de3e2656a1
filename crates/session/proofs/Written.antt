-- The tag string that START writes: of what the start check merged, to a buffer of zeros that holds every tag string.
-- Assumes nothing.
use mathlib.Core.Path.{◌≡◌, refl, sym, ap, subst, ◌∙◌}
use mathlib.Core.List.{List}
use Prim.Native.Nat.{ℕ, ◌≤◌}
use lib.Dec.{lit≤}
use lib.ListN.{length, take, replicate}
use Rattle.std.proofs.Common.{Result, Ok, Err}
use Rattle.std.specs.Prelude.{IsOk}
use Rattle.basics.specs.Numbers.{accepted}
use Rattle.basics.specs.declared.Refusal.{Refusal}
use Rattle.pattern.specs.Answers.{words_answer}
use Rattle.pattern.specs.Opening.{Opening, opening_number, with_words, checked}
use Rattle.pattern.specs.Pattern.{merged_words}
use Rattle.pattern.specs.declared.list.Words.{Words}
use Rattle.pattern.proofs.Checked.{started, words_checked, answer_checked}
use Rattle.basics.proofs.Refused.{refusal_some}
use Rattle.tag.specs.Answers.{written_answer}
use Rattle.tag.specs.TagString.{Written, max_string, string_of, tag_string, string_written, written_with, string_buffer}
use Rattle.tag.proofs.CheckedString.{string_inside, string_written_law}
use Rattle.tag.proofs.Writing.{room_for_any}

-- what the check merged
module _ (o : Opening) (m : Words) (e : words_answer (Ok m) ≡ checked o) where
  pub accepts : opening_number o ≡ accepted
  unfolding words_answer
  accepts = started o (words_answer (Ok m)) e refl

  pub merges : record { number = accepted; words = m.words; count = m.count } ≡ with_words accepted (merged_words o.words)
  unfolding words_answer
  merges = answer_checked o (words_answer (Ok m)) e refl

  -- the string of it, what writing that answers, and the buffer left
  module _
      (form : ℕ)
      (w : Result ℕ Refusal)
      (after : List ℕ)
      (written : written_answer w ≡ string_written (string_of form (take m.count m.words) o.separator) (replicate max_string 0))
      (left : after ≡ string_buffer (string_of form (take m.count m.words) o.separator) (replicate max_string 0))
    where
      number : (written_answer w).number ≡ accepted
      unfolding words_answer string_written written_with tag_string
      number =
          ap (λ (v : Written). v.number) written
          ∙ ap (λ (ws : List ℕ). (string_written (string_of form ws o.separator) (replicate max_string 0)).number) (words_checked o (words_answer (Ok m)) e refl)
          ∙ room_for_any form o (replicate max_string 0) accepts (lit≤ tt)

      is_written : (v : Result ℕ Refusal) → (written_answer v).number ≡ accepted → IsOk v
      unfolding written_answer
      is_written (Ok n) h = refl
      is_written (Err f) h = absurd (refusal_some f h)

      pub writes : IsOk w
      writes = is_written w number

      -- where it was written, it stands in the buffer's front
      module _ (n : ℕ) (is : w ≡ Ok n) where
        pub written_inside : n ≤ length after
        unfolding words_answer written_answer
        written_inside =
            string_inside form o (words_answer (Ok m)) e refl (written_answer (Ok n)) after (sym (ap written_answer is) ∙ written) left

        pub written_string : take n after ≡ tag_string form o
        unfolding words_answer written_answer
        written_string =
            string_written_law form o (words_answer (Ok m)) e refl (written_answer (Ok n)) after (sym (ap written_answer is) ∙ written) left
