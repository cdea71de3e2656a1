-- The string of what the start check merged, written to a buffer of zeros that holds every tag string: it lies in the buffer's front, and is
-- the tag string.
-- Assumes nothing.
use mathlib.Core.Path.{◌≡◌, refl, sym, ap, ap₂, ◌∙◌}
use mathlib.Core.List.{List}
use Prim.Native.Nat.{ℕ, ◌≤◌}
use lib.Dec.{lit≤}
use lib.ListN.{length, take, replicate}
use Rattle.std.proofs.Common.{Result, Ok, Err, IsOk}
use Rattle.basics.proofs.Refused.{accepted_ok}
use Rattle.basics.specs.Answers.{answer_number}
use Rattle.basics.specs.Numbers.{accepted}
use Rattle.basics.specs.declared.Refusal.{Refusal}
use Rattle.pattern.specs.Opening.{Opening, WordList, checked}
use Rattle.pattern.specs.Answers.{words_answer}
use Rattle.pattern.specs.declared.list.Words.{Words}
use Rattle.pattern.proofs.Checked.{started, words_checked}
use Rattle.tag.specs.Answers.{written_answer}
use Rattle.tag.specs.TagString.{Written, max_string, string_of, tag_string, buffer_number, written_with, string_written, string_buffer}
use Rattle.tag.proofs.Writing.{room_for_any, inside, front}

-- the number of what writing answers
pub number_written : (r : Result ℕ Refusal) → (written_answer r).number ≡ answer_number r
unfolding written_answer answer_number
number_written (Ok length) = refl
number_written (Err refusal) = refl

-- the check's answer r, the writer's answer w, and what the writer left in the buffer
module _
    (form : ℕ)
    (o : Opening)
    (r : WordList)
    (e : r ≡ checked o)
    (n : r.number ≡ accepted)
    (w : Written)
    (after : List ℕ)
    (ew : w ≡ string_written (string_of form (take r.count r.words) o.separator) (replicate max_string 0))
    (ea : after ≡ string_buffer (string_of form (take r.count r.words) o.separator) (replicate max_string 0))
  where
    abbrev zeros : List ℕ
    zeros = replicate max_string 0

    pub string_accepted : w.number ≡ accepted
    unfolding string_written written_with tag_string
    string_accepted =
        ap (λ (v : Written). v.number) ew
        ∙ ap (λ (ws : List ℕ). buffer_number (string_of form ws o.separator) zeros) (words_checked o r e n)
        ∙ room_for_any form o zeros (started o r e n) (lit≤ tt)

    pub string_inside : w.length ≤ length after
    unfolding string_written string_buffer
    string_inside = rw (ew, ea) (inside _ _ zeros)

    pub string_written_law : take w.length after ≡ tag_string form o
    unfolding string_written string_buffer tag_string
    string_written_law =
        ap₂ (λ (v : Written) (l : List ℕ). take v.length l) ew ea
        ∙ ap (λ (ws : List ℕ). take (string_written (string_of form ws o.separator) zeros).length (string_buffer (string_of form ws o.separator) zeros))
        (words_checked o r e n)
        ∙ front (buffer_number (tag_string form o) zeros) (tag_string form o) zeros (room_for_any form o zeros (started o r e n) (lit≤ tt))

-- the same of the answers themselves: the words m that the check gives, lent as a list, and the writer's answer r
module _
    (form : ℕ)
    (o : Opening)
    (m : Words)
    (is : words_answer (Ok m) ≡ checked o)
    (list : List ℕ)
    (same : list ≡ take m.count m.words)
    (r : Result ℕ Refusal)
    (after : List ℕ)
    (er : written_answer r ≡ string_written (string_of form list o.separator) (replicate max_string 0))
    (ea : after ≡ string_buffer (string_of form list o.separator) (replicate max_string 0))
  where
    number : written_answer r ≡ string_written (string_of form (take m.count m.words) o.separator) (replicate max_string 0)
    number = er ∙ ap (λ (ws : List ℕ). string_written (string_of form ws o.separator) (replicate max_string 0)) same

    buffer : after ≡ string_buffer (string_of form (take m.count m.words) o.separator) (replicate max_string 0)
    buffer = ea ∙ ap (λ (ws : List ℕ). string_buffer (string_of form ws o.separator) (replicate max_string 0)) same

    pub is_written : IsOk r
    unfolding words_answer
    is_written = accepted_ok r (sym (number_written r) ∙ string_accepted form o (words_answer (Ok m)) is refl _ _ number buffer)

    module _ (n : ℕ) (ok : r ≡ Ok n) where
      pub written_inside : n ≤ length after
      unfolding words_answer written_answer
      written_inside =
          string_inside form o (words_answer (Ok m)) is refl (written_answer (Ok n)) after (ap written_answer (sym ok) ∙ number) buffer

      pub written_string : take n after ≡ tag_string form o
      unfolding words_answer written_answer
      written_string =
          string_written_law form o (words_answer (Ok m)) is refl (written_answer (Ok n)) after (ap written_answer (sym ok) ∙ number) buffer
