-- Where the separator lies in the string.
-- Assumes nothing.
use mathlib.Core.Path.{◌≡◌, sym, ap, ap₂, ◌∙◌}
use mathlib.Core.List.{List, []}
use mathlib.Core.Logic.{◌≢◌}
use Prim.Native.Nat.{ℕ, ◌+◌, ◌-◌, ◌*◌, ◌≤◌}
use native.Mathlib.Omega.{arith}
use borrow.Author.Tests.{eqb-true, eqb-false}
use lib.Dec.{eqb}
use lib.ListN.{length, take, drop}
use lib.Seq.{length-take-le, take-add, drop_at}
use Rattle.basics.specs.Numbers.{accepted}
use Rattle.basics.proofs.Cases.{cases}
use Rattle.std.specs.Prelude.{Err}
use Rattle.basics.specs.Answers.{number_of}
use Rattle.basics.specs.declared.Refusal.{Refusal}
use Rattle.pattern.specs.Opening.{WordList, with_words}
use Rattle.basics.proofs.Refused.{refusal_some}
use Rattle.tag.specs.TagString.{body_of, length_in, separator_part, read_number, read_words, read_separator, separator_start}
use Rattle.tag.proofs.Forms.{body_front, body_long}
use Rattle.tag.proofs.Reading.{number_read, accepted_string, separator_refused, separator_accepted, start_refused, start_accepted, part_long, start_by_count, separator_long}
use Rattle.tag_reader.specs.Parts.{PartsRead, parts_read}
use Rattle.tag_reader.specs.Answers.{parts_answer}

-- a part of a list's front is a part of the list
part_of_front : (s : List ℕ) (k m : ℕ) → k + m ≤ length s → drop k (take (k + m) s) ≡ take m (drop k s)
part_of_front s k m h = ap (drop k) (take-add k m s) ∙ drop_at (take k s) (take m (drop k s)) k (length-take-le k s (omega arith))

module _ (form : ℕ) (s : List ℕ) (n : ℕ) where
  -- the separator's first place, and its length
  abbrev start : ℕ
  start = separator_start form s n

  abbrev size : ℕ
  size = length (read_separator form s n)

  module _ (z : read_number form s n ≢ accepted) where
    none : size ≡ 0
    none = ap length (separator_refused form s n z)

    refused_there : take size (drop start s) ≡ read_separator form s n
    refused_there = ap (λ (k : ℕ). take k (drop start s)) none ∙ sym (separator_refused form s n z)

  module _ (e : read_number form s n ≡ accepted) where
    abbrev body : List ℕ
    body = body_of form s

    short : length body ≤ length s
    short = omega (arith, body_long form s (accepted_string form s n e).there)

    pub sum : separator_start form s n + length (read_separator form s n) ≡ length (body_of form s)
    sum =
        let long = (accepted_string form s n e).inside.long in
        omega (arith, start_accepted form s n e, part_long form s n e, separator_long form s n e)

    accepted_there : take size (drop start s) ≡ read_separator form s n
    unfolding separator_part
    accepted_there =
        let begin : start ≡ length body - length_in form s n = start_accepted form s n e ∙ part_long form s n e in
        sym
        (separator_accepted form s n e
        ∙ ap₂ (λ (k : ℕ) (l : List ℕ). drop k l) (sym begin) (sym (body_front form s (accepted_string form s n e).there))
        ∙ ap (λ (k : ℕ). drop start (take k s)) (sym sum)
        ∙ part_of_front s start size (omega (arith, sum, short)))

  -- it lies in the string
  pub separator_inside : start + size ≤ length s
  separator_inside =
      cases (eqb (read_number form s n) accepted)
      (λ e. omega (arith, sum (eqb-true _ _ e), short (eqb-true _ _ e)))
      (λ e. omega (arith, none (eqb-false _ _ e), start_refused form s n (eqb-false _ _ e)))

  -- and is that part of it
  pub separator_there : take size (drop start s) ≡ read_separator form s n
  separator_there = cases (eqb (read_number form s n) accepted) (λ e. accepted_there (eqb-true _ _ e)) (λ e. refused_there (eqb-false _ _ e))

  -- the parts by the words' answer
  module _ (r : WordList) (e : r ≡ read_words form s n) where
    pub refused_parts : r.number ≢ accepted
        → record { number = r.number; words = r.words; count = r.count; start = length s; length = 0 } ≡ parts_read form s n
    unfolding parts_read
    refused_parts z =
        let refused : read_number form s n ≢ accepted = λ a. z (sym (number_read form s n r e) ∙ a) in
        λ i.
        record {
          number = (e i).number;
          words = (e i).words;
          count = (e i).count;
          start = sym (start_refused form s n refused) i;
          length = sym (none refused) i;
        }

    pub accepted_parts : r.number ≡ accepted
        → record { number = r.number; words = r.words; count = r.count; start = 4 * r.count; length = length_in form s n } ≡ parts_read form s n
    unfolding parts_read
    accepted_parts a =
        let accepts : read_number form s n ≡ accepted = number_read form s n r e ∙ a in
        let begin : 4 * r.count ≡ start =
        ap (λ (m : WordList). 4 * m.count) e ∙ start_by_count form s n accepts ∙ sym (start_accepted form s n accepts) in
        let rest : length_in form s n ≡ size = sym (separator_long form s n accepts) in
        λ i. record { number = (e i).number; words = (e i).words; count = (e i).count; start = begin i; length = rest i }

  -- a refusal
  pub refused_with : (refusal : Refusal) → read_words form s n ≡ with_words (number_of refusal) [] → parts_answer s (Err refusal) ≡ parts_read form s n
  unfolding parts_answer with_words
  refused_with refusal e = refused_parts (with_words (number_of refusal) []) (sym e) (refusal_some refusal)

  -- the words without the separator's place
  pub words_alone : (p : PartsRead) → p ≡ parts_read form s n
      → ◌≡◌ {A = WordList} (record { number = p.number; words = p.words; count = p.count }) (read_words form s n)
  unfolding parts_read
  words_alone p e = ap (λ (q : PartsRead). record { number = q.number; words = q.words; count = q.count }) e
