-- Reading: its number, the words and the separator.
-- Assumes nothing.
use mathlib.Core.Path.{◌≡◌, sym, ap, ◌∙◌}
use mathlib.Core.Bool.{Bool, true, false, not}
use mathlib.Core.List.{List, []}
use mathlib.Core.Logic.{◌≢◌}
use Prim.Native.Nat.{ℕ, ◌-◌, ◌*◌, ◌/◌, ◌%◌, ◌≤◌, ◌<◌}
use native.Mathlib.Omega.{arith}
use borrow.Author.Tests.{eqb-true, ltb-false, lt-ltb, le-ltb, eq-eqb, ne_eqb, not-false}
use lib.Dec.{eqb}
use lib.ListN.{length, take, length-drop}
use lib.Seq.{length-take-le, take_at}
use Rattle.basics.specs.Logic.{◌and◌}
use Rattle.basics.specs.Lists.{zero_padded}
use Rattle.basics.specs.Numbers.{accepted, separator_too_long, not_tag_string, form_unknown}
use Rattle.basics.specs.Refusals.{first_number}
use Rattle.basics.proofs.Cases.{by, if_true, if_false, and_left, and_false}
use Rattle.basics.proofs.Fill.{length_tabulate}
use Rattle.pattern.specs.Pattern.{sound_words}
use Rattle.pattern.specs.Opening.{with_words, answer_with}
use Rattle.tag.specs.TagString.{is_form, word_at, words_of, body_of, length_in, words_part, separator_part, sound_bytes, body_rows, tail_missing, read_rows, read_number, read_words, read_separator, separator_start}
use Rattle.pattern.specs.Opening.{WordList}
use Rattle.pattern.proofs.Given.{given_accepted, given_refused, answer_accepted, answer_refused}
use Rattle.pattern.proofs.Soundness.{too_many}

pub length_words_of : (s : List ℕ) → length (words_of s) ≡ length s / 4
unfolding words_of
length_words_of s = length_tabulate (length s / 4) (word_at s)

-- the number that what precedes the tail gets, with a separator of n bytes
abbrev pub body_number : List ℕ → ℕ → ℕ
body_number body n = first_number (body_rows body n)

module _ (s : List ℕ) (n : ℕ) where
  -- what is accepted passed
  pub record Passed : Type 0 where
    pub short : n ≤ 256
    pub long : n ≤ length s
    pub sound : sound_bytes (words_part s n) ≡ true

  pub passed : body_number s n ≡ accepted → Passed
  unfolding body_rows first_number
  passed =
      by (λ (k : ℕ). k ≡ accepted → Passed) _ _ _ (λ _ e. absurd (omega arith)) λ e1.
      by (λ (k : ℕ). k ≡ accepted → Passed) _ _ _ (λ _ e. absurd (omega arith)) λ e2.
      by (λ (k : ℕ). k ≡ accepted → Passed) _ _ _ (λ _ e. absurd (omega arith)) λ e3 _.
      record { short = ltb-false 256 n e1; long = ltb-false (length s) n e2; sound = not-false _ e3 }

  -- the answer by its number
  abbrev body_answer : WordList
  body_answer = answer_with (body_number s n) (words_of (words_part s n))

  pub body_refused : (k : ℕ) → eqb k 0 ≡ false → body_number s n ≡ k → body_answer ≡ with_words k []
  body_refused k z e = answer_refused _ k _ e z

  pub body_accepted : body_number s n ≡ accepted → body_answer ≡ with_words accepted (words_of (words_part s n))
  body_accepted e = answer_accepted _ _ e

  pub number_6 : 256 < n → body_number s n ≡ separator_too_long
  unfolding body_rows first_number
  number_6 h = if_true _ _ _ (lt-ltb 256 n h)

  module _ (h1 : n ≤ 256) where
    pub number_13_short : length s < n → body_number s n ≡ not_tag_string
    unfolding body_rows first_number
    number_13_short h = if_false _ _ _ (le-ltb 256 n h1) ∙ if_true _ _ _ (lt-ltb (length s) n h)

    module _ (h2 : n ≤ length s) where
      pub number_13 : sound_bytes (words_part s n) ≡ false → body_number s n ≡ not_tag_string
      unfolding body_rows first_number
      number_13 e = if_false _ _ _ (le-ltb 256 n h1) ∙ if_false _ _ _ (le-ltb (length s) n h2) ∙ if_true _ _ _ (ap not e)

      pub number_0 : sound_bytes (words_part s n) ≡ true → body_number s n ≡ accepted
      unfolding body_rows first_number
      number_0 e = if_false _ _ _ (le-ltb 256 n h1) ∙ if_false _ _ _ (le-ltb (length s) n h2) ∙ if_false _ _ _ (ap not e)

  -- what precedes the separator, by its length
  module _ (h : n ≤ length s) (size : ℕ) (e : size ≡ length s - n) where
    part : take size s ≡ words_part s n
    unfolding words_part
    part = ap (λ (k : ℕ). take k s) e

    pub length_part : length (take size s) ≡ size
    length_part = length-take-le size s (omega arith)

    length_words_part : length (words_part s n) ≡ size
    length_words_part = sym (ap length part) ∙ length_part

    pub cut_word : size % 4 ≢ 0 → sound_bytes (words_part s n) ≡ false
    unfolding sound_bytes ◌and◌
    cut_word z = rw (length_words_part, ne_eqb (size % 4) 0 z)

    pub too_long_law : 64 < size / 4 → sound_bytes (words_part s n) ≡ false
    unfolding sound_bytes
    too_long_law l =
        let many : 64 < length (words_of (words_part s n)) = rw (length_words_of (words_part s n), length_words_part) (omega arith) in
        rw (too_many (words_of (words_part s n)) many) (and_false _)

    -- the words in 64 places
    abbrev places : List ℕ
    places = zero_padded 64 (words_of (take size s))

    count : length (words_of (take size s)) ≡ size / 4
    count = length_words_of (take size s) ∙ ap (λ (k : ℕ). k / 4) length_part

    -- their test
    pub sound_test : size % 4 ≡ 0 → (list : List ℕ) (b : Bool) → list ≡ places
        → b ≡ sound_words (take (size / 4) list) → sound_bytes (words_part s n) ≡ b
    unfolding sound_bytes ◌and◌
    sound_test z list b p t =
        rw (length_words_part, eq-eqb (size % 4) 0 z)
        (sym
        (t
        ∙ ap (λ (l : List ℕ). sound_words (take (size / 4) l)) p
        ∙ ap sound_words (take_at (words_of (take size s)) _ (size / 4) count ∙ ap words_of part)))

    pub answer : (list : List ℕ) → list ≡ places
        → record { number = accepted; words = list; count = size / 4 } ≡ with_words accepted (words_of (words_part s n))
    unfolding with_words
    answer list p =
        (λ i. record { number = accepted; words = p i; count = sym count i })
        ∙ ap (with_words accepted) (ap words_of part)

-- ---- a string by its form

module _ (form : ℕ) (s : List ℕ) (n : ℕ) where
  abbrev body : List ℕ
  body = body_of form s

  abbrev size : ℕ
  size = length_in form s n

  pub read_refused : (k : ℕ) → eqb k 0 ≡ false → read_number form s n ≡ k → read_words form s n ≡ with_words k []
  unfolding read_words
  read_refused k z e = answer_refused _ k _ e z

  pub read_accepted : read_number form s n ≡ accepted → read_words form s n ≡ with_words accepted (words_of (words_part body size))
  unfolding read_words
  read_accepted e = answer_accepted _ _ e

  pub number_read : (r : WordList) → r ≡ read_words form s n → read_number form s n ≡ r.number
  unfolding read_words answer_with with_words
  number_read r e = sym (ap (λ (m : WordList). m.number) e)

  pub separator_refused : read_number form s n ≢ 0 → read_separator form s n ≡ []
  unfolding read_separator
  separator_refused z = given_refused _ _ (ne_eqb (read_number form s n) 0 z)

  pub separator_accepted : read_number form s n ≡ 0 → read_separator form s n ≡ separator_part body size
  unfolding read_separator
  separator_accepted e = given_accepted _ _ e

  pub start_refused : read_number form s n ≢ 0 → separator_start form s n ≡ length s
  unfolding separator_start
  start_refused z = if_false _ _ _ (ne_eqb (read_number form s n) 0 z)

  pub start_accepted : read_number form s n ≡ 0 → separator_start form s n ≡ length (words_part body size)
  unfolding separator_start
  start_accepted e = if_true _ _ _ (eq-eqb (read_number form s n) 0 e)

  pub number_22 : is_form form ≡ false → read_number form s n ≡ form_unknown
  unfolding read_number read_rows first_number
  number_22 e = if_true _ _ _ (ap not e)

  module _ (known : is_form form ≡ true) where
    pub number_13_tail : tail_missing form s ≡ true → read_number form s n ≡ not_tag_string
    unfolding read_number read_rows first_number
    number_13_tail e = if_false _ _ _ (ap not known) ∙ if_true _ _ _ e

    pub number_of_body : tail_missing form s ≡ false → read_number form s n ≡ body_number body size
    unfolding read_number read_rows first_number
    number_of_body e = if_false _ _ _ (ap not known) ∙ if_false _ _ _ e

    pub words_of_body : tail_missing form s ≡ false → read_words form s n ≡ answer_with (body_number body size) (words_of (words_part body size))
    unfolding read_words
    words_of_body e = ap (λ (k : ℕ). answer_with k (words_of (words_part body size))) (number_of_body e)

  -- what an accepted string passed
  pub record Accepted : Type 0 where
    pub known : is_form form ≡ true
    pub there : tail_missing form s ≡ false
    pub inside : Passed body size

  pub accepted_string : read_number form s n ≡ accepted → Accepted
  unfolding read_number read_rows first_number
  accepted_string =
      by (λ (k : ℕ). k ≡ accepted → Accepted) _ _ _ (λ _ e. absurd (omega arith)) λ e1.
      by (λ (k : ℕ). k ≡ accepted → Accepted) _ _ _ (λ _ e. absurd (omega arith)) λ e2 e.
      record { known = not-false _ e1; there = e2; inside = passed body size e }

  -- the separator's place: behind the words, which are whole
  module _ (e : read_number form s n ≡ accepted) where
    abbrev words : List ℕ
    words = words_part body size

    pub part_long : length words ≡ length body - size
    unfolding words_part
    part_long = length-take-le (length body - size) body (omega arith)

    pub start_by_count : 4 * (read_words form s n).count ≡ length words
    unfolding with_words sound_bytes
    start_by_count =
        let whole = eqb-true (length words % 4) 0 (and_left _ _ (accepted_string e).inside.sound) in
        let counted : (read_words form s n).count ≡ length words / 4 =
        ap (λ (m : WordList). m.count) (read_accepted e) ∙ length_words_of words in
        omega (arith, whole, counted)

    pub separator_long : length (read_separator form s n) ≡ size
    unfolding separator_part
    separator_long = ap length (separator_accepted e) ∙ (let long = (accepted_string e).inside.long in omega (arith, length-drop (length body - size) body))
