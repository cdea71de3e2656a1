-- Tag strings read back: what was written is read, and what was read is written again.
-- Assumes nothing.
use mathlib.Core.Path.{◌≡◌, refl, sym, ap, ap₂, ◌∙◌}
use mathlib.Core.Bool.{true, false}
use mathlib.Core.List.{List, [], ◌∷◌, ◌++◌, map}
use mathlib.Core.Logic.{◌≢◌, ◌↔◌}
use Prim.Native.Nat.{ℕ, suc, ◌-◌, ◌*◌, ◌/◌, ◌%◌, ◌≤◌}
use native.Mathlib.Omega.{arith}
use borrow.Author.Tests.{eqb-true, eq-eqb}
use lib.Dec.{lit<}
use lib.ListN.{length, take, drop, length-append, take-append-drop}
use lib.Seq.{take_at, drop_at}
use Rattle.basics.specs.Lists.{tabulate, Below}
use Rattle.basics.specs.Digits.{digits, number}
use Rattle.basics.specs.Numbers.{accepted}
use Rattle.basics.proofs.Below.{below_nil, below_cons, below_head, below_tail, below_take, below_at}
use Rattle.basics.proofs.Cases.{and_left, and_right, and_both}
use Rattle.basics.proofs.Fill.{tabulate_cons, tabulate_same}
use Rattle.basics.proofs.Parts.{four_bytes_below}
use Rattle.basics.proofs.Positional.{number_digits, digits_number}
use Rattle.words.specs.Words.{Phase, phase_of, word_of}
use Rattle.pattern.specs.Pattern.{phases, merged_words, sound_words}
use Rattle.pattern.specs.Opening.{Opening, opening, max_separator, opening_number, with_words}
use Rattle.tag.specs.TagString.{is_form, word_bytes, tail_of, string_of, tag_string, word_at, words_of, body_of, length_in, words_part, separator_part, sound_bytes, tail_missing, read_number, read_words, words_read, read_separator}
use Rattle.pattern.specs.Opening.{WordList}
use Rattle.tag.proofs.WordBytes.{length_word_bytes}
use Rattle.pattern.proofs.Answers.{words_used}
use Rattle.pattern.proofs.StartCheck.{passed_rows, fit}
use Rattle.tag.proofs.Reading.{body_number, number_0, number_of_body, read_accepted, separator_accepted, accepted_string, separator_long}
use Rattle.tag.proofs.Forms.{form_1, body_front, body_and_tail, whole_body, whole_length, whole_has_tail}
use Rattle.pattern.proofs.MergedWords.{phases_of_words, merged_sound}

-- ---- words and their bytes

words_of_four : (a b c d : ℕ) (rest : List ℕ) → words_of (a ∷ b ∷ c ∷ d ∷ rest) ≡ number 256 (a ∷ b ∷ c ∷ d ∷ []) ∷ words_of rest
unfolding words_of word_at
words_of_four a b c d rest =
    let s = a ∷ b ∷ c ∷ d ∷ rest in
    let size : length s / 4 ≡ suc (length rest / 4) = omega arith in
    ap (λ (n : ℕ). tabulate n (word_at s)) size
    ∙ tabulate_cons (length rest / 4) (word_at s)
    ∙ ap (λ (l : List ℕ). number 256 (a ∷ b ∷ c ∷ d ∷ []) ∷ l)
    (tabulate_same (length rest / 4) (λ k. word_at s (suc k)) (word_at rest)
    (λ k h. let place : 4 * suc k ≡ suc (suc (suc (suc (4 * k)))) = omega arith in ap (λ (j : ℕ). number 256 (take 4 (drop j s))) place))

words_of_none : words_of [] ≡ []
unfolding words_of tabulate
words_of_none = refl

-- words of 32 bits, read from their bytes
words_of_bytes : (ws : List ℕ) → Below 4294967296 ws → words_of (word_bytes ws) ≡ ws
unfolding word_bytes digits
words_of_bytes [] h = words_of_none
words_of_bytes (w ∷ ws) h =
    words_of_four _ _ _ _ (word_bytes ws)
    ∙ ap₂ (λ (x : ℕ) (l : List ℕ). x ∷ l) (number_digits 256 4 w (lit< tt) (below_head _ w ws h)) (words_of_bytes ws (below_tail _ w ws h))

-- numbers below a bound, behind four of them
behind_four : (m a b c d : ℕ) (s : List ℕ) → Below m (a ∷ b ∷ c ∷ d ∷ s) → Below m s
behind_four m a b c d s h = below_tail m d s (below_tail m c _ (below_tail m b _ (below_tail m a _ h)))

-- a string of whole words, written from its words
bytes_of_words : (s : List ℕ) → length s % 4 ≡ 0 → Below 256 s → word_bytes (words_of s) ≡ s
unfolding word_bytes
bytes_of_words [] e h = ap word_bytes words_of_none
bytes_of_words (a ∷ []) e h = absurd (omega arith)
bytes_of_words (a ∷ b ∷ []) e h = absurd (omega arith)
bytes_of_words (a ∷ b ∷ c ∷ []) e h = absurd (omega arith)
bytes_of_words (a ∷ b ∷ c ∷ d ∷ s) e h =
    let four = digits_number 256 4 (a ∷ b ∷ c ∷ d ∷ []) refl (below_take 256 4 (a ∷ b ∷ c ∷ d ∷ s) h) in
    let rest = bytes_of_words s (omega arith) (behind_four 256 a b c d s h) in
    ap word_bytes (words_of_four a b c d s) ∙ ap₂ (λ (x y : List ℕ). x ++ y) four rest

-- the words of a string of bytes have 32 bits
words_below : (s : List ℕ) → length s % 4 ≡ 0 → Below 256 s → Below 4294967296 (words_of s)
words_below [] e h = rw words_of_none (below_nil 4294967296)
words_below (a ∷ []) e h = absurd (omega arith)
words_below (a ∷ b ∷ []) e h = absurd (omega arith)
words_below (a ∷ b ∷ c ∷ []) e h = absurd (omega arith)
words_below (a ∷ b ∷ c ∷ d ∷ s) e h =
    let at = below_at 256 (lit< tt) (a ∷ b ∷ c ∷ d ∷ s) h in
    rw (words_of_four a b c d s)
    (below_cons _ _ (words_of s) (four_bytes_below a b c d (at 0) (at 1) (at 2) (at 3)) (words_below s (omega arith) (behind_four 256 a b c d s h)))

-- what precedes a separator, and the separator
cut_and_joined : (s : List ℕ) (n : ℕ) → words_part s n ++ separator_part s n ≡ s
unfolding words_part separator_part
cut_and_joined s n = take-append-drop (length s - n) s

-- ---- reading what was written

-- the string of sound words and a separator, read with a length given that counts in form 1 alone
module _
    (form : ℕ)
    (known : is_form form ≡ true)
    (ws separator : List ℕ)
    (e : sound_words ws ≡ true)
    (bits : Below 4294967296 ws)
    (fits : length separator ≤ max_separator)
    (given : ℕ)
    (right : form ≡ 1 → given ≡ length separator)
  where
    abbrev s : List ℕ
    s = string_of form ws separator

    abbrev n : ℕ
    n = length separator

    -- what precedes the tail
    abbrev front : List ℕ
    front = word_bytes ws ++ separator

    body : body_of form s ≡ front
    unfolding string_of
    body = whole_body form front n

    sized : length_in form s given ≡ n
    unfolding string_of
    sized = whole_length form front n given (omega arith) (λ z. right (form_1 form z known))

    there : tail_missing form s ≡ false
    unfolding string_of
    there = whole_has_tail form front n

    long : length front - n ≡ length (word_bytes ws)
    long = omega (arith, length-append (word_bytes ws) separator)

    words_part_law : words_part front n ≡ word_bytes ws
    unfolding words_part
    words_part_law = take_at (word_bytes ws) separator (length front - n) (sym long)

    separator_part_law : separator_part front n ≡ separator
    unfolding separator_part
    separator_part_law = drop_at (word_bytes ws) separator (length front - n) (sym long)

    words : words_of (words_part front n) ≡ ws
    words = ap words_of words_part_law ∙ words_of_bytes ws bits

    sound_string : sound_bytes (words_part front n) ≡ true
    unfolding sound_bytes
    sound_string =
        let whole : length (words_part front n) % 4 ≡ 0 = rw words_part_law (omega (arith, length_word_bytes ws)) in
        and_both _ _ (eq-eqb (length (words_part front n) % 4) 0 whole) (ap sound_words words ∙ e)

    pub string_reads : read_number form (string_of form ws separator) given ≡ accepted
    string_reads =
        number_of_body form s given known there
        ∙ ap₂ body_number body sized
        ∙ number_0 front n fits (omega (arith, length-append (word_bytes ws) separator)) sound_string

    pub string_words : read_words form (string_of form ws separator) given ≡ with_words accepted ws
    string_words =
        read_accepted form s given string_reads
        ∙ ap₂ (λ (b : List ℕ) (k : ℕ). with_words accepted (words_of (words_part b k))) body sized
        ∙ ap (with_words accepted) words

    pub string_separator : read_separator form (string_of form ws separator) given ≡ separator
    string_separator = separator_accepted form s given string_reads ∙ ap₂ separator_part body sized ∙ separator_part_law

-- of an accepted opening
module _
    (form : ℕ)
    (known : is_form form ≡ true)
    (o : Opening)
    (e : opening_number o ≡ accepted)
    (given : ℕ)
    (right : form ≡ 1 → given ≡ length o.separator)
  where
    merged_bits : Below 4294967296 (merged_words o.words)
    unfolding merged_words
    merged_bits = (phases_of_words (phases o.words) (fit o e)).1

    pub reads : read_number form (tag_string form o) given ≡ accepted
    unfolding tag_string
    reads = string_reads form known (merged_words o.words) o.separator (merged_sound o e) merged_bits (passed_rows o e).short given right

    pub reads_words : read_words form (tag_string form o) given ≡ with_words accepted (merged_words o.words)
    unfolding tag_string
    reads_words = string_words form known (merged_words o.words) o.separator (merged_sound o e) merged_bits (passed_rows o e).short given right

    pub words_again : words_read form (tag_string form o) given ≡ merged_words o.words
    words_again = ap (λ (m : WordList). take m.count m.words) reads_words ∙ words_used accepted (merged_words o.words)

    pub reads_separator : read_separator form (tag_string form o) given ≡ o.separator
    unfolding tag_string
    reads_separator = string_separator form known (merged_words o.words) o.separator (merged_sound o e) merged_bits (passed_rows o e).short given right

-- ---- writing what was read

module _ (form : ℕ) (s : List ℕ) (n : ℕ) (bytes : Below 256 s) (e : read_number form s n ≡ accepted) where
  abbrev inner : List ℕ
  inner = body_of form s

  abbrev size : ℕ
  size = length_in form s n

  abbrev head : List ℕ
  head = words_part inner size

  words_read_law : words_read form s n ≡ words_of head
  words_read_law = ap (λ (m : WordList). take m.count m.words) (read_accepted form s n e) ∙ words_used accepted (words_of head)

  whole : length head % 4 ≡ 0
  unfolding sound_bytes
  whole = eqb-true (length head % 4) 0 (and_left _ _ (accepted_string form s n e).inside.sound)

  sound_words_law : sound_words (words_of head) ≡ true
  unfolding sound_bytes
  sound_words_law = and_right _ _ (accepted_string form s n e).inside.sound

  inner_bytes : Below 256 inner
  inner_bytes = rw (sym (body_front form s (accepted_string form s n e).there)) (below_take 256 (length inner) s bytes)

  head_bytes : Below 256 head
  unfolding words_part
  head_bytes = below_take 256 (length inner - size) inner inner_bytes

  -- what is read: sound words of 32 bits, and a separator that is not too long
  pub read_sound : sound_words (words_read form s n) ≡ true
  read_sound = ap sound_words words_read_law ∙ sound_words_law

  pub read_below : Below 4294967296 (words_read form s n)
  read_below = rw words_read_law (words_below head whole head_bytes)

  pub read_short : length (read_separator form s n) ≤ max_separator
  read_short = rw (separator_long form s n e) (accepted_string form s n e).inside.short

  -- whatever merges to the words that are read has the string for its tag string
  pub writes_string : (ws : List ℕ) → merged_words ws ≡ words_read form s n → tag_string form (opening ws (read_separator form s n)) ≡ s
  unfolding tag_string string_of
  writes_string ws merges =
      let front : word_bytes (merged_words ws) ++ read_separator form s n ≡ inner =
      ap₂ (λ (vs t : List ℕ). word_bytes vs ++ t) (merges ∙ words_read_law) (separator_accepted form s n e)
      ∙ ap (λ (l : List ℕ). l ++ separator_part inner size) (bytes_of_words head whole head_bytes)
      ∙ cut_and_joined inner size in
      ap₂ (λ (l : List ℕ) (k : ℕ). l ++ tail_of form k) front (separator_long form s n e)
      ∙ body_and_tail form s (accepted_string form s n e).there n bytes

-- ---- what tag strings tell

-- what reading refuses is the tag string of no accepted opening, if the length given is the right one in form 1
pub refused_string : (form : ℕ) → is_form form ≡ true → (s : List ℕ) (n : ℕ) → read_number form s n ≢ accepted
    → (o : Opening) → opening_number o ≡ accepted → (form ≡ 1 → n ≡ length o.separator) → tag_string form o ≢ s
refused_string form known s n r o e l q = r (sym (ap (λ (t : List ℕ). read_number form t n) q) ∙ reads form known o e n l)

-- an accepted pattern's kinds and lengths are those of its merged words
pub phases_read : (o : Opening) → opening_number o ≡ accepted → map phase_of (merged_words o.words) ≡ phases o.words
unfolding merged_words
phases_read o e = (phases_of_words (phases o.words) (fit o e)).0

module _
    (form : ℕ)
    (known : is_form form ≡ true)
    (a b : Opening)
    (e : opening_number a ≡ accepted)
    (f : opening_number b ≡ accepted)
    (l : form ≡ 1 → length a.separator ≡ length b.separator)
  where
    -- both are read with one length given
    abbrev given : ℕ
    given = length a.separator

    tell : tag_string form a ≡ tag_string form b → (phases a.words ≡ phases b.words) × (a.separator ≡ b.separator)
    tell q =
        let merged = sym (words_again form known a e given (λ _. refl)) ∙ ap (λ (s : List ℕ). words_read form s given) q ∙ words_again form known b f given l in (
          sym (phases_read a e) ∙ ap (map phase_of) merged ∙ phases_read b f,
          sym (reads_separator form known a e given (λ _. refl))
              ∙ ap (λ (s : List ℕ). read_separator form s given) q
              ∙ reads_separator form known b f given l,
        )

    pub strings_tell : (tag_string form a ≡ tag_string form b) ↔ ((phases a.words ≡ phases b.words) × (a.separator ≡ b.separator))
    unfolding tag_string merged_words
    strings_tell = (tell, λ p. ap₂ (λ (ps : List Phase) (t : List ℕ). string_of form (map word_of ps) t) p.0 p.1)
