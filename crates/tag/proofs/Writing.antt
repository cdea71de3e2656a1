-- Writing: its number, and what it leaves in the buffer.
-- Assumes nothing.
use mathlib.Core.Path.{◌≡◌, refl, sym, ap, ap₂, ◌∙◌}
use mathlib.Core.Bool.{true, false, not}
use mathlib.Core.List.{List, ◌++◌}
use mathlib.Core.Logic.{◌≢◌}
use Prim.Native.Nat.{ℕ, ◌+◌, ◌*◌, ◌≤◌, ◌<◌}
use native.Mathlib.Omega.{arith}
use borrow.Author.Tests.{ne_eqb, lt-ltb, le-ltb}
use lib.ListN.{length, take, drop, length-append}
use Rattle.basics.specs.Logic.{◌and◌, all}
use Rattle.basics.specs.Lists.{placed}
use Rattle.basics.specs.Numbers.{accepted, buffer_too_short, form_unknown}
use Rattle.basics.specs.Refusals.{first_number}
use Rattle.basics.proofs.Cases.{if_true, if_false}
use Rattle.basics.proofs.Placed.{placed_none, placed_behind, placed_start, placed_front}
use Rattle.basics.proofs.FirstRow.{behind as rows_behind, refused_before, accepted_none}
use Rattle.pattern.specs.Pattern.{merged_words}
use Rattle.pattern.specs.Opening.{Opening, word_rows, opening_rows, opening_number, given}
use Rattle.pattern.proofs.Given.{given_accepted, given_refused}
use Rattle.pattern.proofs.StartCheck.{passed_rows, few_words}
use Rattle.tag.specs.TagString.{is_form, word_bytes, tail_of, max_string, string_of, tag_string, buffer_rows, buffer_number, write_rows, write_number, written_with, buffer_with, string_written, string_buffer, written, buffer_after}
use Rattle.tag.specs.TagString.{Written}
use Rattle.tag.proofs.WordBytes.{length_word_bytes}
use Rattle.tag.proofs.Forms.{tail_long, tail_short}

pub length_string : (form : ℕ) (ws separator : List ℕ)
    → length (string_of form ws separator) ≡ 4 * length ws + length separator + length (tail_of form 0)
unfolding string_of
length_string form ws separator =
    let tail = tail_of form (length separator) in
    length-append (word_bytes ws ++ separator) tail
    ∙ ap₂ (λ (k m : ℕ). k + m) (length-append (word_bytes ws) separator ∙ ap (λ (n : ℕ). n + length separator) (length_word_bytes ws))
    (tail_long form (length separator))

-- ---- by the number

module _ (n : ℕ) (string buffer : List ℕ) where
  pub inside : (written_with n string).length ≤ length (buffer_with n string buffer)
  unfolding written_with buffer_with
  inside =
      let bytes = given n string in
      rw (placed_start buffer bytes) (omega (arith, length-append bytes (drop (length bytes) buffer)))

  module _ (refused : n ≢ accepted) where
    pub none_written : written_with n string ≡ record { number = n; length = 0 }
    unfolding written_with
    none_written = rw (given_refused n string (ne_eqb n accepted refused))

    pub buffer_left : buffer_with n string buffer ≡ buffer
    unfolding buffer_with
    buffer_left = rw (given_refused n string (ne_eqb n accepted refused)) (placed_none buffer 0)

  module _ (e : n ≡ accepted) where
    pub all_written : written_with n string ≡ record { number = accepted; length = length string }
    unfolding written_with
    all_written = rw (e, given_accepted accepted string refl)

    pub string_in_front : buffer_with n string buffer ≡ placed buffer 0 string
    unfolding buffer_with
    string_in_front = rw (given_accepted n string e)

    pub front : take (written_with n string).length (buffer_with n string buffer) ≡ string
    front =
        ap₂ (λ (w : Written) (l : List ℕ). take w.length l) all_written string_in_front
        ∙ placed_front buffer string

-- ---- a string to a buffer

module _ (string buffer : List ℕ) where
  pub number_12 : length buffer < length string → buffer_number string buffer ≡ buffer_too_short
  unfolding buffer_number buffer_rows first_number
  number_12 h = if_true _ _ _ (lt-ltb (length buffer) (length string) h)

  pub number_0 : length string ≤ length buffer → buffer_number string buffer ≡ accepted
  unfolding buffer_number buffer_rows first_number
  number_0 h = if_false _ _ _ (le-ltb (length buffer) (length string) h)

-- words, a separator and a tail of so many bytes
module _ (form : ℕ) (ws separator buffer : List ℕ) (tail : ℕ) (t : tail ≡ length (tail_of form 0)) where
  abbrev string : List ℕ
  string = string_of form ws separator

  abbrev size : ℕ
  size = 4 * length ws + length separator + tail

  string_size : length string ≡ size
  string_size = omega (arith, t, length_string form ws separator)

  pub buffer_too_short_law : length buffer < size
      → (record { number = buffer_too_short; length = 0 } ≡ string_written string buffer) × (buffer ≡ string_buffer string buffer)
  unfolding string_written string_buffer
  buffer_too_short_law h =
      let short = number_12 string buffer (rw string_size h) in
      let refused : buffer_number string buffer ≢ accepted = λ z. omega (arith, z, short) in (
        sym (none_written (buffer_number string buffer) string buffer refused ∙ (λ i. record { number = short i; length = 0 })),
        sym (buffer_left (buffer_number string buffer) string buffer refused),
      )

  -- the buffer with the words in its front, and with the separator behind them
  abbrev half : List ℕ
  half = placed buffer 0 (word_bytes ws)

  abbrev most : List ℕ
  most = placed half (4 * length ws) separator

  most_is : 4 * length ws + length separator ≤ length buffer → most ≡ placed buffer 0 (word_bytes ws ++ separator)
  most_is h =
      let place : 4 * length ws ≡ 0 + length (word_bytes ws) = omega (arith, length_word_bytes ws) in
      ap (λ (k : ℕ). placed half k separator) place ∙ placed_behind buffer 0 (word_bytes ws) separator (omega arith)

  pub whole_string : size ≤ length buffer
      → (record { number = accepted; length = size } ≡ string_written string buffer)
      × (placed most (4 * length ws + length separator) (tail_of form (length separator)) ≡ string_buffer string buffer)
  unfolding string_written string_buffer string_of
  whole_string h =
      let number = number_0 string buffer (rw string_size h) in
      let behind = tail_of form (length separator) in
      let place : 4 * length ws + length separator ≡ 0 + length (word_bytes ws ++ separator) =
      omega (arith, length_word_bytes ws, length-append (word_bytes ws) separator) in (
        (λ i. record { number = accepted; length = sym string_size i }) ∙ sym (all_written (buffer_number string buffer) string buffer number),
        ap₂ (λ (l : List ℕ) (k : ℕ). placed l k behind) (most_is (omega arith)) place
            ∙ placed_behind buffer 0 (word_bytes ws ++ separator) behind (omega arith)
            ∙ sym (string_in_front (buffer_number string buffer) string buffer number),
      )

-- ---- the tag string of an opening

module _ (form : ℕ) (o : Opening) where
  pub length_tag_string : length (tag_string form o) ≡ 4 * length (merged_words o.words) + length o.separator + length (tail_of form 0)
  unfolding tag_string
  length_tag_string = length_string form (merged_words o.words) o.separator

  -- every accepted opening's: 64 words of four bytes, 256 bytes, and four
  pub tag_string_short : opening_number o ≡ accepted → length (tag_string form o) ≤ max_string
  tag_string_short e = omega (arith, length_tag_string, tail_short form, few_words o e, (passed_rows o e).short)

  module _ (buffer : List ℕ) where
    -- a number that is not 0: no byte is written
    refuses : (number : ℕ) → write_number form o buffer ≡ number → number ≢ accepted
        → (record { number = number; length = 0 } ≡ written form o buffer) × (buffer ≡ buffer_after form o buffer)
    unfolding written buffer_after
    refuses number same n =
        let refused : write_number form o buffer ≢ accepted = λ z. n (sym same ∙ z) in (
          sym (none_written (write_number form o buffer) (tag_string form o) buffer refused ∙ (λ i. record { number = same i; length = 0 })),
          sym (buffer_left (write_number form o buffer) (tag_string form o) buffer refused),
        )

    pub number_22 : is_form form ≡ false → write_number form o buffer ≡ form_unknown
    unfolding write_number write_rows first_number
    number_22 e = if_true _ _ _ (ap not e)

    pub form_refuses : is_form form ≡ false
        → (record { number = form_unknown; length = 0 } ≡ written form o buffer) × (buffer ≡ buffer_after form o buffer)
    form_refuses e = refuses form_unknown (number_22 e) (λ z. omega (arith, z))

    -- a buffer of so many bytes holds every tag string
    pub room_for_any : opening_number o ≡ accepted → max_string ≤ length buffer → buffer_number (tag_string form o) buffer ≡ accepted
    room_for_any e h = number_0 (tag_string form o) buffer (omega (arith, tag_string_short e))

    module _ (known : is_form form ≡ true) where
      number_behind_form : write_number form o buffer ≡ first_number (opening_rows o ++ buffer_rows (tag_string form o) buffer)
      unfolding write_number write_rows first_number
      number_behind_form = if_false _ _ _ (ap not known)

      pub number_of_check : opening_number o ≢ accepted → write_number form o buffer ≡ opening_number o
      unfolding opening_number
      number_of_check n = number_behind_form ∙ refused_before (opening_rows o) (buffer_rows (tag_string form o) buffer) n

      pub number_of_buffer : opening_number o ≡ accepted → write_number form o buffer ≡ buffer_number (tag_string form o) buffer
      unfolding opening_number buffer_number opening_rows word_rows all ◌and◌
      number_of_buffer e =
          number_behind_form ∙ rows_behind (opening_rows o) (buffer_rows (tag_string form o) buffer) (accepted_none (opening_rows o) refl e)

      pub check_refuses : (number : ℕ) → number ≡ opening_number o → number ≢ accepted
          → (record { number = number; length = 0 } ≡ written form o buffer) × (buffer ≡ buffer_after form o buffer)
      check_refuses number e n = refuses number (number_of_check (λ z. n (e ∙ z)) ∙ sym e) n

      module _ (e : opening_number o ≡ accepted) where
        pub written_accepted : string_written (tag_string form o) buffer ≡ written form o buffer
        unfolding written string_written
        written_accepted = ap (λ (n : ℕ). written_with n (tag_string form o)) (sym (number_of_buffer e))

        pub buffer_accepted : string_buffer (tag_string form o) buffer ≡ buffer_after form o buffer
        unfolding buffer_after string_buffer
        buffer_accepted = ap (λ (n : ℕ). buffer_with n (tag_string form o) buffer) (sym (number_of_buffer e))

    -- the tag string stands in the buffer's front
    pub front_of_buffer : write_number form o buffer ≡ accepted → take (written form o buffer).length (buffer_after form o buffer) ≡ tag_string form o
    unfolding written buffer_after
    front_of_buffer e = front (write_number form o buffer) (tag_string form o) buffer e
