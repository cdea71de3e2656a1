-- Tag strings read back, and tell patterns and separators apart. `tag_string`, `opening_number` and the others are those that the contracts of
-- `pattern` and `tag` cite. An opening, words and a separator, is accepted where the start check's number is 0; what stands for
-- every form number that is one, `is_form form ≡ true`, says of both forms the same.
use Rattle.std.specs.Prelude.{◌≡◌, true, List, ◌≢◌, ◌↔◌, ℕ, ◌%◌, ◌≤◌, ◌<◌, eqb, length, get_or, take}
use Rattle.std.proofs.Common.{sym, ap, ◌∙◌, arith, ne_eqb}
use Rattle.basics.specs.Lists.{Below}
use Rattle.basics.specs.Numbers.{accepted}
use Rattle.words.specs.Words.{is_absorb, length_of}
use Rattle.pattern.specs.Pattern.{phases, merged_words, sound_words}
use Rattle.pattern.proofs.MergedWords.{sound_merged}
use Rattle.pattern.proofs.SoundPattern.{sound_words_law}
use Rattle.pattern.specs.Opening.{Opening, opening, max_call, opening_number, with_words}
use Rattle.cutting.specs.Cutting.{cut_words, cut_number}
use Rattle.cutting.proofs.Openings.{cut_merges, cut_accepted, merged_suffices}
use Rattle.tag.specs.TagString.{is_form, string_of, tag_string, write_number, written, buffer_after, read_number, read_words, words_read, read_separator}
use Rattle.tag.proofs.Writing.{front_of_buffer}
use Rattle.tag.proofs.Forms.{length_in_1}
use Rattle.tag.proofs.Reading.{separator_long}
use Rattle.tag.proofs.ReadBack.{string_words, string_separator, reads_words, words_again, reads_separator, read_sound, read_below, read_short, writes_string, refused_string, strings_tell}
use Rattle.claims.specs.Forms.{forms_by_number}

-- What an accepted call of `write` leaves in the front of the buffer is the tag string of the form.
pub written_string : (form : ℕ) (o : Opening) (buffer : List ℕ) → write_number form o buffer ≡ accepted
    → take (written form o buffer).length (buffer_after form o buffer) ≡ tag_string form o
written_string = front_of_buffer

-- "With its separator's length given, a tag string reads back to the merged pattern and separator it was written from", for every accepted
-- pattern. In form 2 any length may be given: reading "ignores any length given".
pub reading_back : (form : ℕ) → is_form form ≡ true → (o : Opening) → opening_number o ≡ accepted
    → (n : ℕ) → (form ≡ 1 → n ≡ length o.separator)
    → (read_words form (tag_string form o) n ≡ with_words accepted (merged_words o.words))
    × (read_separator form (tag_string form o) n ≡ o.separator)
reading_back form f o e n right = (reads_words form f o e n right, reads_separator form f o e n right)

-- "and writing these gives it again"; "what it reads is written again by cutting longer words into calls of 16,777,216 and any rest, where 64 calls
-- suffice": what reading accepts of a string of bytes, with its words cut, is an accepted pattern, whose tag string of the same form it is.
pub writing_again : (form : ℕ) (string : List ℕ) (n : ℕ) → Below 256 string → read_number form string n ≡ accepted
    → cut_number (words_read form string n) ≡ accepted
    → (opening_number (opening (cut_words max_call (words_read form string n)) (read_separator form string n)) ≡ accepted)
    × (tag_string form (opening (cut_words max_call (words_read form string n)) (read_separator form string n)) ≡ string)
writing_again form string n bytes e suffice =
    let sound = read_sound form string n bytes e in
    let bits = read_below form string n bytes e in (
      cut_accepted (words_read form string n) sound bits suffice (read_separator form string n) (read_short form string n bytes e),
      writes_string form string n bytes e (cut_words max_call (words_read form string n)) (cut_merges (words_read form string n) sound bits),
    )

-- And 64 calls suffice for every string that is the tag string of an accepted pattern, in form 1 with a separator of the length given: where they do
-- not, no such pattern has it.
pub suffices_for_tag_strings : (form : ℕ) → is_form form ≡ true → (string : List ℕ) (n : ℕ)
    → (o : Opening) → opening_number o ≡ accepted → (form ≡ 1 → n ≡ length o.separator) → tag_string form o ≡ string
    → cut_number (words_read form string n) ≡ accepted
suffices_for_tag_strings form f string n o a right same =
    ap cut_number (sym (ap (λ (s : List ℕ). words_read form s n) same) ∙ words_again form f o a n right) ∙ merged_suffices o a

-- "Reading still takes any 31-bit length": whatever sound words and separator of at most 256 bytes a string is made of, it reads back to them.
pub reading_any_length : (form : ℕ) → is_form form ≡ true → (ws separator : List ℕ) → sound_words ws ≡ true → Below 4294967296 ws → length separator ≤ 256
    → (n : ℕ) → (form ≡ 1 → n ≡ length separator)
    → (read_words form (string_of form ws separator) n ≡ with_words accepted ws) × (read_separator form (string_of form ws separator) n ≡ separator)
reading_any_length form f ws separator e bits short n right =
    (string_words form f ws separator e bits short n right, string_separator form f ws separator e bits short n right)

-- And whatever it accepts are sound words and a separator, of the length given in form 1, of which the string is made.
pub read_strings_are_sound : (form : ℕ) (string : List ℕ) (n : ℕ) → Below 256 string → read_number form string n ≡ accepted
    → (sound_words (words_read form string n) ≡ true) × (form ≡ 1 → length (read_separator form string n) ≡ n)
    × (string_of form (words_read form string n) (read_separator form string n) ≡ string)
unfolding tag_string
read_strings_are_sound form string n bytes e =
    let sound = read_sound form string n bytes e in
    let merges = sound_merged (words_read form string n) sound (read_below form string n bytes e) in (
      sound,
      λ one. separator_long form string n e ∙ length_in_1 form (ne_eqb form 2 (λ two. omega (arith, one, two))) string n,
      sym (ap (λ (ws : List ℕ). string_of form ws (read_separator form string n)) merges)
          ∙ writes_string form string n bytes e (words_read form string n) merges,
    )

-- "a sound record's word list": 1 to 64 words that alternate from ABSORB and have lengths of at least 1, and nothing else.
pub sound_word_lists : (ws : List ℕ)
    → (sound_words ws ≡ true)
    ↔ ((1 ≤ length ws) × (length ws ≤ 64)
    × ((i : ℕ) → i < length ws → (is_absorb (get_or ws i 0) ≡ eqb (i % 2) 0) × (1 ≤ length_of (get_or ws i 0))))
sound_word_lists = sound_words_law

-- "no tag string of that separator length": what reading refuses in a form, with 13 or 6, is the tag string in that form of no accepted pattern, in
-- form 1 with a separator of the length given.
pub no_tag_string : (form : ℕ) → is_form form ≡ true → (string : List ℕ) (n : ℕ) → read_number form string n ≢ accepted
    → (o : Opening) → opening_number o ≡ accepted → (form ≡ 1 → n ≡ length o.separator) → tag_string form o ≢ string
no_tag_string = refused_string

-- "the two tag strings are equal exactly when merged patterns and separators are both equal", in form 1 for separators of equal length in bytes.
-- Merged patterns are compared as kinds and lengths.
pub tag_strings_tell : (form : ℕ) → is_form form ≡ true → (a b : Opening) → opening_number a ≡ accepted → opening_number b ≡ accepted
    → (form ≡ 1 → length a.separator ≡ length b.separator)
    → (tag_string form a ≡ tag_string form b) ↔ ((phases a.words ≡ phases b.words) × (a.separator ≡ b.separator))
tag_strings_tell = strings_tell

-- "Among form 2 sessions of one field, tag strings tell patterns and separators whatever the lengths."
pub form_2_strings_tell : (a b : Opening) → opening_number a ≡ accepted → opening_number b ≡ accepted
    → (tag_string 2 a ≡ tag_string 2 b) ↔ ((phases a.words ≡ phases b.words) × (a.separator ≡ b.separator))
form_2_strings_tell a b e f = strings_tell 2 forms_by_number.1 a b e f (λ z. absurd (omega (arith, z)))
