-- The two forms of tag strings of document 02, P8: the numbers that name them, the strings, what START, writing, reading and records do with a form
-- number, and where reading finds a separator. What tag strings of a form tell is in `TagStrings`.
use Rattle.std.specs.Prelude.{◌≡◌, refl, true, false, List, [], ◌∷◌, ◌++◌, ◌≢◌, ℕ, ◌+◌, ◌-◌, ◌*◌, ◌/◌, ◌%◌, ◌<◌, length, get_or, take, drop, replicate}
use Rattle.std.proofs.Common.{ap, ◌∙◌, append-nil, zero-add, arith, eq-eqb, ne_eqb, length-take-le, drop_at}
use Rattle.std.proofs.Math.Nat.{div-div-eq-div-mul}
use Rattle.basics.specs.Logic.{when◌then◌else◌, ◌and◌, ◌or◌, same, all, any}
use Rattle.basics.specs.Lists.{tabulate, placed}
use Rattle.basics.specs.Digits.{digits, number, number_after}
use Rattle.basics.specs.Numbers.{accepted, record_not_sound, form_unknown}
use Rattle.basics.specs.Refusals.{first_number}
use Rattle.basics.proofs.Cases.{or_neither, cases, and_step, and_stop}
use Rattle.basics.proofs.Fill.{length_tabulate, tabulate_at}
use Rattle.field.specs.Field.{is_field}
use Rattle.sha3.specs.Sponge.{sha3}
use Rattle.words.specs.Words.{is_absorb, length_of, phase_of, word_of}
use Rattle.pattern.specs.Pattern.{join, merge, phases, merged_words, alternate, sound_words}
use Rattle.pattern.specs.Opening.{Opening, opening, word_rows, opening_rows, given, with_words, answer_with}
use Rattle.tag.specs.TagString.{buffer_rows, write_rows, write_number, written_with, buffer_with, word_at, words_of, words_part, separator_part, sound_bytes, words_read}
use Rattle.tag.specs.TagString.{is_form, word_bytes, tail_of, string_of, tag_string, written, buffer_after, body_of, length_in, tail_missing, body_rows, read_rows, read_number, read_words, read_separator, separator_start}
use Rattle.tag.specs.Elements.{tag_elements}
use Rattle.tag.proofs.Forms.{body_1, body_2, tail_there_2}
use Rattle.tag.proofs.Writing.{form_refuses}
use Rattle.tag.proofs.Reading.{number_22, read_refused, separator_refused, start_refused, accepted_string}
use Rattle.tag_reader.proofs.Place.{sum, separator_there}
use Rattle.session.specs.Record.{tag_state, wiped, opened, open_record}
use Rattle.session.specs.Soundness.{sound}
use Rattle.session.specs.Calls.{giving, start_record, start}
use Rattle.session.specs.declared.Session.{Session}
use Rattle.session.proofs.Opening.{start_form_unknown}
use Rattle.session.proofs.SoundRecord.{parts}
use Rattle.runs.specs.Calls.{Call, answered, left_by}
use Rattle.runs.proofs.Opened.{start_record_law}
use Rattle.runs.proofs.Counted.{start_form}
use Rattle.runs.proofs.SamePattern.{same_left_by}
use Rattle.runs.proofs.EnclosedCalls.{not_sound_refused}

-- ---- the numbers and the strings

-- "a form number, 1 for today's string", and 2
pub forms_by_number : (is_form 1 ≡ true) × (is_form 2 ≡ true)
unfolding is_form ◌or◌
forms_by_number = (refl, refl)

-- "form number neither 1 nor 2": no other number names a form.
pub no_third_form : (n : ℕ) → n ≢ 1 → n ≢ 2 → is_form n ≡ false
unfolding is_form
no_third_form n first second = or_neither _ _ (ne_eqb n 1 first) (ne_eqb n 2 second)

-- "1 for today's string": "the merged words, four bytes each, highest byte first, then the separator"; "form 2: words, separator, then the separator's
-- length as four bytes, highest first".
pub tag_strings_by_form : (o : Opening)
    → (tag_string 1 o ≡ word_bytes (merged_words o.words) ++ o.separator)
    × (tag_string 2 o ≡ word_bytes (merged_words o.words) ++ o.separator ++ digits 256 4 (length o.separator))
unfolding tag_string string_of tail_of when◌then◌else◌
tag_strings_by_form o = (append-nil (word_bytes (merged_words o.words) ++ o.separator), refl)

-- The same, with the four bytes of the length by division.
pub tag_strings_byte_by_byte : (o : Opening)
    → (tag_string 1 o ≡ word_bytes (merged_words o.words) ++ o.separator)
    × (let n = length o.separator in
    tag_string 2 o
    ≡ word_bytes (merged_words o.words) ++ o.separator ++ (n / 16777216 % 256 ∷ n / 65536 % 256 ∷ n / 256 % 256 ∷ n % 256 ∷ []))
unfolding tag_string string_of tail_of digits when◌then◌else◌
tag_strings_byte_by_byte o = (
  append-nil (word_bytes (merged_words o.words) ++ o.separator),
  rw (div-div-eq-div-mul (length o.separator) 256 256, div-div-eq-div-mul (length o.separator) 65536 256) refl,
)

-- "four bytes each, highest byte first": a word's four bytes, before those of the others.
pub bytes_of_each_word : (w : ℕ) (ws : List ℕ)
    → (word_bytes [] ≡ [])
    × (word_bytes (w ∷ ws) ≡ w / 16777216 % 256 ∷ w / 65536 % 256 ∷ w / 256 % 256 ∷ w % 256 ∷ word_bytes ws)
unfolding word_bytes digits
bytes_of_each_word w ws =
    (refl, rw (div-div-eq-div-mul w 256 256, div-div-eq-div-mul w 65536 256) refl)

-- "Read the 32 digest bytes as eight words, highest byte first; keep the low 30 bits of each word.": element k of a tag, of the four bytes that stand
-- behind 4 times k others.
pub elements_of_a_tag : (before : List ℕ) (a b c d : ℕ) (after : List ℕ) (k : ℕ) → k < 8 → length before ≡ 4 * k
    → let elements = tag_elements (before ++ (a ∷ b ∷ c ∷ d ∷ after)) in
    (length elements ≡ 8) × (get_or elements k 0 ≡ (((a * 256 + b) * 256 + c) * 256 + d) % 1073741824)
unfolding tag_elements word_at number number_after
elements_of_a_tag before a b c d after k h e =
    let digest = before ++ (a ∷ b ∷ c ∷ d ∷ after) in
    let low : List ℕ → ℕ = λ rest. number 256 (take 4 rest) % 1073741824 in (
      length_tabulate 8 _,
      tabulate_at 8 _ k h ∙ ap low (drop_at before _ (4 * k) e) ∙ ap (λ (x : ℕ). (((x * 256 + b) * 256 + c) * 256 + d) % 1073741824) (zero-add a),
    )

-- ---- START and records

-- "22: form number neither 1 nor 2, straight after 18": with a field's number, whatever words and separator there are, and the record is wiped.
pub unknown_form_at_start : (field form : ℕ) (o : Opening) → is_field field ≡ true → is_form form ≡ false → start field form o ≡ giving form_unknown wiped
unknown_form_at_start = start_form_unknown

-- START hashes the string of the form that it gets.
pub start_hashes_its_form : (field form : ℕ) (o : Opening) → (start field form o).number ≡ accepted
    → (start field form o).session.state ≡ tag_state (tag_elements (sha3 (tag_string form o)))
unfolding start_record open_record
start_hashes_its_form field form o e = ap (λ (r : Session). r.state) (start_record_law field form o e)

-- "and the record keeps it": START's record has it, and whatever calls leave open has it still.
pub start_keeps_the_form : (field form : ℕ) (o : Opening) → (start field form o).number ≡ accepted → (start field form o).session.form ≡ form
start_keeps_the_form = start_form

pub calls_keep_the_form : (field form : ℕ) (o : Opening) → (start field form o).number ≡ accepted → (cs : List Call)
    → let r = left_by (start field form o).session cs in
    r.status ≡ opened → r.form ≡ form
calls_keep_the_form field form o e cs still = (same_left_by (start field form o).session cs (eq-eqb _ _ still)).form ∙ start_form field form o e

-- "a record with another isn't sound"
pub sound_records_name_a_form : (r : Session) → sound r ≡ true → is_form r.form ≡ true
sound_records_name_a_form r e = (parts r e).formed

-- An open record with another number gets 8 from every call, and is left as it was.
pub other_form_numbers_get_8 : (r : Session) (c : Call) → r.status ≡ opened → is_form r.form ≡ false → answered r c ≡ giving record_not_sound r
unfolding sound
other_form_numbers_get_8 r c opens e =
    not_sound_refused r c (eq-eqb _ _ opens)
    (cases (is_field r.field) (λ known. and_step _ _ known ∙ and_stop _ _ e) (λ unknown. and_stop _ _ unknown))

-- ---- writing and reading

-- 22 "elsewhere first": writing gives it whatever the pattern, the separator and the buffer are, and writes no byte;
pub unknown_form_at_writing : (form : ℕ) (o : Opening) (buffer : List ℕ) → is_form form ≡ false
    → (record { number = form_unknown; length = 0 } ≡ written form o buffer) × (buffer ≡ buffer_after form o buffer)
unknown_form_at_writing = form_refuses

-- reading gives it whatever the string and the length given are, with no words, and with the empty separator at the string's end.
pub unknown_form_at_reading : (form : ℕ) (s : List ℕ) (n : ℕ) → is_form form ≡ false
    → (read_words form s n ≡ with_words form_unknown []) × (read_separator form s n ≡ []) × (separator_start form s n ≡ length s)
unknown_form_at_reading form s n e =
    let number = number_22 form s n e in
    let refused : read_number form s n ≢ accepted = λ z. omega (arith, number, z) in
    (read_refused form s n form_unknown refl number, separator_refused form s n refused, start_refused form s n refused)

-- "Reading form 2 goes by the string's last four bytes and ignores any length given.": all that reading gives is the same with every length.
pub length_given_is_ignored : (s : List ℕ) (n m : ℕ)
    → (read_words 2 s n ≡ read_words 2 s m) × (read_separator 2 s n ≡ read_separator 2 s m) × (separator_start 2 s n ≡ separator_start 2 s m)
unfolding read_words read_separator separator_start read_number read_rows length_in when◌then◌else◌
length_given_is_ignored s n m = (refl, refl, refl)

-- "the separator comes back as that part of the string itself": from its place on, so many bytes; accepted, it ends where the string ends, and in form 2
-- four bytes before; refused, it is "empty", and at the string's end.
pub separator_lies_in_the_string : (form : ℕ) (s : List ℕ) (n : ℕ)
    → let place = separator_start form s n in
    let size = length (read_separator form s n) in
    (take size (drop place s) ≡ read_separator form s n)
    × (read_number form s n ≡ accepted → (form ≡ 1 → place + size ≡ length s) × (form ≡ 2 → place + size + 4 ≡ length s))
    × (read_number form s n ≢ accepted → (place ≡ length s) × (size ≡ 0))
separator_lies_in_the_string form s n = (
  separator_there form s n,
  λ e. (
    λ one. sum form s n e ∙ ap length (body_1 form (ne_eqb form 2 (λ two. omega (arith, one, two))) s),
    λ two.
        let e2 = eq-eqb form 2 two in
        let four = tail_there_2 form e2 s (accepted_string form s n e).there in
        let long = ap length (body_2 form e2 s) ∙ length-take-le (length s - 4) s (omega arith) in
        omega (arith, sum form s n e, four, long),
  ),
  λ z. (start_refused form s n z, ap length (separator_refused form s n z)),
)

-- ---- by hand

-- B1 has ten bytes in form 1 and fourteen in form 2: "9 bytes for case B1" are too few, and in form 2 so are thirteen.
pub buffers_for_b1 :
    let o = opening (0x80000003 ∷ 0x80000003 ∷ 3 ∷ []) (0x41 ∷ 0x42 ∷ []) in
    (◌≡◌ {A = ℕ} (written 1 o (replicate 9 7)).number 12) × (◌≡◌ {A = ℕ} (written 1 o (replicate 10 7)).number 0)
    × (◌≡◌ {A = ℕ} (written 2 o (replicate 13 7)).number 12) × (◌≡◌ {A = ℕ} (written 2 o (replicate 14 7)).number 0)
    × (buffer_after 2 o (replicate 16 7) ≡ 0x80 ∷ 0 ∷ 0 ∷ 6 ∷ 0 ∷ 0 ∷ 0 ∷ 3 ∷ 0x41 ∷ 0x42 ∷ 0 ∷ 0 ∷ 0 ∷ 2 ∷ 7 ∷ 7 ∷ [])
unfolding written written_with write_number write_rows buffer_rows buffer_after buffer_with given placed opening_rows word_rows first_number is_form tag_string string_of tail_of word_bytes digits merged_words phases merge join
    phase_of word_of is_absorb length_of when◌then◌else◌ ◌and◌ ◌or◌ any same
buffers_for_b1 = (refl, refl, refl, refl, refl)

-- A separator of 256 bytes, the longest: its length is 00 00 01 00.
pub longest_separator : drop 260 (tag_string 2 (opening (0x80000001 ∷ []) (replicate 256 7))) ≡ 0 ∷ 0 ∷ 1 ∷ 0 ∷ []
unfolding tag_string string_of tail_of word_bytes digits merged_words phases merge join phase_of word_of is_absorb length_of when◌then◌else◌
longest_separator = refl

-- Strings of form 2 with the empty separator, and with 41 42, which begins at place 4.
pub strings_that_read :
    (◌≡◌ {A = ℕ} (read_words 2 (0x80 ∷ 0 ∷ 0 ∷ 1 ∷ 0 ∷ 0 ∷ 0 ∷ 0 ∷ []) 0).number 0)
    × (◌≡◌ {A = ℕ} (read_words 2 (0x80 ∷ 0 ∷ 0 ∷ 1 ∷ 0x41 ∷ 0x42 ∷ 0 ∷ 0 ∷ 0 ∷ 2 ∷ []) 9).number 0)
    × (read_separator 2 (0x80 ∷ 0 ∷ 0 ∷ 1 ∷ 0x41 ∷ 0x42 ∷ 0 ∷ 0 ∷ 0 ∷ 2 ∷ []) 9 ≡ 0x41 ∷ 0x42 ∷ [])
    × (◌≡◌ {A = ℕ} (separator_start 2 (0x80 ∷ 0 ∷ 0 ∷ 1 ∷ 0x41 ∷ 0x42 ∷ 0 ∷ 0 ∷ 0 ∷ 2 ∷ []) 9) 4)
    × (words_read 2 (0x80 ∷ 0 ∷ 0 ∷ 1 ∷ 0x41 ∷ 0x42 ∷ 0 ∷ 0 ∷ 0 ∷ 2 ∷ []) 9 ≡ 0x80000001 ∷ [])
unfolding read_words answer_with with_words given read_separator separator_start separator_part read_number read_rows body_rows body_of length_in tail_missing is_form sound_bytes words_part words_of word_at
    first_number sound_words alternate is_absorb length_of number number_after tabulate when◌then◌else◌ ◌and◌ ◌or◌ same all
strings_that_read = (refl, refl, refl, refl, refl)

-- "a string under four bytes, or one whose tail names more bytes than precede it, gets 13, and a tail above 256 gets 6 before that": three bytes; a tail that
-- names 1, where none precede it, and 5, where four do; 257 and 2^32 - 1, where fewer precede; and no words at all.
pub strings_refused :
    (◌≡◌ {A = ℕ} (read_words 2 (0 ∷ 0 ∷ 0 ∷ []) 0).number 13)
    × (◌≡◌ {A = ℕ} (read_words 2 (0 ∷ 0 ∷ 0 ∷ 1 ∷ []) 0).number 13)
    × (◌≡◌ {A = ℕ} (read_words 2 (0x80 ∷ 0 ∷ 0 ∷ 1 ∷ 0 ∷ 0 ∷ 0 ∷ 5 ∷ []) 0).number 13)
    × (◌≡◌ {A = ℕ} (read_words 2 (0 ∷ 0 ∷ 1 ∷ 1 ∷ []) 0).number 6)
    × (◌≡◌ {A = ℕ} (read_words 2 (0xff ∷ 0xff ∷ 0xff ∷ 0xff ∷ []) 0).number 6)
    × (◌≡◌ {A = ℕ} (read_words 2 (0 ∷ 0 ∷ 0 ∷ 0 ∷ []) 0).number 13)
unfolding read_words answer_with with_words given read_number read_rows body_rows body_of length_in tail_missing is_form sound_bytes words_part words_of word_at first_number sound_words alternate is_absorb length_of number number_after tabulate
    when◌then◌else◌ ◌and◌ ◌or◌ same all
strings_refused = (refl, refl, refl, refl, refl, refl)
