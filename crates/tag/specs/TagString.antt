-- Tag strings, written and read. From document 01, "Tags" and "Calls turned away", and document 02, P8.
use Rattle.std.specs.Prelude.{Bool, not, List, [], ◌∷◌, ◌++◌, ℕ, ◌+◌, ◌-◌, ◌*◌, ◌/◌, ◌%◌, ltb, eqb, length, take, drop}
use Rattle.basics.specs.Logic.{when◌then◌else◌, ◌and◌, ◌or◌}
use Rattle.basics.specs.Lists.{tabulate, placed}
use Rattle.basics.specs.Digits.{digits, number}
use Rattle.basics.specs.Numbers.{accepted, separator_too_long, buffer_too_short, not_tag_string, form_unknown}
use Rattle.basics.specs.Refusals.{Row, ◌gets◌⨾◌, first_number}
use Rattle.pattern.specs.Pattern.{max_words, merged_words, sound_words}
use Rattle.pattern.specs.Opening.{Opening, WordList, max_separator, opening_rows, given, answer_with}

-- "a form number, 1 for today's string", and 2 for the other
unfoldable pub is_form : ℕ → Bool
is_form form = eqb form 1 or eqb form 2

-- words as bytes: "four bytes each, highest byte first" (big-endian)
unfoldable pub word_bytes : List ℕ → List ℕ
word_bytes [] = []
word_bytes (w ∷ ws) = digits 256 4 w ++ word_bytes ws

-- what stands behind a separator of n bytes: nothing in form 1, and in form 2 "the separator's length as four bytes, highest first". A number that is no
-- form has form 1's string: START, writing and reading ask `is_form` first, and `tag::write_string` alone takes any number.
unfoldable pub tail_of : ℕ → ℕ → List ℕ
tail_of form n = when eqb form 2 then digits 256 4 n else []

-- the string of merged words and a separator: "words, separator, then the separator's length" in form 2
unfoldable pub string_of : ℕ → List ℕ → List ℕ → List ℕ
string_of form ws separator = word_bytes ws ++ separator ++ tail_of form (length separator)

-- "The tag string is the merged words, four bytes each, highest byte first, then the separator.", and form 2's tail
unfoldable pub tag_string : ℕ → Opening → List ℕ
tag_string form o = string_of form (merged_words o.words) o.separator

-- the longest tag string of an accepted opening, in bytes: one of form 2
abbrev pub max_string : ℕ
max_string = 4 * max_words + max_separator + 4

-- "lent buffer shorter than the tag string": the row of a string and a buffer
unfoldable pub buffer_rows : List ℕ → List ℕ → List Row
buffer_rows string buffer = ltb (length buffer) (length string) gets buffer_too_short ⨾ []

-- the number that writing a string to a buffer gets
unfoldable pub buffer_number : List ℕ → List ℕ → ℕ
buffer_number string buffer = first_number (buffer_rows string buffer)

-- "Writing checks 1 to 6, then 12", with 19 among the first (document 02, P4), and before them 22: "form number neither 1 nor 2, straight after 18 where
-- both are checked, elsewhere first"
unfoldable pub write_rows : ℕ → Opening → List ℕ → List Row
write_rows form o buffer = not (is_form form) gets form_unknown ⨾ opening_rows o ++ buffer_rows (tag_string form o) buffer

-- the number that writing gets
unfoldable pub write_number : ℕ → Opening → List ℕ → ℕ
write_number form o buffer = first_number (write_rows form o buffer)

-- a number, and how many bytes are written
pub record Written : Type 0 where
  pub number : ℕ
  pub length : ℕ

-- what writing a string answers: the number, and how many bytes were written, "none when refused"
unfoldable pub written_with : ℕ → List ℕ → Written
written_with number string = record { number = number; length = length (given number string) }

-- the buffer then: "it writes from the buffer's start and only the string's bytes, and none when refused"
unfoldable pub buffer_with : ℕ → List ℕ → List ℕ → List ℕ
buffer_with number string buffer = placed buffer 0 (given number string)

-- the answer of writing a string to a buffer, whatever string it is
unfoldable pub string_written : List ℕ → List ℕ → Written
string_written string buffer = written_with (buffer_number string buffer) string

-- the buffer that this leaves
unfoldable pub string_buffer : List ℕ → List ℕ → List ℕ
string_buffer string buffer = buffer_with (buffer_number string buffer) string buffer

-- writing's answer
unfoldable pub written : ℕ → Opening → List ℕ → Written
written form o buffer = written_with (write_number form o buffer) (tag_string form o)

-- the buffer that writing leaves
unfoldable pub buffer_after : ℕ → Opening → List ℕ → List ℕ
buffer_after form o buffer = buffer_with (write_number form o buffer) (tag_string form o) buffer

-- the word k of a string, four bytes each, highest byte first
unfoldable pub word_at : List ℕ → ℕ → ℕ
word_at s k = number 256 (take 4 (drop (4 * k) s))

-- the words of a string
unfoldable pub words_of : List ℕ → List ℕ
words_of s = tabulate (length s / 4) (word_at s)

-- what precedes the tail: the whole string in form 1, and in form 2 all but "the string's last four bytes"
unfoldable pub body_of : ℕ → List ℕ → List ℕ
body_of form s = when eqb form 2 then take (length s - 4) s else s

-- the separator's length, where n is the length given: "Reading form 2 goes by the string's last four bytes and ignores any length given."
unfoldable pub length_in : ℕ → List ℕ → ℕ → ℕ
length_in form s n = when eqb form 2 then number 256 (drop (length s - 4) s) else n

-- what precedes a separator of n bytes, in what precedes the tail
unfoldable pub words_part : List ℕ → ℕ → List ℕ
words_part body n = take (length body - n) body

-- the last n bytes of what precedes the tail
unfoldable pub separator_part : List ℕ → ℕ → List ℕ
separator_part body n = drop (length body - n) body

-- "a sound record's word list in whole words"
unfoldable pub sound_bytes : List ℕ → Bool
sound_bytes s = eqb (length s % 4) 0 and sound_words (words_of s)

-- "Reading checks 6 (the length given), then 13: the string is shorter than that length, or what precedes it isn't a sound record's
-- word list in whole words."; of form 2: "one whose tail names more bytes than precede it, gets 13, and a tail above 256 gets 6 before that"
unfoldable pub body_rows : List ℕ → ℕ → List Row
body_rows body n =
    ltb max_separator n gets separator_too_long ⨾
    ltb (length body) n gets not_tag_string ⨾
    not (sound_bytes (words_part body n)) gets not_tag_string ⨾
    []

-- "In form 2 a string under four bytes", which has no tail
unfoldable pub tail_missing : ℕ → List ℕ → Bool
tail_missing form s = eqb form 2 and ltb (length s) 4

-- before these 22, "elsewhere first", and 13 where the tail is missing
unfoldable pub read_rows : ℕ → List ℕ → ℕ → List Row
read_rows form s n =
    not (is_form form) gets form_unknown ⨾
    tail_missing form s gets not_tag_string ⨾
    body_rows (body_of form s) (length_in form s n)

-- the number that reading gets
unfoldable pub read_number : ℕ → List ℕ → ℕ → ℕ
read_number form s n = first_number (read_rows form s n)

-- "The merged words come back by value"; "Refused, it gives 64 zero words and count 0."
unfoldable pub read_words : ℕ → List ℕ → ℕ → WordList
read_words form s n = answer_with (read_number form s n) (words_of (words_part (body_of form s) (length_in form s n)))

-- the words that reading gives, without the places that are not used
abbrev pub words_read : ℕ → List ℕ → ℕ → List ℕ
words_read form s n = take (read_words form s n).count (read_words form s n).words

-- "the separator comes back as that part of the string itself (empty on a refusal)"
unfoldable pub read_separator : ℕ → List ℕ → ℕ → List ℕ
read_separator form s n = given (read_number form s n) (separator_part (body_of form s) (length_in form s n))

-- where that part begins: behind the words, and on a refusal at the string's end
unfoldable pub separator_start : ℕ → List ℕ → ℕ → ℕ
separator_start form s n =
    when eqb (read_number form s n) accepted then length (words_part (body_of form s) (length_in form s n)) else length s
