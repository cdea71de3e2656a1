-- What a call answers with, as the number that stands for it in document 01's table under "Calls turned away".
use Rattle.std.specs.Prelude.{ℕ, Result, Ok, Err}
use Rattle.basics.specs.Numbers.{accepted, word_count_out_of_range, word_length_zero, first_word_squeeze, last_word_absorb, merged_length_too_long, separator_too_long, record_not_open, record_not_sound, call_not_in_pattern, element_not_reduced, pattern_not_done, buffer_too_short, not_tag_string, not_card, owners_row_invalid, owners_gap, separator_too_short, field_unknown, call_too_long, seal_length_invalid, mark_differs, form_unknown}
use Rattle.basics.specs.declared.Refusal.{Refusal}
use Rattle.basics.specs.declared.Refusal.TheVariants.{WordCountOutOfRange, WordLengthZero, FirstWordSqueeze, LastWordAbsorb, MergedLengthTooLong, SeparatorTooLong, RecordNotOpen, RecordNotSound, CallNotInPattern, ElementNotReduced, PatternNotDone, BufferTooShort, NotTagString, NotCard, OwnersRowInvalid, OwnersGap, SeparatorTooShort, FieldUnknown, CallTooLong, SealLengthInvalid, MarkDiffers, FormUnknown}

-- the number of a refusal
unfoldable pub number_of : Refusal → ℕ
number_of WordCountOutOfRange = word_count_out_of_range
number_of WordLengthZero = word_length_zero
number_of FirstWordSqueeze = first_word_squeeze
number_of LastWordAbsorb = last_word_absorb
number_of MergedLengthTooLong = merged_length_too_long
number_of SeparatorTooLong = separator_too_long
number_of RecordNotOpen = record_not_open
number_of RecordNotSound = record_not_sound
number_of CallNotInPattern = call_not_in_pattern
number_of ElementNotReduced = element_not_reduced
number_of PatternNotDone = pattern_not_done
number_of BufferTooShort = buffer_too_short
number_of NotTagString = not_tag_string
number_of NotCard = not_card
number_of OwnersRowInvalid = owners_row_invalid
number_of OwnersGap = owners_gap
number_of SeparatorTooShort = separator_too_short
number_of FieldUnknown = field_unknown
number_of CallTooLong = call_too_long
number_of SealLengthInvalid = seal_length_invalid
number_of MarkDiffers = mark_differs
number_of FormUnknown = form_unknown

-- the number of an answer: a call that gives something is accepted
unfoldable pub answer_number : {A : Type 0} → Result A Refusal → ℕ
answer_number (Ok _) = accepted
answer_number (Err refusal) = number_of refusal
