-- The numbers of refusals: one alone is 19.
-- Assumes nothing.
use mathlib.Core.Path.{◌≡◌, refl}
use denote.Enum.Bare.{sameb}
use lib.Dec.{eqb}
use Rattle.basics.specs.Answers.{number_of}
use Rattle.basics.specs.Numbers.{call_too_long}
use Rattle.basics.specs.contracts.Refusal.{the_type}
use Rattle.basics.specs.declared.Refusal.{Refusal}
use Rattle.basics.specs.declared.Refusal.TheVariants.{WordCountOutOfRange, WordLengthZero, FirstWordSqueeze, LastWordAbsorb, MergedLengthTooLong, SeparatorTooLong, RecordNotOpen, RecordNotSound, CallNotInPattern, ElementNotReduced, PatternNotDone, BufferTooShort, NotTagString, NotCard, OwnersRowInvalid, OwnersGap, SeparatorTooShort, FieldUnknown, CallTooLong, SealLengthInvalid, MarkDiffers, FormUnknown}

pub is_too_long : (r : Refusal) → sameb the_type r CallTooLong ≡ eqb (number_of r) call_too_long
unfolding number_of
is_too_long WordCountOutOfRange = refl
is_too_long WordLengthZero = refl
is_too_long FirstWordSqueeze = refl
is_too_long LastWordAbsorb = refl
is_too_long MergedLengthTooLong = refl
is_too_long SeparatorTooLong = refl
is_too_long RecordNotOpen = refl
is_too_long RecordNotSound = refl
is_too_long CallNotInPattern = refl
is_too_long ElementNotReduced = refl
is_too_long PatternNotDone = refl
is_too_long BufferTooShort = refl
is_too_long NotTagString = refl
is_too_long NotCard = refl
is_too_long OwnersRowInvalid = refl
is_too_long OwnersGap = refl
is_too_long SeparatorTooShort = refl
is_too_long FieldUnknown = refl
is_too_long CallTooLong = refl
is_too_long SealLengthInvalid = refl
is_too_long MarkDiffers = refl
is_too_long FormUnknown = refl
