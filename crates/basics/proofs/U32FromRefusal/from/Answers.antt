use Rattle.std.proofs.Common.{◌≡◌, refl, ◌+◌}
use denote.Enum.Declared.{tag_of}
use Rattle.basics.specs.contracts.Refusal.{the_type}
use Rattle.basics.specs.Answers.{number_of}
use Rattle.basics.specs.declared.Refusal.{Refusal}
use Rattle.basics.specs.declared.Refusal.TheVariants.{WordCountOutOfRange, WordLengthZero, FirstWordSqueeze, LastWordAbsorb, MergedLengthTooLong, SeparatorTooLong, RecordNotOpen, RecordNotSound, CallNotInPattern, ElementNotReduced, PatternNotDone, BufferTooShort, NotTagString, NotCard, OwnersRowInvalid, OwnersGap, SeparatorTooShort, FieldUnknown, CallTooLong, SealLengthInvalid, MarkDiffers, FormUnknown}
use Rattle.basics.proofs.U32FromRefusal.from.Goals as goal

-- the numbers of the variants are those of the table
numbers : (refusal : Refusal) → tag_of the_type refusal + 1 ≡ number_of refusal
unfolding number_of
numbers WordCountOutOfRange = refl
numbers WordLengthZero = refl
numbers FirstWordSqueeze = refl
numbers LastWordAbsorb = refl
numbers MergedLengthTooLong = refl
numbers SeparatorTooLong = refl
numbers RecordNotOpen = refl
numbers RecordNotSound = refl
numbers CallNotInPattern = refl
numbers ElementNotReduced = refl
numbers PatternNotDone = refl
numbers BufferTooShort = refl
numbers NotTagString = refl
numbers NotCard = refl
numbers OwnersRowInvalid = refl
numbers OwnersGap = refl
numbers SeparatorTooShort = refl
numbers FieldUnknown = refl
numbers CallTooLong = refl
numbers SealLengthInvalid = refl
numbers MarkDiffers = refl
numbers FormUnknown = refl

-- src/lib.rt:86:5
pub returns : goal.returns
returns c = numbers c.args.refusal
