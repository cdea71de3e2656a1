-- The numbers of refusals: none is 0, and each has two digits at most.
-- Assumes nothing.
use mathlib.Core.Path.{◌≡◌, refl, sym, ◌∙◌}
use mathlib.Core.Bool.{true, false}
use mathlib.Core.Logic.{◌≢◌}
use Prim.Native.Nat.{◌≤◌}
use borrow.Author.Tests.{eqb-false, leb-true}
use lib.Dec.{eqb, leb}
use Rattle.std.specs.Prelude.{Result, Ok, Err, IsOk}
use Rattle.basics.specs.Answers.{number_of, answer_number}
use Rattle.basics.specs.Numbers.{accepted}
use Rattle.basics.specs.declared.Refusal.{Refusal}
use Rattle.basics.specs.declared.Refusal.TheVariants.{WordCountOutOfRange, WordLengthZero, FirstWordSqueeze, LastWordAbsorb, MergedLengthTooLong, SeparatorTooLong, RecordNotOpen, RecordNotSound, CallNotInPattern, ElementNotReduced, PatternNotDone, BufferTooShort, NotTagString, NotCard, OwnersRowInvalid, OwnersGap, SeparatorTooShort, FieldUnknown, CallTooLong, SealLengthInvalid, MarkDiffers, FormUnknown}

told : (r : Refusal) → (eqb (number_of r) accepted ≡ false) × (leb (number_of r) 99 ≡ true)
unfolding number_of
told WordCountOutOfRange = (refl, refl)
told WordLengthZero = (refl, refl)
told FirstWordSqueeze = (refl, refl)
told LastWordAbsorb = (refl, refl)
told MergedLengthTooLong = (refl, refl)
told SeparatorTooLong = (refl, refl)
told RecordNotOpen = (refl, refl)
told RecordNotSound = (refl, refl)
told CallNotInPattern = (refl, refl)
told ElementNotReduced = (refl, refl)
told PatternNotDone = (refl, refl)
told BufferTooShort = (refl, refl)
told NotTagString = (refl, refl)
told NotCard = (refl, refl)
told OwnersRowInvalid = (refl, refl)
told OwnersGap = (refl, refl)
told SeparatorTooShort = (refl, refl)
told FieldUnknown = (refl, refl)
told CallTooLong = (refl, refl)
told SealLengthInvalid = (refl, refl)
told MarkDiffers = (refl, refl)
told FormUnknown = (refl, refl)

pub refusal_some : (r : Refusal) → number_of r ≢ accepted
refusal_some r = eqb-false _ accepted (told r).0

pub refusal_small : (r : Refusal) → number_of r ≤ 99
refusal_small r = leb-true _ _ (told r).1

-- an answer that is accepted gives something
pub accepted_ok : {A : Type 0} (r : Result A Refusal) → answer_number r ≡ accepted → IsOk r
unfolding answer_number
accepted_ok (Ok a) e = refl
accepted_ok (Err refusal) e = absurd (refusal_some refusal e)
