-- `session::Session::refuse` meets its contract.
-- Assumes nothing.
use mathlib.Core.Path.{◌≡◌, refl, sym, ap, ◌∙◌}
use mathlib.Core.Bool.{true, false}
use mathlib.Core.Logic.{◌≢◌, ◌⊎◌, inl, inr}
use Rattle.basics.specs.Logic.{◌or◌}
use Rattle.basics.specs.Answers.{number_of, answer_number}
use Rattle.basics.specs.declared.Refusal.{Refusal}
use Rattle.basics.specs.declared.Refusal.TheVariants.{WordCountOutOfRange, WordLengthZero, FirstWordSqueeze, LastWordAbsorb, MergedLengthTooLong, SeparatorTooLong, RecordNotOpen, RecordNotSound, CallNotInPattern, ElementNotReduced, PatternNotDone, BufferTooShort, NotTagString, NotCard, OwnersRowInvalid, OwnersGap, SeparatorTooShort, FieldUnknown, CallTooLong, SealLengthInvalid, MarkDiffers, FormUnknown}
use Rattle.basics.proofs.Cases.{if_true, if_false}
use Rattle.session.specs.Calls.{giving, wipes}
use Rattle.session.specs.Steps.{refused_with}
use Rattle.session.proofs.Session.refuse.Goals as goal

-- the two refusals that wipe
wipe_these : (f : Refusal) → (f ≡ PatternNotDone) ⊎ (f ≡ CallNotInPattern) → wipes (number_of f) ≡ true
unfolding wipes number_of ◌or◌
wipe_these f (inl e) = rw e
wipe_these f (inr e) = rw e

-- the others leave the record
leave_others : (f : Refusal) → f ≢ CallNotInPattern → f ≢ PatternNotDone → wipes (number_of f) ≡ false
unfolding wipes number_of ◌or◌
leave_others CallNotInPattern n m = absurd (n refl)
leave_others PatternNotDone n m = absurd (m refl)
leave_others WordCountOutOfRange n m = refl
leave_others WordLengthZero n m = refl
leave_others FirstWordSqueeze n m = refl
leave_others LastWordAbsorb n m = refl
leave_others MergedLengthTooLong n m = refl
leave_others SeparatorTooLong n m = refl
leave_others RecordNotOpen n m = refl
leave_others RecordNotSound n m = refl
leave_others ElementNotReduced n m = refl
leave_others BufferTooShort n m = refl
leave_others NotTagString n m = refl
leave_others NotCard n m = refl
leave_others OwnersRowInvalid n m = refl
leave_others OwnersGap n m = refl
leave_others SeparatorTooShort n m = refl
leave_others FieldUnknown n m = refl
leave_others CallTooLong n m = refl
leave_others SealLengthInvalid n m = refl
leave_others MarkDiffers n m = refl
leave_others FormUnknown n m = refl

pub returns-in-PatternNotDone : goal.returns-in-PatternNotDone
unfolding refused_with answer_number
returns-in-PatternNotDone c =
    ap (giving _) (c.wiped.ensures ∙ sym (if_true _ _ _ (wipe_these c.args.refusal c.in-PatternNotDone.is)))

pub returns-in_default : goal.returns-in_default
unfolding refused_with answer_number
returns-in_default c =
    ap (giving _) (sym (if_false _ _ _ (leave_others c.args.refusal c.in_default.not-CallNotInPattern c.in_default.not-PatternNotDone)))
