-- The numbers of checks that turn a caller away.
-- Assumes nothing.
use mathlib.Core.Path.{◌≡◌, sym, ap, ◌∙◌}
use mathlib.Core.Logic.{◌≢◌}
use Prim.Native.Nat.{ℕ}
use Rattle.std.proofs.Common.{Result, Ok, Err}
use Rattle.basics.specs.Answers.{number_of, answer_number}
use Rattle.basics.specs.Numbers.{accepted}
use Rattle.basics.specs.declared.Refusal.{Refusal}
use Rattle.basics.proofs.Refused.{refusal_some}

-- a check's answer r that is a refusal, and its number
module _ {A : Type 0} (r : Result A Refusal) (n : ℕ) (h : answer_number r ≡ n) (e : Refusal) (is : r ≡ Err e) where
  pub turned_away : n ≢ accepted
  unfolding answer_number
  turned_away z = refusal_some e (sym (ap answer_number is) ∙ h ∙ z)

  -- what `?` makes of it has the same number
  pub handed_on : {B : Type 0} (s : Result B Refusal) (f : Refusal) → s ≡ Err f → f ≡ e → answer_number s ≡ n
  unfolding answer_number
  handed_on s f found same = ap answer_number found ∙ ap number_of same ∙ sym (ap answer_number is) ∙ h
