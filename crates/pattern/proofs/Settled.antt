-- What the pass holds: a refusal with its number, or 0 and how many words.
-- Assumes nothing.
use mathlib.Core.Path.{◌≡◌, refl, sym, ap}
use mathlib.Core.Logic.{◌≢◌}
use Prim.Native.Nat.{ℕ}
use Rattle.std.specs.Prelude.{Result, Ok, Err}
use Rattle.basics.specs.Answers.{answer_number}
use Rattle.basics.specs.Numbers.{accepted}
use Rattle.basics.specs.declared.Refusal.{Refusal}
use Rattle.pattern.specs.Pass.{earlier}
use Rattle.pattern.specs.Steps.{count_in}
use Rattle.basics.proofs.Refused.{refusal_some}
use Rattle.pattern.proofs.PassStep.{earlier_zero}

-- a refusal has a number, and no words
pub refused_number : (e : Refusal) (r : Result ℕ Refusal) → r ≡ Err e → (answer_number r ≢ accepted) × (count_in r ≡ 0)
unfolding answer_number count_in
refused_number e r is = rw is (refusal_some e, refl)

-- where nothing is held or earned, the words are those that were held
pub none_refused : (held : Result ℕ Refusal) (count earned : ℕ)
    → Ok count ≡ held
    → answer_number {A = ℕ} (Ok count) ≡ earlier (answer_number held) earned
    → (count ≡ count_in held) × (answer_number held ≡ accepted) × (earned ≡ accepted)
unfolding answer_number count_in
none_refused held count earned is number =
    let (none, free) = earlier_zero _ _ (sym number) in
    (ap count_in is, none, free)
