-- What the calls on a record answer: the record as it was or a wiped one with the number of a refusal, or what the steps give.
-- Assumes nothing.
use mathlib.Core.Path.{◌≡◌, refl}
use mathlib.Core.Bool.{true, false, false≢true}
use mathlib.Core.List.{List, [], ◌∷◌}
use Prim.Native.Nat.{ℕ}
use native.Mathlib.Omega.{arith}
use borrow.Author.Tests.{eqb-true, eqb-false, not-false}
use lib.Dec.{eqb}
use lib.ListN.{length}
use Rattle.basics.specs.Logic.{when◌then◌else◌, ◌or◌, all}
use Rattle.basics.specs.Numbers.{accepted, record_not_open, record_not_sound, call_not_in_pattern, element_not_reduced, pattern_not_done}
use Rattle.basics.specs.Refusals.{first_number}
use Rattle.basics.proofs.Cases.{by}
use Rattle.field.specs.Field.{is_element}
use Rattle.field.specs.declared.Field.{Field}
use Rattle.session.specs.Record.{opened, wiped, absorb_all, squeeze_all, field_in}
use Rattle.session.specs.Soundness.{sound}
use Rattle.session.specs.Calls.{giving, record_rows, call_rows, absorb_rows, finish_rows, wipes, answer_of, absorb, squeeze, finish}
use Rattle.session.specs.declared.Session.{Session}
use Rattle.session.specs.Calls.{Answer}
use Rattle.progress.proofs.Calls.{in_phase}
use Rattle.session.proofs.Numbers.{Takes, answer_accepted, takes_call, absorb_passes, finish_passes}

pub wiped_not_open : eqb wiped.status opened ≡ true → ⊥
unfolding wiped
wiped_not_open e = false≢true e

-- an empty list holds elements alone
none_listed : (f : Field) (xs : List ℕ) → eqb (length xs) 0 ≡ true → all (is_element f) xs ≡ true
unfolding all
none_listed f [] e = refl
none_listed f (x ∷ xs) e = absurd (omega (arith, eqb-true (length (x ∷ xs)) 0 e))

-- an open sound record after its last phase
pub record Ended (r : Session) : Type 0 where
  pub opens : eqb r.status opened ≡ true
  pub sounds : sound r ≡ true
  pub ended : r.phase ≡ r.count

module _ (r : Session) where
  module _ (Q : Answer → Type 0)
      (refused : (number : ℕ) → eqb number accepted ≡ false → Q (giving number r))
      (wipes-it : (number : ℕ) → eqb number accepted ≡ false → Q (giving number wiped))
    where
      -- the answer by its number: the record is left, wiped, or what the call makes of it
      leaves : (next : Session) (n : ℕ) → eqb n accepted ≡ false → wipes n ≡ false → Q (answer_of n r next)
      unfolding answer_of when◌then◌else◌
      leaves next n e w = rw (e, w) (refused n e)

      wiping : (next : Session) (n : ℕ) → eqb n accepted ≡ false → wipes n ≡ true → Q (answer_of n r next)
      unfolding answer_of when◌then◌else◌
      wiping next n e w = rw (e, w) (wipes-it n e)

      accepts : (next : Session) → Q (giving accepted next) → Q (answer_of accepted r next)
      accepts next q = rw (answer_accepted r next accepted refl) q

      pub absorb_outcome : (xs : List ℕ) → (Takes r true (length xs) → all (is_element (field_in r)) xs ≡ true → Q (giving accepted (absorb_all r xs))) → Q (absorb r xs)
      unfolding absorb absorb_rows call_rows record_rows first_number wipes ◌or◌
      absorb_outcome xs takes =
          let next = absorb_all r xs in
          let answers : ℕ → Type 0 = λ n. Q (answer_of n r next) in
          by answers _ _ _ (λ _. leaves next record_not_open refl refl) λ o.
          by answers _ _ _ (λ _. leaves next record_not_sound refl refl) λ s.
          by answers _ _ _
          (λ z. accepts next (takes
          (record { opens = not-false _ o; sounds = not-false _ s; fits = λ h. absurd (omega (arith, eqb-true (length xs) 0 z)) })
          (none_listed (field_in r) xs z))) λ _.
          by answers _ _ _ (λ _. wiping next call_not_in_pattern refl refl) λ i.
          by answers _ _ _ (λ _. leaves next element_not_reduced refl refl) λ b.
          accepts next (takes
          (record { opens = not-false _ o; sounds = not-false _ s; fits = λ _. in_phase _ _ _ _ _ _ (not-false _ i) })
          (not-false _ b))

      pub squeeze_outcome : (n : ℕ) → (Takes r false n → Q (giving accepted (squeeze_all r n))) → Q (squeeze r n)
      unfolding squeeze call_rows record_rows first_number wipes ◌or◌
      squeeze_outcome n takes =
          let next = squeeze_all r n in
          let answers : ℕ → Type 0 = λ k. Q (answer_of k r next) in
          by answers _ _ _ (λ _. leaves next record_not_open refl refl) λ o.
          by answers _ _ _ (λ _. leaves next record_not_sound refl refl) λ s.
          by answers _ _ _
          (λ z. accepts next (takes
          (record { opens = not-false _ o; sounds = not-false _ s; fits = λ h. absurd (omega (arith, eqb-true n 0 z)) }))) λ _.
          by answers _ _ _ (λ _. wiping next call_not_in_pattern refl refl) λ i.
          accepts next (takes (record { opens = not-false _ o; sounds = not-false _ s; fits = λ _. in_phase _ _ _ _ _ _ (not-false _ i) }))

      pub finish_outcome : (Ended r → Q (giving accepted wiped)) → Q (finish r)
      unfolding finish finish_rows record_rows first_number wipes ◌or◌
      finish_outcome ends =
          let answers : ℕ → Type 0 = λ n. Q (answer_of n r wiped) in
          by answers _ _ _ (λ _. leaves wiped record_not_open refl refl) λ o.
          by answers _ _ _ (λ _. leaves wiped record_not_sound refl refl) λ s.
          by answers _ _ _ (λ _. wiping wiped pattern_not_done refl refl) λ e.
          accepts wiped (ends (record { opens = not-false _ o; sounds = not-false _ s; ended = eqb-true _ _ (not-false _ e) }))

  -- ---- what follows from an accepted call

  pub absorb_takes : (xs : List ℕ) → (absorb r xs).number ≡ accepted → Takes r true (length xs) × (all (is_element (field_in r)) xs ≡ true)
  unfolding giving
  absorb_takes xs =
      absorb_outcome (λ (a : Answer). a.number ≡ accepted → Takes r true (length xs) × (all (is_element (field_in r)) xs ≡ true))
      (λ _ z e. absurd (eqb-false _ _ z e))
      (λ _ z e. absurd (eqb-false _ _ z e))
      xs
      λ takes b _. (takes, b)

  pub squeeze_takes : (n : ℕ) → (squeeze r n).number ≡ accepted → Takes r false n
  unfolding giving
  squeeze_takes n =
      squeeze_outcome (λ (a : Answer). a.number ≡ accepted → Takes r false n)
      (λ _ z e. absurd (eqb-false _ _ z e))
      (λ _ z e. absurd (eqb-false _ _ z e))
      n
      λ takes _. takes

  pub finish_ended : (finish r).number ≡ accepted → Ended r
  unfolding giving
  finish_ended =
      finish_outcome (λ (a : Answer). a.number ≡ accepted → Ended r)
      (λ _ z e. absurd (eqb-false _ _ z e))
      (λ _ z e. absurd (eqb-false _ _ z e))
      λ ends _. ends

  -- ---- what an accepted call needs

  pub absorb_accepted : (xs : List ℕ) → Takes r true (length xs) → all (is_element (field_in r)) xs ≡ true → absorb r xs ≡ giving accepted (absorb_all r xs)
  unfolding absorb
  absorb_accepted xs t b = answer_accepted r (absorb_all r xs) _ (absorb_passes r xs t b)

  pub squeeze_accepted : (n : ℕ) → Takes r false n → squeeze r n ≡ giving accepted (squeeze_all r n)
  unfolding squeeze
  squeeze_accepted n t = answer_accepted r (squeeze_all r n) _ (takes_call r false n t)

  pub finish_accepted : Ended r → finish r ≡ giving accepted wiped
  unfolding finish
  finish_accepted e = answer_accepted r wiped _ (finish_passes r (record { opens = e.opens; sounds = e.sounds }) e.ended)
