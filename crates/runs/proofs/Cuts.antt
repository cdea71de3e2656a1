-- Calls may be cut freely: a call that is accepted does what its two parts do, one after the other, and both parts are accepted.
-- Assumes nothing.
use mathlib.Core.Path.{◌≡◌, refl, sym, ap, ◌∙◌}
use mathlib.Core.Bool.{Bool, true, false}
use mathlib.Core.List.{List, [], ◌∷◌, ◌++◌}
use Prim.Native.Nat.{ℕ, zero, suc, ◌+◌, ◌<◌}
use native.Mathlib.Nat.{zero-add, suc-add}
use native.Mathlib.Omega.{arith}
use lib.Dec.{eqb}
use lib.ListN.{length, length-append}
use Rattle.basics.specs.Logic.{all}
use Rattle.basics.specs.Numbers.{accepted}
use Rattle.basics.proofs.Cases.{all_append}
use Rattle.field.specs.Field.{is_element}
use Rattle.session.specs.Record.{opened, squeezed_one, absorb_one, squeeze_one, absorb_all, squeeze_all, squeezed_all, field_in}
use Rattle.session.specs.Calls.{giving, absorb, squeeze}
use Rattle.session.specs.declared.Session.{Session}
use Rattle.session.specs.Calls.{Answer}
use Rattle.session.proofs.SoundRecord.{parts, whole}
use Rattle.session.proofs.Folds.{InPhase}
use Rattle.runs.proofs.Places.{in_phase_next}
use Rattle.session.proofs.Numbers.{Takes}
use Rattle.runs.proofs.Outcomes.{absorb_takes, squeeze_takes, absorb_accepted, squeeze_accepted}
use Rattle.runs.proofs.SoundCalls.{absorb_all_kept, squeeze_all_kept}
use Rattle.runs.proofs.SamePattern.{absorb_all_same, squeeze_all_same}

-- ---- elements one after the other

absorb_all_append : (r : Session) (xs ys : List ℕ) → absorb_all r (xs ++ ys) ≡ absorb_all (absorb_all r xs) ys
unfolding absorb_all
absorb_all_append r [] ys = refl
absorb_all_append r (x ∷ xs) ys = absorb_all_append (absorb_one r x) xs ys

squeeze_all_add : (r : Session) (n m : ℕ) → squeeze_all r (n + m) ≡ squeeze_all (squeeze_all r n) m
unfolding squeeze_all
squeeze_all_add r zero m = ap (squeeze_all r) (zero-add m)
squeeze_all_add r (suc n) m = ap (squeeze_all r) (suc-add n m) ∙ squeeze_all_add (squeeze_one r) n m

squeezed_all_add : (r : Session) (n m : ℕ) → squeezed_all r (n + m) ≡ squeezed_all r n ++ squeezed_all (squeeze_all r n) m
unfolding squeeze_all squeezed_all
squeezed_all_add r zero m = ap (squeezed_all r) (zero-add m)
squeezed_all_add r (suc n) m = ap (squeezed_all r) (suc-add n m) ∙ ap (λ (l : List ℕ). squeezed_one r ∷ l) (squeezed_all_add (squeeze_one r) n m)

-- ---- the second part lies in the phase of the record that the first part leaves

absorb_in_phase : (r : Session) (xs : List ℕ) (m : ℕ) → InPhase r true (length xs + m) → 0 < m → InPhase (absorb_all r xs) true m
unfolding absorb_all absorb_one
absorb_in_phase r [] m i h = rw (zero-add m) at i
absorb_in_phase r (x ∷ xs) m i h =
    absorb_in_phase (absorb_one r x) xs m (in_phase_next r true (length xs + m) _ (rw (suc-add (length xs) m) at i) (omega arith)) h

squeeze_in_phase : (r : Session) (n m : ℕ) → InPhase r false (n + m) → 0 < m → InPhase (squeeze_all r n) false m
unfolding squeeze_all squeeze_one
squeeze_in_phase r zero m i h = rw (zero-add m) at i
squeeze_in_phase r (suc n) m i h =
    squeeze_in_phase (squeeze_one r) n m (in_phase_next r false (n + m) _ (rw (suc-add n m) at i) (omega arith)) h

-- fewer elements lie in the phase too
takes_fewer : (r : Session) (absorbs : Bool) (n m : ℕ) → Takes r absorbs (n + m) → Takes r absorbs n
takes_fewer r absorbs n m t =
    record {
      opens = t.opens;
      sounds = t.sounds;
      fits = λ h. let i = t.fits (omega arith) in record { before_end = i.before_end; kind = i.kind; room = omega (arith, i.room) };
    }

-- ---- calls

module _ (r : Session) (xs ys : List ℕ) (e : (absorb r (xs ++ ys)).number ≡ accepted) where
  takes_both : Takes r true (length xs + length ys)
  takes_both = rw (length-append xs ys) at (absorb_takes r (xs ++ ys) e).0

  reduced_both : (all (is_element (field_in r)) xs ≡ true) × (all (is_element (field_in r)) ys ≡ true)
  reduced_both = all_append _ xs ys (absorb_takes r (xs ++ ys) e).1

  absorb_first : absorb r xs ≡ giving accepted (absorb_all r xs)
  absorb_first = absorb_accepted r xs (takes_fewer r true (length xs) (length ys) takes_both) reduced_both.0

  takes_second : Takes (absorb_all r xs) true (length ys)
  takes_second =
      let t = takes_both in
      record {
        opens = ap (λ (n : ℕ). eqb n opened) (absorb_all_same r xs).status ∙ t.opens;
        sounds = whole _ (absorb_all_kept r xs (parts r t.sounds) (takes_fewer r true (length xs) (length ys) t).fits);
        fits = λ h. absorb_in_phase r xs (length ys) (t.fits (omega arith)) h;
      }

  pub absorb_part : (absorb r xs).number ≡ accepted
  unfolding giving
  absorb_part = ap (λ (a : Answer). a.number) absorb_first

  pub absorb_cut : absorb (absorb r xs).session ys ≡ absorb r (xs ++ ys)
  unfolding giving
  absorb_cut =
      ap (λ (a : Answer). absorb a.session ys) absorb_first
      ∙ absorb_accepted (absorb_all r xs) ys takes_second (rw (absorb_all_same r xs).field reduced_both.1)
      ∙ ap (giving accepted) (sym (absorb_all_append r xs ys))
      ∙ sym (absorb_accepted r (xs ++ ys) (absorb_takes r (xs ++ ys) e).0 (absorb_takes r (xs ++ ys) e).1)

module _ (r : Session) (n m : ℕ) (e : (squeeze r (n + m)).number ≡ accepted) where
  squeeze_both : Takes r false (n + m)
  squeeze_both = squeeze_takes r (n + m) e

  squeeze_first : squeeze r n ≡ giving accepted (squeeze_all r n)
  squeeze_first = squeeze_accepted r n (takes_fewer r false n m squeeze_both)

  squeeze_second : Takes (squeeze_all r n) false m
  squeeze_second =
      let t = squeeze_both in
      record {
        opens = ap (λ (k : ℕ). eqb k opened) (squeeze_all_same r n).status ∙ t.opens;
        sounds = whole _ (squeeze_all_kept r n (parts r t.sounds) (takes_fewer r false n m t).fits);
        fits = λ h. squeeze_in_phase r n m (t.fits (omega arith)) h;
      }

  pub squeeze_part : (squeeze r n).number ≡ accepted
  unfolding giving
  squeeze_part = ap (λ (a : Answer). a.number) squeeze_first

  -- what the second part writes stands behind what the first part does
  pub squeezed_cut : squeezed_all r (n + m) ≡ squeezed_all r n ++ squeezed_all (squeeze r n).session m
  unfolding giving
  squeezed_cut =
      squeezed_all_add r n m ∙ ap (λ (a : Answer). squeezed_all r n ++ squeezed_all a.session m) (sym squeeze_first)

  pub squeeze_cut : squeeze (squeeze r n).session m ≡ squeeze r (n + m)
  unfolding giving
  squeeze_cut =
      ap (λ (a : Answer). squeeze a.session m) squeeze_first
      ∙ squeeze_accepted (squeeze_all r n) m squeeze_second
      ∙ ap (giving accepted) (sym (squeeze_all_add r n m))
      ∙ sym (squeeze_accepted r (n + m) squeeze_both)
