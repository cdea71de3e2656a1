-- The converse of cutting: calls of one kind that are accepted one behind the other are accepted as one call. Kinds alternate, so that the two lie in
-- one phase.
-- Assumes nothing.
use mathlib.Core.Path.{◌≡◌, sym, ap, ◌∙◌}
use mathlib.Core.Bool.{Bool, true, false, not, true≢false}
use mathlib.Core.List.{List, [], ◌∷◌, ◌++◌}
use Prim.Native.Nat.{ℕ, zero, suc, ◌+◌, ◌<◌}
use native.Mathlib.Nat.{zero-add, add-zero, suc-add}
use native.Mathlib.Omega.{arith}
use lib.ListN.{length, length-append}
use Rattle.basics.proofs.Cases.{all_both}
use Rattle.basics.specs.Numbers.{accepted}
use Rattle.pattern.proofs.SoundPattern.{turns}
use Rattle.progress.specs.declared.place.Place.{Place}
use Rattle.sponge.specs.Sponge.{Sponge}
use Rattle.session.specs.Record.{absorb_one, squeeze_one, absorb_all, squeeze_all, moved, next_place_of}
use Rattle.session.specs.Calls.{giving, absorb, squeeze}
use Rattle.session.specs.declared.Session.{Session}
use Rattle.session.specs.Calls.{Answer}
use Rattle.session.proofs.SoundRecord.{Sound, parts}
use Rattle.session.proofs.Folds.{InPhase}
use Rattle.session.proofs.Numbers.{Takes}
use Rattle.runs.proofs.Places.{next_place_law, in_phase_next}
use Rattle.runs.proofs.Kept.{absorb_kept, squeeze_kept}
use Rattle.runs.proofs.SamePattern.{absorb_all_same}
use Rattle.runs.proofs.Outcomes.{absorb_takes, squeeze_takes, absorb_accepted, squeeze_accepted}

-- no kind is its opposite
not_opposite : (a b : Bool) → b ≡ not a → a ≡ b → ⊥
not_opposite true b e f = true≢false (f ∙ e)
not_opposite false b e f = true≢false (sym (f ∙ e))

-- ---- an element and what follows it

module _ (r : Session) (s : Sound r) (absorbs : Bool) (n : ℕ) (t : Sponge) where
  -- what lies in the phase behind an element lies in the element's phase: the next phase is of the other kind
  in_phase_behind : InPhase r absorbs 1 → InPhase (moved r t (next_place_of r)) absorbs n → InPhase r absorbs (suc n)
  unfolding moved
  in_phase_behind i =
      next_place_law r (λ (at : Place). InPhase (moved r t at) absorbs n → InPhase r absorbs (suc n))
      (λ e j. absurd (not_opposite _ _ (turns r.words r.count s.long s.pattern r.phase j.before_end) (i.kind ∙ sym j.kind)))
      λ e j. record { before_end = i.before_end; kind = i.kind; room = omega (arith, j.room) }

-- the first of some elements that lie in the phase
first_in_phase : (r : Session) (absorbs : Bool) (n : ℕ) → InPhase r absorbs (suc n) → InPhase r absorbs 1
first_in_phase r absorbs n i = record { before_end = i.before_end; kind = i.kind; room = omega (arith, i.room) }

absorb_behind : (r : Session) → Sound r → (xs : List ℕ) (m : ℕ) → (0 < length xs → InPhase r true (length xs)) → InPhase (absorb_all r xs) true m
    → InPhase r true (length xs + m)
unfolding absorb_all absorb_one
absorb_behind r s [] m f j = rw (zero-add m) j
absorb_behind r s (x ∷ xs) m f j =
    let i = f (omega arith) in
    let next = absorb_one r x in
    let kept = absorb_kept r s i.before_end i.kind x in
    rw (suc-add (length xs) m)
    (in_phase_behind r s true (length xs + m) _ (first_in_phase r true (length xs) i)
    (absorb_behind next kept xs m (in_phase_next r true (length xs) _ i) j))

squeeze_behind : (r : Session) → Sound r → (n m : ℕ) → (0 < n → InPhase r false n) → InPhase (squeeze_all r n) false m → InPhase r false (n + m)
unfolding squeeze_all squeeze_one
squeeze_behind r s zero m f j = rw (zero-add m) j
squeeze_behind r s (suc n) m f j =
    let i = f (omega arith) in
    let next = squeeze_one r in
    let kept = squeeze_kept r s i.before_end i.kind in
    rw (suc-add n m)
    (in_phase_behind r s false (n + m) _ (first_in_phase r false n i) (squeeze_behind next kept n m (in_phase_next r false n _ i) j))

-- ---- calls

-- a call behind another is empty, or both lie in the phase
takes_joined : (r : Session) (absorbs : Bool) (n m : ℕ) → Takes r absorbs n → (0 < m → InPhase r absorbs (n + m)) → Takes r absorbs (n + m)
takes_joined r absorbs n zero t f = rw (add-zero n) t
takes_joined r absorbs n (suc m) t f = record { opens = t.opens; sounds = t.sounds; fits = λ _. f (omega arith) }

pub absorb_joined : (r : Session) (xs ys : List ℕ) → (absorb r xs).number ≡ accepted → (absorb (absorb r xs).session ys).number ≡ accepted
    → (absorb r (xs ++ ys)).number ≡ accepted
unfolding giving
absorb_joined r xs ys e f =
    let (t, reduced) = absorb_takes r xs e in
    let first = absorb_accepted r xs t reduced in
    let (u, reduced-next) = absorb_takes (absorb_all r xs) ys (sym (ap (λ (a : Answer). (absorb a.session ys).number) first) ∙ f) in
    let both = takes_joined r true (length xs) (length ys) t (λ h. absorb_behind r (parts r t.sounds) xs (length ys) t.fits (u.fits h)) in
    let elements = all_both _ xs ys reduced (rw (absorb_all_same r xs).field at reduced-next) in
    ap (λ (a : Answer). a.number) (absorb_accepted r (xs ++ ys) (rw (length-append xs ys) both) elements)

pub squeeze_joined : (r : Session) (n m : ℕ) → (squeeze r n).number ≡ accepted → (squeeze (squeeze r n).session m).number ≡ accepted
    → (squeeze r (n + m)).number ≡ accepted
unfolding giving
squeeze_joined r n m e f =
    let t = squeeze_takes r n e in
    let first = squeeze_accepted r n t in
    let u = squeeze_takes (squeeze_all r n) m (sym (ap (λ (a : Answer). (squeeze a.session m).number) first) ∙ f) in
    let both = takes_joined r false n m t (λ h. squeeze_behind r (parts r t.sounds) n m t.fits (u.fits h)) in
    ap (λ (a : Answer). a.number) (squeeze_accepted r (n + m) both)
