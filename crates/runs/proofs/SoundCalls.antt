-- Every call, refused or not, leaves an open record sound.
-- Assumes nothing.
use mathlib.Core.Path.{◌≡◌}
use mathlib.Core.Bool.{true, false}
use mathlib.Core.List.{List, [], ◌∷◌}
use Prim.Native.Nat.{ℕ, zero, suc, ◌<◌}
use native.Mathlib.Omega.{arith}
use lib.Dec.{eqb}
use lib.ListN.{length}
use Rattle.session.specs.Record.{opened, absorb_one, squeeze_one, absorb_all, squeeze_all}
use Rattle.session.specs.Soundness.{sound}
use Rattle.session.specs.Calls.{giving}
use Rattle.session.specs.declared.Session.{Session}
use Rattle.session.specs.Calls.{Answer}
use Rattle.session.proofs.SoundRecord.{Sound, parts, whole}
use Rattle.session.proofs.Folds.{InPhase}
use Rattle.runs.specs.Calls.{Call, ABSORB, SQUEEZE, FINISH, answered, left, left_by}
use Rattle.runs.proofs.Places.{in_phase_next}
use Rattle.runs.proofs.Kept.{absorb_kept, squeeze_kept}
use Rattle.runs.proofs.Outcomes.{wiped_not_open, absorb_outcome, squeeze_outcome, finish_outcome}

pub absorb_all_kept : (r : Session) (xs : List ℕ) → Sound r → (0 < length xs → InPhase r true (length xs)) → Sound (absorb_all r xs)
unfolding absorb_all absorb_one
absorb_all_kept r [] s f = s
absorb_all_kept r (x ∷ xs) s f =
    let i = f (omega arith) in
    absorb_all_kept (absorb_one r x) xs (absorb_kept r s i.before_end i.kind x) (in_phase_next r true (length xs) _ i)

pub squeeze_all_kept : (r : Session) (n : ℕ) → Sound r → (0 < n → InPhase r false n) → Sound (squeeze_all r n)
unfolding squeeze_all squeeze_one
squeeze_all_kept r zero s f = s
squeeze_all_kept r (suc n) s f =
    let i = f (omega arith) in
    squeeze_all_kept (squeeze_one r) n (squeeze_kept r s i.before_end i.kind) (in_phase_next r false n _ i)

-- a record that is sound if it is open
abbrev SoundIfOpen : Session → Type 0
SoundIfOpen r = eqb r.status opened ≡ true → sound r ≡ true

pub sound_left : (r : Session) (c : Call) → (eqb r.status opened ≡ true → sound r ≡ true)
    → eqb (left r c).status opened ≡ true → sound (left r c) ≡ true
unfolding left answered giving
sound_left r (ABSORB xs) f =
    absorb_outcome r (λ (a : Answer). SoundIfOpen a.session) (λ _ _. f) (λ _ _ o. absurd (wiped_not_open o)) xs
    (λ t _ _. whole _ (absorb_all_kept r xs (parts r t.sounds) t.fits))
sound_left r (SQUEEZE n) f =
    squeeze_outcome r (λ (a : Answer). SoundIfOpen a.session) (λ _ _. f) (λ _ _ o. absurd (wiped_not_open o)) n
    (λ t _. whole _ (squeeze_all_kept r n (parts r t.sounds) t.fits))
sound_left r FINISH f =
    finish_outcome r (λ (a : Answer). SoundIfOpen a.session) (λ _ _. f) (λ _ _ o. absurd (wiped_not_open o)) (λ _ o. absurd (wiped_not_open o))

pub sound_left_by : (r : Session) (cs : List Call) → (eqb r.status opened ≡ true → sound r ≡ true)
    → eqb (left_by r cs).status opened ≡ true → sound (left_by r cs) ≡ true
unfolding left_by
sound_left_by r [] f = f
sound_left_by r (c ∷ cs) f = sound_left_by (left r c) cs (sound_left r c f)
