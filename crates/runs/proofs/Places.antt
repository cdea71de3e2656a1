-- The place in the pattern that a record has after one element more.
-- Assumes nothing.
use mathlib.Core.Path.{◌≡◌}
use mathlib.Core.Bool.{Bool}
use mathlib.Core.Logic.{◌≢◌}
use Prim.Native.Nat.{ℕ, suc, ◌<◌}
use native.Mathlib.Omega.{arith}
use Rattle.words.specs.Words.{length_of}
use Rattle.sponge.specs.Sponge.{Sponge}
use Rattle.progress.specs.declared.place.Place.{Place}
use Rattle.progress.proofs.Calls as calls
use Rattle.session.specs.Record.{moved, next_place_of}
use Rattle.session.specs.declared.Session.{Session}
use Rattle.session.proofs.SoundRecord.{phase_word}
use Rattle.session.proofs.Folds.{InPhase}

module _ (r : Session) where
  -- the element is the phase's last, or it is not
  pub next_place_law : (Q : Place → Type 0)
      → (suc r.done ≡ length_of (phase_word r) → Q (record { phase = suc r.phase; done = 0 }))
      → (suc r.done ≢ length_of (phase_word r) → Q (record { phase = r.phase; done = suc r.done }))
      → Q (next_place_of r)
  next_place_law = calls.next_place_law r.words r.count r.phase r.done

  -- the elements that are left lie in the phase of the record after the first of them
  pub in_phase_next : (absorbs : Bool) (n : ℕ) (t : Sponge) → InPhase r absorbs (suc n) → 0 < n
      → InPhase (moved r t (next_place_of r)) absorbs n
  unfolding moved
  in_phase_next absorbs n t i h =
      next_place_law (λ (at : Place). InPhase (moved r t at) absorbs n)
      (λ e. absurd (omega (arith, i.room)))
      λ e. record { before_end = i.before_end; kind = i.kind; room = omega (arith, i.room) }
