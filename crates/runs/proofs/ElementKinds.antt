-- The kinds of a pattern's elements, one by one, and those that a record has still to do.
-- Assumes nothing.
use mathlib.Core.Path.{◌≡◌, refl, sym, ap, ◌∙◌}
use mathlib.Core.Bool.{Bool, true, false}
use mathlib.Core.List.{List, [], ◌∷◌, ◌++◌, map}
use Prim.Native.Nat.{ℕ, zero, suc, ◌+◌, ◌<◌}
use native.Mathlib.Nat.{le_of_suc-le-suc, not-suc-le-zero}
use native.Mathlib.Omega.{arith}
use borrow.Author.Tests.{eqb-true}
use lib.Dec.{eqb}
use lib.ListN.{length, get_or, drop, replicate, length-append, length-replicate}
use lib.Seq.{drop_at, drop-nil}
use Rattle.basics.specs.Logic.{when◌then◌else◌, all}
use Rattle.basics.proofs.Cases.{and_left, and_right}
use Rattle.words.specs.Words.{is_absorb, length_of, Phase, phase_of}
use Rattle.sponge.specs.Sponge.{Sponge}
use Rattle.progress.specs.declared.place.Place.{Place}
use Rattle.session.specs.Record.{moved, next_place_of}
use Rattle.session.specs.declared.Session.{Session}
use Rattle.session.proofs.SoundRecord.{phase_word, Sound}
use Rattle.runs.specs.Lengths.{absorb_length, squeeze_length}
use Rattle.runs.proofs.Places.{next_place_law}

-- true for each element of an ABSORB phase, false for each of a SQUEEZE phase
unfoldable pub kinds : List Phase → List Bool
kinds [] = []
kinds (a ∷ ps) = replicate a.elements a.absorbs ++ kinds ps

-- those still to do
unfoldable pub to_do : Session → List Bool
to_do r = drop r.done (kinds (map phase_of (drop r.phase r.words)))

-- how many are absorbed
unfoldable pub to_absorb : List Bool → ℕ
to_absorb [] = 0
to_absorb (true ∷ ks) = suc (to_absorb ks)
to_absorb (false ∷ ks) = to_absorb ks

absorb_phase : (n : ℕ) (k : Bool) (ks : List Bool) → to_absorb (replicate n k ++ ks) ≡ (when k then n else 0) + to_absorb ks
unfolding to_absorb when◌then◌else◌
absorb_phase zero true ks = omega arith
absorb_phase zero false ks = omega arith
absorb_phase (suc n) true ks = omega (arith, absorb_phase n true ks)
absorb_phase (suc n) false ks = absorb_phase n false ks

pub absorb_length_law : (ps : List Phase) → to_absorb (kinds ps) ≡ absorb_length ps
unfolding kinds to_absorb absorb_length
absorb_length_law [] = refl
absorb_length_law (a ∷ ps) =
    absorb_phase a.elements a.absorbs (kinds ps) ∙ ap (λ (n : ℕ). (when a.absorbs then a.elements else 0) + n) (absorb_length_law ps)

-- the others are squeezed
either_kind : (k : Bool) (n : ℕ) → (when k then n else 0) + (when k then 0 else n) ≡ n
unfolding when◌then◌else◌
either_kind true n = omega arith
either_kind false n = omega arith

pub kinds_length : (ps : List Phase) → length (kinds ps) ≡ absorb_length ps + squeeze_length ps
unfolding kinds absorb_length squeeze_length
kinds_length [] = refl
kinds_length (a ∷ ps) =
    let phase = length-replicate a.elements a.absorbs in
    let later = kinds_length ps in
    let whole = length-append (replicate a.elements a.absorbs) (kinds ps) in
    let each = either_kind a.absorbs a.elements in
    omega arith

-- ---- one element of those still to do

drop_replicate : (n d : ℕ) (k : Bool) (ks : List Bool) → d < n → drop d (replicate n k ++ ks) ≡ k ∷ drop (suc d) (replicate n k ++ ks)
drop_replicate zero d k ks h = absurd (not-suc-le-zero h)
drop_replicate (suc n) zero k ks h = refl
drop_replicate (suc n) (suc d) k ks h = drop_replicate n d k ks (le_of_suc-le-suc h)

kinds_at : (ws : List ℕ) (i : ℕ) → 0 < length_of (get_or ws i 0)
    → kinds (map phase_of (drop i ws)) ≡ replicate (length_of (get_or ws i 0)) (is_absorb (get_or ws i 0)) ++ kinds (map phase_of (drop (suc i) ws))
unfolding kinds length_of phase_of
kinds_at [] i h = absurd (not-suc-le-zero h)
kinds_at (w ∷ ws) zero h = refl
kinds_at (w ∷ ws) (suc i) h = kinds_at ws i h

module _ (r : Session) (k : Bool) (e : is_absorb (phase_word r) ≡ k) (h : r.done < length_of (phase_word r)) where
  abbrev phase_kinds : List Bool
  phase_kinds = replicate (length_of (phase_word r)) k

  abbrev later_kinds : List Bool
  later_kinds = kinds (map phase_of (drop (suc r.phase) r.words))

  kinds_here : kinds (map phase_of (drop r.phase r.words)) ≡ phase_kinds ++ later_kinds
  kinds_here = rw (← e) (kinds_at r.words r.phase (omega arith))

  -- the first is of the phase's kind, and the others are those of the record after one element
  pub next_to_do : (t : Sponge) → to_do r ≡ k ∷ to_do (moved r t (next_place_of r))
  unfolding to_do moved
  next_to_do t =
      let here = ap (drop r.done) kinds_here ∙ drop_replicate (length_of (phase_word r)) r.done k later_kinds h in
      next_place_law r (λ (at : Place). to_do r ≡ k ∷ to_do (moved r t at))
      (λ last.
      here ∙ ap (λ (ks : List Bool). k ∷ ks)
      (drop_at phase_kinds later_kinds (suc r.done) (length-replicate (length_of (phase_word r)) k ∙ sym last)))
      λ _. here ∙ ap (λ (ks : List Bool). k ∷ drop (suc r.done) ks) (sym kinds_here)

-- ---- after the last phase none are left

kinds_of_zeros : (ws : List ℕ) → all (λ w. eqb w 0) ws ≡ true → kinds (map phase_of ws) ≡ []
unfolding all kinds phase_of length_of
kinds_of_zeros [] e = refl
kinds_of_zeros (w ∷ ws) e = rw (eqb-true w 0 (and_left _ _ e)) (kinds_of_zeros ws (and_right _ _ e))

pub none_to_do : (r : Session) → Sound r → r.phase ≡ r.count → to_do r ≡ []
unfolding to_do
none_to_do r s e = rw (e, kinds_of_zeros (drop r.count r.words) s.unused) (drop-nil r.done)
