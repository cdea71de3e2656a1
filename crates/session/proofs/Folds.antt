-- What a call does to a record, as what it does to the sponge, with the place moved on at once.
-- Assumes nothing.
use mathlib.Core.Path.{◌≡◌, refl, sym, ap, subst, ◌∙◌}
use mathlib.Core.Bool.{Bool, true, false}
use mathlib.Core.List.{List, [], ◌∷◌}
use Prim.Native.Nat.{ℕ, zero, suc, ◌<◌}
use native.Mathlib.Nat.{add-zero}
use native.Mathlib.Omega.{arith}
use lib.ListN.{length}
use Rattle.words.specs.Words.{length_of}
use Rattle.progress.specs.Place.{place_after}
use Rattle.progress.specs.declared.place.Place.{Place}
use Rattle.progress.proofs.Calls as calls
use Rattle.sponge.specs.Sponge.{sponge, absorb_element, squeeze_element, squeezed_element, absorb_elements, squeeze_elements, squeezed_elements}
use Rattle.sponge.specs.Sponge.{Sponge}
use Rattle.sponge.proofs.Folds.{counted, absorbed_counted, squeezes_counted, elements_counted}
use Rattle.session.specs.Record.{sponge_of, moved, next_place_of, parameters_in, absorb_one, squeeze_one, squeezed_one, absorb_all, squeeze_all, squeezed_all}
use Rattle.session.specs.Steps.{moved_on}
use Rattle.session.specs.declared.Session.{Session}
use Rattle.session.proofs.SoundRecord.{phase_word}

-- n elements of a kind lie in the record's phase
abbrev pub InPhase : Session → Bool → ℕ → Type 0
InPhase r absorbs n = calls.InPhase r.words r.count r.phase r.done absorbs n

-- the place of a record after n elements more
abbrev place_later : Session → ℕ → Place
place_later r n = place_after r.words r.count r.phase r.done n

module _ (r : Session) (early : r.phase < r.count) (more : suc r.done < length_of (phase_word r)) where
  -- the place after one element that is not the phase's last
  inside : next_place_of r ≡ record { phase = r.phase; done = suc r.done }
  inside =
      calls.next_place_law r.words r.count r.phase r.done (λ (at : Place). at ≡ record { phase = r.phase; done = suc r.done })
      (λ e. absurd (omega arith))
      λ _. refl

  -- n elements more after one that is not the phase's last
  further : (s : Sponge) (n : ℕ) → place_later (moved r s (next_place_of r)) n ≡ place_later r (suc n)
  unfolding moved
  further s n =
      ap (λ (at : Place). place_after r.words r.count at.phase at.done n) inside
      ∙ calls.after_more r.words r.count r.phase r.done n early more

  in_phase_further : (s : Sponge) (absorbs : Bool) (n : ℕ) → InPhase r absorbs (suc n) → InPhase (moved r s (next_place_of r)) absorbs n
  unfolding moved
  in_phase_further s absorbs n i =
      subst (λ (at : Place). InPhase (moved r s at) absorbs n) (sym inside)
      (record { before_end = i.before_end; kind = i.kind; room = omega (arith, i.room) })

-- no element leaves the record as it was
stays : (r : Session) → r ≡ moved r (sponge_of r) (place_later r 0)
unfolding moved sponge_of
stays r = sym (ap (moved r (sponge_of r)) (calls.after_none r.words r.count r.phase r.done))

absorb_some : (xs : List ℕ) (x : ℕ) (r : Session) → InPhase r true (suc (length xs))
    → absorb_all r (x ∷ xs) ≡ moved r (absorb_elements (parameters_in r) (sponge_of r) (x ∷ xs)) (place_later r (suc (length xs)))
unfolding absorb_all absorb_one absorb_elements moved sponge_of
absorb_some [] x r i = ap (moved r _) (calls.after_one r.words r.count r.phase r.done i.before_end (omega (arith, i.room)))
absorb_some (y ∷ xs) x r i =
    let s = absorb_element (parameters_in r) (sponge_of r) x in
    let early = i.before_end in
    let more : suc r.done < length_of (phase_word r) = omega (arith, i.room) in
    let n = suc (length xs) in
    absorb_some xs y (absorb_one r x) (in_phase_further r early more s true n i)
    ∙ ap (moved r (absorb_elements (parameters_in r) s (y ∷ xs))) (further r early more s n)

squeeze_some : (n : ℕ) (r : Session) → InPhase r false (suc n)
    → squeeze_all r (suc n) ≡ moved r (squeeze_elements (parameters_in r) (sponge_of r) (suc n)) (place_later r (suc n))
unfolding squeeze_all squeeze_one squeeze_elements moved sponge_of
squeeze_some zero r i = ap (moved r _) (calls.after_one r.words r.count r.phase r.done i.before_end (omega (arith, i.room)))
squeeze_some (suc n) r i =
    let s = squeeze_element (parameters_in r) (sponge_of r) in
    let early = i.before_end in
    let more : suc r.done < length_of (phase_word r) = omega (arith, i.room) in
    squeeze_some n (squeeze_one r) (in_phase_further r early more s false (suc n) i)
    ∙ ap (moved r (squeeze_elements (parameters_in r) s (suc n))) (further r early more s (suc n))

squeezed_some : (n : ℕ) (r : Session) → squeezed_all r n ≡ squeezed_elements (parameters_in r) (sponge_of r) n
unfolding squeezed_all squeeze_one squeezed_one squeezed_elements moved sponge_of
squeezed_some zero r = refl
squeezed_some (suc n) r =
    ap (λ (l : List ℕ). squeezed_element (parameters_in r) (sponge_of r) ∷ l) (squeezed_some n (squeeze_one r))

-- ---- what a call makes of the record's sponge, counted from 0

module _ (r : Session) where
  -- the record's sponge before a call
  abbrev pub uncounted : Sponge
  uncounted = sponge r.state r.absorb_position r.squeeze_position 0

  recounted : counted (parameters_in r) r.permutations uncounted ≡ sponge_of r
  unfolding sponge_of
  recounted = ap (sponge r.state r.absorb_position r.squeeze_position) (add-zero r.permutations)

  pub absorb_all_law : (xs : List ℕ) → (0 < length xs → InPhase r true (length xs))
      → moved_on r (absorb_elements (parameters_in r) uncounted xs) (length xs) ≡ absorb_all r xs
  unfolding moved_on absorb_elements absorb_all
  absorb_all_law [] f = ap (λ (s : Sponge). moved r s (place_later r 0)) recounted ∙ sym (stays r)
  absorb_all_law (x ∷ xs) f =
      ap (λ (s : Sponge). moved r s (place_later r (suc (length xs))))
      (sym (absorbed_counted (parameters_in r) (x ∷ xs) r.permutations uncounted)
      ∙ ap (λ (s : Sponge). absorb_elements (parameters_in r) s (x ∷ xs)) recounted)
      ∙ sym (absorb_some xs x r (f (omega arith)))

  pub squeeze_all_law : (n : ℕ) → (0 < n → InPhase r false n) → moved_on r (squeeze_elements (parameters_in r) uncounted n) n ≡ squeeze_all r n
  unfolding moved_on squeeze_elements squeeze_all
  squeeze_all_law zero f = ap (λ (s : Sponge). moved r s (place_later r 0)) recounted ∙ sym (stays r)
  squeeze_all_law (suc n) f =
      ap (λ (s : Sponge). moved r s (place_later r (suc n)))
      (sym (squeezes_counted (parameters_in r) (suc n) r.permutations uncounted) ∙ ap (λ (s : Sponge). squeeze_elements (parameters_in r) s (suc n)) recounted)
      ∙ sym (squeeze_some n r (f (omega arith)))

  pub squeezed_all_law : (n : ℕ) → squeezed_elements (parameters_in r) uncounted n ≡ squeezed_all r n
  squeezed_all_law n =
      sym (elements_counted (parameters_in r) n r.permutations uncounted)
      ∙ ap (λ (s : Sponge). squeezed_elements (parameters_in r) s n) recounted
      ∙ sym (squeezed_some n r)
