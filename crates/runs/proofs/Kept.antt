-- One element absorbed or squeezed keeps a sound record sound.
-- Assumes nothing.
use mathlib.Core.Path.{◌≡◌, refl, sym, ap, ◌∙◌}
use mathlib.Core.Bool.{Bool, true, false, not, true≢false}
use Prim.Native.Nat.{ℕ, zero, suc, ◌+◌, ◌≤◌, ◌<◌}
use native.Mathlib.Omega.{arith}
use borrow.Author.Tests.{ltb-true, eqb-false, lt-ltb, not-true, not-false}
use lib.Dec.{ltb, eqb}
use lib.ListN.{get_or}
use Rattle.basics.specs.Logic.{when◌then◌else◌, all}
use Rattle.basics.specs.Lists.{sum}
use Rattle.basics.proofs.Cases.{by, if_true}
use Rattle.field.specs.Field.{is_element}
use Rattle.words.specs.Words.{is_absorb, length_of}
use Rattle.counters.specs.Permutations.{phase_permutations, permutations_at}
use Rattle.counters.proofs.PermutationCounts.{whole_phase}
use Rattle.basics.specs.Figures.{rate}
use Rattle.poseidon.specs.Permutation.{parameters}
use Rattle.sponge.specs.Sponge.{ready_to_absorb, absorb_element, ready_to_squeeze, squeeze_element}
use Rattle.sponge.specs.Sponge.{Sponge}
use Rattle.progress.specs.declared.place.Place.{Place}
use Rattle.field.proofs.Moduli.{positive}
use Rattle.session.specs.Record.{sponge_of, moved, next_place_of, absorb_one, squeeze_one, field_in, parameters_in}
use Rattle.counters.specs.Positions.{positions_after, positions_at}
use Rattle.session.specs.declared.Session.{Session}
use Rattle.sponge.proofs.Elements.{sum_reduced}
use Rattle.session.proofs.SoundRecord.{phase_word, Sound, element_left}
use Rattle.pattern.proofs.SoundPattern.{word_long, begins_absorbing, turns}
use Rattle.runs.proofs.Positions.{position, no_permutations, positions_absorb, positions_squeeze, absorb_position, squeeze_position, squeeze_keeps_absorb}
use Rattle.runs.proofs.ReadySponge.{Ready, ready_to_absorb_law, ready_to_squeeze_law}
use Rattle.runs.proofs.Places.{next_place_law}

-- the permutations of the phases before the record's
abbrev permutations_before : Session → ℕ
permutations_before r = sum r.phase (whole_phase r.words)

module _ (r : Session) (s : Sound r) (h : r.phase < r.count) where
  positions_next : positions_at r.words (next_place_of r).phase (next_place_of r).done ≡ positions_after (phase_word r) (suc r.done)
  unfolding positions_at
  positions_next =
      next_place_law r (λ (at : Place). positions_at r.words at.phase at.done ≡ positions_after (phase_word r) (suc r.done))
      (λ e. ap (positions_after (phase_word r)) (sym e))
      λ _. refl

  permutations_next : permutations_at r.words (next_place_of r).phase (next_place_of r).done ≡ permutations_before r + phase_permutations (phase_word r) (suc r.done)
  unfolding permutations_at sum
  permutations_next =
      next_place_law r (λ (at : Place). permutations_at r.words at.phase at.done ≡ permutations_before r + phase_permutations (phase_word r) (suc r.done))
      (λ e. rw (e, no_permutations) (omega arith))
      λ _. refl

  within_next : (next_place_of r).phase ≤ r.count
  within_next = next_place_law r (λ (at : Place). at.phase ≤ r.count) (λ _. h) λ _. s.within

  place_next : (when ltb (next_place_of r).phase r.count then ltb (next_place_of r).done (length_of (get_or r.words (next_place_of r).phase 0)) else eqb (next_place_of r).done 0)
      ≡ true
  place_next =
      next_place_law r
      (λ (at : Place). (when ltb at.phase r.count then ltb at.done (length_of (get_or r.words at.phase 0)) else eqb at.done 0) ≡ true)
      (λ _.
      by (λ (b : Bool). b ≡ true) _ _ _
      (λ l. lt-ltb 0 _ (word_long r.words r.count s.long s.pattern (suc r.phase) (ltb-true _ _ l)))
      λ _. refl)
      λ e. if_true _ _ _ (lt-ltb _ _ h) ∙ lt-ltb (suc r.done) (length_of (phase_word r)) (omega (arith, element_left r s h))

  -- the record with a sponge that has what the steps give at the next place
  moved_sound : (t : Sponge)
      → all (is_element (field_in r)) t.state ≡ true
      → t.permutations ≡ permutations_before r + phase_permutations (phase_word r) (suc r.done)
      → t.absorb_position ≡ (positions_after (phase_word r) (suc r.done)).absorb
      → t.squeeze_position ≡ (positions_after (phase_word r) (suc r.done)).squeeze
      → Sound (moved r t (next_place_of r))
  unfolding moved
  moved_sound t b c a q =
      record {
        known = s.known;
        formed = s.formed;
        long = s.long;
        pattern = s.pattern;
        unused = s.unused;
        within = within_next;
        place = place_next;
        reduced = b;
        counted = c ∙ sym permutations_next;
        absorbs_at = a ∙ sym (ap (λ i. i.absorb) positions_next);
        squeezes_at = q ∙ sym (ap (λ i. i.squeeze) positions_next);
      }

  counted_here : (sponge_of r).permutations ≡ permutations_before r + phase_permutations (phase_word r) r.done
  unfolding sponge_of permutations_at
  counted_here = s.counted

  -- the phase before is of the other kind
  kind_before : (k : Bool) → is_absorb (phase_word r) ≡ k → (j : ℕ) → r.phase ≡ suc j → not (is_absorb (get_or r.words j 0)) ≡ k
  kind_before k e j q =
      sym (turns r.words r.count s.long s.pattern j (omega arith)) ∙ ap (λ (i : ℕ). is_absorb (get_or r.words i 0)) (sym q) ∙ e

  module _ (e : is_absorb (phase_word r) ≡ true) where
    absorbs_here : (sponge_of r).absorb_position ≡ position 0 r.done
    unfolding sponge_of
    absorbs_here = s.absorbs_at ∙ absorb_position r.words r.phase r.done e (λ j q. not-true _ (kind_before true e j q))

    ready_absorb : Ready (parameters_in r) (phase_word r) r.done (permutations_before r) (ready_to_absorb (parameters_in r) (sponge_of r)).absorb_position (ready_to_absorb (parameters_in r) (sponge_of r))
    unfolding sponge_of parameters
    ready_absorb = ready_to_absorb_law (parameters_in r) (positive (field_in r)) (phase_word r) r.done (permutations_before r) (sponge_of r) s.reduced counted_here e absorbs_here

    pub absorb_kept : (x : ℕ) → Sound (absorb_one r x)
    unfolding absorb_one absorb_element parameters
    absorb_kept x =
        let a = positions_absorb (phase_word r) (suc r.done) e in
        moved_sound _
        (sum_reduced (parameters_in r) (positive (field_in r)) _ _ _ ready_absorb.reduced)
        ready_absorb.counted
        (ready_absorb.after ∙ sym (ap (λ i. i.absorb) a))
        (sym (ap (λ i. i.squeeze) a))

  module _ (e : is_absorb (phase_word r) ≡ false) where
    squeezes_here : (k : ℕ) → r.phase ≡ k → (sponge_of r).squeeze_position ≡ position rate r.done
    unfolding sponge_of
    squeezes_here zero q = absurd (true≢false (sym (begins_absorbing r.words r.count s.long s.pattern (omega arith)) ∙ (rw q at e)))
    squeezes_here (suc j) q =
        (rw q at s.squeezes_at) ∙ squeeze_position r.words j r.done (rw q at e) (not-false _ (kind_before false e j q))

    ready_squeeze : Ready (parameters_in r) (phase_word r) r.done (permutations_before r) (ready_to_squeeze (parameters_in r) (sponge_of r)).squeeze_position (ready_to_squeeze (parameters_in r) (sponge_of r))
    unfolding sponge_of parameters
    ready_squeeze =
        ready_to_squeeze_law (parameters_in r) (positive (field_in r)) (phase_word r) r.done (permutations_before r) (sponge_of r) s.reduced counted_here e (squeezes_here r.phase refl)

    absorbs_at_start : (ready_to_squeeze (parameters_in r) (sponge_of r)).absorb_position ≡ 0
    unfolding ready_to_squeeze sponge_of
    absorbs_at_start =
        by (λ (t : Sponge). t.absorb_position ≡ 0) _ _ _ (λ _. refl)
        λ q. s.absorbs_at ∙ squeeze_keeps_absorb r.words r.phase r.done e (λ z. eqb-false _ _ q (squeezes_here r.phase refl ∙ z))

    pub squeeze_kept : Sound (squeeze_one r)
    unfolding squeeze_one squeeze_element parameters
    squeeze_kept =
        let a = positions_squeeze (phase_word r) (suc r.done) e in
        moved_sound _
        ready_squeeze.reduced
        ready_squeeze.counted
        (absorbs_at_start ∙ sym (ap (λ i. i.absorb) a))
        (ready_squeeze.after ∙ sym (ap (λ i. i.squeeze) a))
