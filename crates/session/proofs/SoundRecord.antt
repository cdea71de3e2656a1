-- A sound record, part by part.
-- Assumes nothing.
use mathlib.Core.Path.{◌≡◌, sym, ◌∙◌}
use mathlib.Core.Bool.{true}
use Prim.Native.Nat.{ℕ, ◌*◌, ◌≤◌, ◌<◌}
use native.Mathlib.Omega.{arith}
use borrow.Author.Tests.{ltb-true, ltb-false, leb-true, eqb-true, lt-ltb, le-ltb, le-leb, eq-eqb}
use lib.Dec.{ltb, eqb}
use lib.ListN.{length, get_or, take, drop}
use lib.Seq.{length-take-le}
use Rattle.basics.specs.Logic.{when◌then◌else◌, all}
use Rattle.basics.proofs.Cases.{cases, if_true, if_false, and_left, and_right, and_both}
use Rattle.field.specs.Field.{is_field, is_element}
use Rattle.words.specs.Words.{length_of}
use Rattle.words.proofs.WordKinds.{length_below}
use Rattle.pattern.specs.Pattern.{max_words, sound_words, sound_places}
use Rattle.pattern.proofs.Soundness as words
use Rattle.tag.specs.TagString.{is_form}
use Rattle.counters.specs.Permutations.{permutations_at}
use Rattle.counters.specs.Positions.{positions_at}
use Rattle.progress.specs.Place.{sound_place}
use Rattle.counters.proofs.Bounds.{count_bound}
use Rattle.session.specs.Record.{field_in}
use Rattle.session.specs.Soundness.{sound}
use Rattle.session.specs.declared.Session.{Session}

-- the word of the record's phase
abbrev pub phase_word : Session → ℕ
phase_word r = get_or r.words r.phase 0

pub record Sound (r : Session) : Type 0 where
  pub known : is_field r.field ≡ true
  pub formed : is_form r.form ≡ true
  pub long : r.count ≤ length r.words
  pub pattern : sound_words (take r.count r.words) ≡ true
  pub unused : all (λ w. eqb w 0) (drop r.count r.words) ≡ true
  pub within : r.phase ≤ r.count
  pub place : (when ltb r.phase r.count then ltb r.done (length_of (phase_word r)) else eqb r.done 0) ≡ true
  pub reduced : all (is_element (field_in r)) r.state ≡ true
  pub counted : r.permutations ≡ permutations_at r.words r.phase r.done
  pub absorbs_at : r.absorb_position ≡ (positions_at r.words r.phase r.done).absorb
  pub squeezes_at : r.squeeze_position ≡ (positions_at r.words r.phase r.done).squeeze

module _ (r : Session) where
  pub parts : sound r ≡ true → Sound r
  unfolding sound sound_places sound_place
  parts e =
      let e0 = and_right _ _ e in
      let e1 = and_right _ _ e0 in
      let places = and_left _ _ e1 in
      let e2 = and_right _ _ e1 in
      let place = and_left _ _ e2 in
      let e3 = and_right _ _ e2 in
      let e4 = and_right _ _ e3 in
      let e5 = and_right _ _ e4 in
      record {
        known = and_left _ _ e;
        formed = and_left _ _ e0;
        long = leb-true _ _ (and_left _ _ places);
        pattern = and_left _ _ (and_right _ _ places);
        unused = and_right _ _ (and_right _ _ places);
        within = leb-true _ _ (and_left _ _ place);
        place = and_right _ _ place;
        reduced = and_left _ _ e3;
        counted = eqb-true _ _ (and_left _ _ e4);
        absorbs_at = eqb-true _ _ (and_left _ _ e5);
        squeezes_at = eqb-true _ _ (and_right _ _ e5);
      }

  pub whole : Sound r → sound r ≡ true
  unfolding sound sound_places sound_place
  whole s =
      and_both _ _ s.known
      (and_both _ _ s.formed
      (and_both _ _ (and_both _ _ (le-leb _ _ s.long) (and_both _ _ s.pattern s.unused))
      (and_both _ _ (and_both _ _ (le-leb _ _ s.within) s.place)
      (and_both _ _ s.reduced
      (and_both _ _ (eq-eqb _ _ s.counted) (and_both _ _ (eq-eqb _ _ s.absorbs_at) (eq-eqb _ _ s.squeezes_at)))))))

  -- before the last phase's end there is an element to do
  pub element_left : Sound r → r.phase < r.count → r.done < length_of (phase_word r)
  element_left s h = ltb-true _ _ (sym (if_true _ _ _ (lt-ltb _ _ h)) ∙ s.place)

  pub none_done : Sound r → r.phase ≡ r.count → r.done ≡ 0
  none_done s e = eqb-true _ _ (sym (if_false _ _ _ (le-ltb r.phase r.count (omega arith))) ∙ s.place)

  -- ---- how large its numbers can be

  few_words : Sound r → r.count ≤ max_words
  few_words s =
      let many = (words.sound (take r.count r.words) s.pattern).many in
      omega (arith, length-take-le r.count r.words s.long)

  few_done : Sound r → r.done < 2147483648
  few_done s =
      cases (ltb r.phase r.count)
      (λ e. omega (arith, element_left s (ltb-true _ _ e), length_below (phase_word r)))
      λ e. let late = ltb-false r.phase r.count e in
      let within = s.within in
      omega (arith, none_done s (omega arith))

  -- 2^28 permutations for each of 64 phases and for the one being done
  pub few_permutations : Sound r → r.permutations ≤ 268435456 * 65
  few_permutations s =
      let within = s.within in
      omega (arith, s.counted, count_bound r.words r.phase r.done (omega (arith, few_words s)) (few_done s))
