-- Every place of a sound pattern is reached by some list of calls on an open record at its begin, as START gives it.
-- Assumes nothing.
use mathlib.Core.Path.{◌≡◌, refl, sym, ap, ◌∙◌, subst}
use mathlib.Core.Bool.{Bool, true, false}
use mathlib.Core.Logic.{◌≢◌}
use mathlib.Core.List.{List, [], ◌∷◌, ◌++◌}
use Prim.Native.Nat.{ℕ, zero, suc, ◌-◌, ◌≤◌, ◌<◌}
use native.Mathlib.Omega.{arith}
use borrow.Author.Tests.{eq-eqb, lt-ltb}
use lib.Dec.{eqb}
use lib.ListN.{length, get_or}
use Rattle.basics.specs.Logic.{all}
use Rattle.basics.specs.Numbers.{accepted}
use Rattle.basics.proofs.Cases.{cases, and_both}
use Rattle.basics.proofs.Zeros.{zeros_behind}
use Rattle.words.specs.Words.{is_absorb, length_of}
use Rattle.pattern.specs.Pattern.{merged_words, sound_words}
use Rattle.pattern.proofs.MergedWords.{merged_sound}
use Rattle.field.specs.Field.{is_field, field_of, is_element}
use Rattle.tag.specs.TagString.{is_form}
use Rattle.field.proofs.Moduli.{positive}
use Rattle.sponge.specs.Sponge.{absorb_element, squeeze_element}
use Rattle.sponge.specs.Sponge.{Sponge}
use Rattle.progress.specs.declared.place.Place.{Place}
use Rattle.session.specs.Record.{opened, open_record, sponge_of, moved, next_place_of, absorb_one, squeeze_one, absorb_all, squeeze_all, parameters_in, field_in}
use Rattle.pattern.specs.Opening.{Opening}
use Rattle.session.specs.Calls.{giving, start_record, start}
use Rattle.session.specs.declared.Session.{Session}
use Rattle.session.specs.Calls.{Answer}
use Rattle.session.proofs.SoundRecord.{phase_word, Sound, parts, whole, element_left}
use Rattle.runs.specs.Calls.{Call, ABSORB, SQUEEZE, answered, left, left_by}
use Rattle.runs.proofs.Places.{next_place_law}
use Rattle.session.proofs.Numbers.{Takes}
use Rattle.runs.proofs.Outcomes.{absorb_accepted, squeeze_accepted}
use Rattle.runs.proofs.SoundCalls.{sound_left_by}
use Rattle.runs.proofs.Opened.{tag_state_reduced, open_sound, start_known, start_formed, start_accepted, start_record_law}
use Rattle.runs.proofs.SamePattern.{same_left_by}
use Rattle.runs.proofs.Forks.{left_by_append}

-- an open record that is at a place of its pattern: in a phase, with so many elements of it done
pub record OpenAt (r : Session) (phaseNumber elementsDone : ℕ) : Type 0 where
  pub opens : r.status ≡ opened
  pub phase : r.phase ≡ phaseNumber
  pub done : r.done ≡ elementsDone

-- a call of one element, of the kind of the phase
module _ (r : Session) (o : eqb r.status opened ≡ true) (s : Sound r) (h : r.phase < r.count) where
  takes_one : (k : Bool) → is_absorb (phase_word r) ≡ k → Takes r k 1
  takes_one k e =
      record {
        opens = o;
        sounds = whole r s;
        fits = λ _. record { before_end = h; kind = e; room = omega (arith, element_left r s h) };
      }

  zero_reduced : all (is_element (field_in r)) (0 ∷ []) ≡ true
  unfolding all
  zero_reduced = and_both _ _ (lt-ltb 0 _ (positive (field_in r))) refl

  one_more : (c : Call) × (t : Sponge) × (left r c ≡ moved r t (next_place_of r))
  unfolding left answered giving absorb_all squeeze_all absorb_one squeeze_one
  one_more =
      cases (is_absorb (phase_word r))
      (λ e. (
        ABSORB (0 ∷ []),
        absorb_element (parameters_in r) (sponge_of r) 0,
        ap (λ (a : Answer). a.session) (absorb_accepted r (0 ∷ []) (takes_one true e) zero_reduced),
      ))
      λ e. (SQUEEZE 1, squeeze_element (parameters_in r) (sponge_of r), ap (λ (a : Answer). a.session) (squeeze_accepted r 1 (takes_one false e)))

-- a record that START gives, or one like it: of a field, a state of elements, and sound words
module _
    (field form : ℕ)
    (state ws : List ℕ)
    (known : is_field field ≡ true)
    (formed : is_form form ≡ true)
    (reduced : all (is_element (field_of field)) state ≡ true)
    (pattern : sound_words ws ≡ true)
  where
    abbrev opened_record : Session
    opened_record = open_record field form state ws

    -- some calls lead to the place
    abbrev Reached : ℕ → ℕ → Type 0
    Reached phase done = (cs : List Call) × OpenAt (left_by opened_record cs) phase done

    -- the length of a phase
    abbrev long : ℕ → ℕ
    long phase = length_of (get_or ws phase 0)

    module _ (cs : List Call) (still : (left_by opened_record cs).status ≡ opened) (h : (left_by opened_record cs).phase < length ws) where
      abbrev there : Session
      there = left_by opened_record cs

      sounds : Sound there
      sounds = parts there (sound_left_by opened_record cs (λ _. whole opened_record (open_sound field form state ws known formed reduced pattern)) (eq-eqb _ _ still))

      early : there.phase < there.count
      unfolding open_record
      early = rw (same_left_by opened_record cs (eq-eqb _ _ still)).count h

      length_there : length_of (phase_word there) ≡ long there.phase
      unfolding open_record
      length_there =
          ap (λ (vs : List ℕ). length_of (get_or vs there.phase 0)) (same_left_by opened_record cs (eq-eqb _ _ still)).words
          ∙ ap length_of (zeros_behind ws (64 - length ws) there.phase)

      element_there : there.done < long there.phase
      element_there = rw length_there at (element_left there sounds early)

      -- one call more leads to the next place
      next : Reached (next_place_of there).phase (next_place_of there).done
      unfolding left_by moved
      next =
          let more = one_more there (eq-eqb _ _ still) sounds early in (
            cs ++ (more.0 ∷ []),
            subst (λ (r : Session). OpenAt r (next_place_of there).phase (next_place_of there).done) (sym (left_by_append opened_record cs (more.0 ∷ []) ∙ more.2))
                (record { opens = still; phase = refl; done = refl }),
          )

    module _ (i d : ℕ) (h : i < length ws) (reached : Reached i d) where
      abbrev last : Session
      last = left_by opened_record reached.0

      within : last.phase < length ws
      within = rw reached.1.phase h

      element_here : d < long i
      element_here = rw (reached.1.phase, reached.1.done) at (element_there reached.0 reached.1.opens within)

      same_length : length_of (phase_word last) ≡ long i
      same_length = length_there reached.0 reached.1.opens within ∙ ap long reached.1.phase

      -- from a place to the next one, in this phase or at the begin of the next
      forward : (suc d ≡ long i → Reached (suc i) 0) × (suc d ≢ long i → Reached i (suc d))
      forward =
          next_place_law last (λ (at : Place). Reached at.phase at.done → (suc d ≡ long i → Reached (suc i) 0) × (suc d ≢ long i → Reached i (suc d)))
          (λ q t. (λ _. subst (λ (k : ℕ). Reached (suc k) 0) reached.1.phase t, λ n. absurd (n (ap suc (sym reached.1.done) ∙ q ∙ same_length))))
          (λ q t. (
            λ n. absurd (q (ap suc reached.1.done ∙ n ∙ sym same_length)),
            λ _. subst (λ (k : ℕ). Reached k (suc d)) reached.1.phase (subst (λ (b : ℕ). Reached last.phase (suc b)) reached.1.done t),
          ))
          (next reached.0 reached.1.opens within)

    -- from the begin of a phase to each of its places
    in_phase : (i d : ℕ) → i < length ws → Reached i 0 → d < long i → Reached i d
    in_phase i zero h t l = t
    in_phase i (suc d) h t l = (forward i d h (in_phase i d h t (omega arith))).1 (λ q. omega arith)

    -- the begin of each phase, and the end of the last
    phase_begun : (i : ℕ) → i ≤ length ws → Reached i 0
    unfolding left_by open_record
    phase_begun zero h = ([], record { opens = refl; phase = refl; done = refl })
    phase_begun (suc i) h =
        let begun = phase_begun i (omega arith) in
        let some = element_here i 0 (omega arith) begun in
        (forward i (long i - 1) (omega arith) (in_phase i (long i - 1) (omega arith) begun (omega arith))).0 (omega arith)

    pub open_place_reached : (phase done : ℕ) → phase < length ws → done < length_of (get_or ws phase 0)
        → (cs : List Call) × OpenAt (left_by (open_record field form state ws) cs) phase done
    open_place_reached phase done h l = in_phase phase done h (phase_begun phase (omega arith)) l

    pub open_end_reached : (cs : List Call) × OpenAt (left_by (open_record field form state ws) cs) (length ws) 0
    open_end_reached = phase_begun (length ws) (omega arith)

-- the record that START gives
module _ (field form : ℕ) (o : Opening) (e : (start field form o).number ≡ accepted) where
  abbrev Led : Session → ℕ → ℕ → Type 0
  Led r phase done = (cs : List Call) × OpenAt (left_by r cs) phase done

  pub place_reached : (phase done : ℕ) → phase < length (merged_words o.words) → done < length_of (get_or (merged_words o.words) phase 0)
      → (cs : List Call) × OpenAt (left_by (start field form o).session cs) phase done
  unfolding start_record
  place_reached phase done h l =
      subst (λ (r : Session). Led r phase done) (sym (start_record_law field form o e))
      (open_place_reached field form _ (merged_words o.words) (start_known field form o e) (start_formed field form o e) (tag_state_reduced (field_of field) _) (merged_sound o (start_accepted field form o e)) phase done h l)

  pub end_reached : (cs : List Call) × OpenAt (left_by (start field form o).session cs) (length (merged_words o.words)) 0
  unfolding start_record
  end_reached =
      subst (λ (r : Session). Led r (length (merged_words o.words)) 0) (sym (start_record_law field form o e))
      (open_end_reached field form _ (merged_words o.words) (start_known field form o e) (start_formed field form o e) (tag_state_reduced (field_of field) _) (merged_sound o (start_accepted field form o e)))
