-- A record at the begin of a phase, and a call of the whole phase.
-- Assumes nothing.
use mathlib.Core.Path.{◌≡◌, refl, sym, ap, subst, ◌∙◌}
use mathlib.Core.Bool.{Bool, true, false}
use mathlib.Core.List.{List, [], ◌∷◌, head-eq_of_cons-eq, tail-eq_of_cons-eq}
use Prim.Native.Nat.{ℕ, suc, ◌≤◌, ◌<◌}
use native.Mathlib.Omega.{arith}
use lib.Dec.{eqb}
use lib.ListN.{length, get_or, take, drop, length-drop}
use lib.Seq.{drop-cons, get_or-take, length-take-le, take-append_seam}
use Rattle.basics.specs.Logic.{all}
use Rattle.basics.specs.Numbers.{accepted}
use Rattle.field.specs.Field.{field_of, is_element}
use Rattle.words.specs.Words.{is_absorb, length_of}
use Rattle.pattern.specs.Pattern.{merged_words}
use Rattle.pattern.specs.Opening.{Opening}
use Rattle.pattern.proofs.MergedWords.{merged_sound}
use Rattle.progress.specs.Place.{place_after}
use Rattle.progress.specs.declared.place.Place.{Place}
use Rattle.progress.proofs.Calls as calls
use Rattle.session.specs.Record.{opened, open_record, moved, field_in, absorb_all, squeeze_all}
use Rattle.session.specs.Calls.{giving, start_record, start, absorb, squeeze, finish}
use Rattle.session.specs.Steps.{moved_on}
use Rattle.session.specs.declared.Session.{Session}
use Rattle.session.specs.Calls.{Answer}
use Rattle.session.proofs.SoundRecord.{phase_word, Sound, whole, element_left}
use Rattle.session.proofs.Folds.{InPhase, absorb_all_law, squeeze_all_law}
use Rattle.session.proofs.Numbers.{Takes}
use Rattle.runs.proofs.Outcomes.{absorb_accepted, squeeze_accepted, finish_accepted}
use Rattle.runs.proofs.Opened.{tag_state_reduced, open_sound, start_known, start_formed, start_accepted, start_record_law}
use Rattle.runs.proofs.SamePattern.{SamePattern, absorb_all_same, squeeze_all_same}
use Rattle.runs.proofs.SoundCalls.{absorb_all_kept, squeeze_all_kept}

-- an open sound record that begins a phase, with the words of this phase and those behind it
pub record At (r : Session) (ws : List ℕ) : Type 0 where
  pub opens : eqb r.status opened ≡ true
  pub sounds : Sound r
  pub fresh : r.done ≡ 0
  pub left : drop r.phase (take r.count r.words) ≡ ws

-- START's record
pub at_start : (field form : ℕ) (o : Opening) → (start field form o).number ≡ accepted → At (start field form o).session (merged_words o.words)
unfolding start_record open_record
at_start field form o e =
    let ws = merged_words o.words in
    subst (λ (r : Session). At r ws) (sym (start_record_law field form o e))
    (record {
      opens = refl;
      sounds = open_sound field form _ ws (start_known field form o e) (start_formed field form o e) (tag_state_reduced (field_of field) _) (merged_sound o (start_accepted field form o e));
      fresh = refl;
      left = take-append_seam ws _;
    })

module _ (r : Session) where
  abbrev used : List ℕ
  used = take r.count r.words

  -- behind its last phase the session can be finished
  pub at_end : At r [] → (finish r).number ≡ accepted
  unfolding giving
  at_end a =
      let s = a.sounds in
      let long = length-take-le r.count r.words s.long in
      let past : r.count ≤ r.phase = omega (arith, ap length a.left, length-drop r.phase used) in
      ap (λ (b : Answer). b.number)
      (finish_accepted r (record { opens = a.opens; sounds = whole r s; ended = omega (arith, s.within, past) }))

  module _ (w : ℕ) (ws : List ℕ) (a : At r (w ∷ ws)) where
    early : r.phase < r.count
    early =
        let long = length-take-le r.count r.words a.sounds.long in
        omega (arith, ap length a.left, length-drop r.phase used)

    next : get_or used r.phase 0 ∷ drop (suc r.phase) used ≡ w ∷ ws
    next =
        sym (drop-cons used r.phase 0 (omega (arith, early, length-take-le r.count r.words a.sounds.long)))
        ∙ a.left

    word : phase_word r ≡ w
    word = sym (get_or-take r.count r.words r.phase 0 early) ∙ head-eq_of_cons-eq next

    module _ (k : Bool) (n : ℕ) (kind : is_absorb w ≡ k) (size : length_of w ≡ n) where
      some : 0 < n
      some = omega (arith, element_left r a.sounds early, ap length_of word, size)

      within : InPhase r k n
      within =
          record {
            before_end = early;
            kind = ap is_absorb word ∙ kind;
            room = omega (arith, a.fresh, ap length_of word, size);
          }

      takes : Takes r k n
      takes = record { opens = a.opens; sounds = whole r a.sounds; fits = λ _. within }

      place : place_after r.words r.count r.phase r.done n ≡ record { phase = suc r.phase; done = 0 }
      place =
          calls.next_phase r.words r.count r.phase r.done n early (element_left r a.sounds early)
          (omega (arith, ap length_of word, size))

      -- what is left to be shown of the record behind the phase
      behind : (s : Session) → SamePattern r s → Sound s → s.phase ≡ suc r.phase → s.done ≡ 0 → At s ws
      behind s same sounds phase done =
          record {
            opens = ap (λ (b : ℕ). eqb b opened) same.status ∙ a.opens;
            sounds = sounds;
            fresh = done;
            left = rw (phase, same.count, same.words) (tail-eq_of_cons-eq next);
          }

  -- a SQUEEZE of the whole phase is accepted
  pub record Squeezed (n : ℕ) (ws : List ℕ) : Type 0 where
    pub number : (squeeze r n).number ≡ accepted
    pub at : At (squeeze r n).session ws
    pub field : (squeeze r n).session.field ≡ r.field

  pub squeeze_phase : (w n : ℕ) (ws : List ℕ) → At r (w ∷ ws) → is_absorb w ≡ false → length_of w ≡ n → Squeezed n ws
  unfolding giving moved_on moved
  squeeze_phase w n ws a kind size =
      let answer = squeeze_accepted r n (takes w ws a false n kind size) in
      let left = ap (λ (b : Answer). b.session) answer in
      let same = squeeze_all_same r n in
      let fits : 0 < n → InPhase r false n = λ _. within w ws a false n kind size in
      let moves = squeeze_all_law r n fits in
      let place = place w ws a false n kind size in
      record {
        number = ap (λ (b : Answer). b.number) answer;
        at = subst (λ (s : Session). At s ws) (sym left)
            (behind w ws a false n kind size (squeeze_all r n) same (squeeze_all_kept r n a.sounds fits)
            (ap (λ (s : Session). s.phase) (sym moves) ∙ ap (λ (p : Place). p.phase) place)
            (ap (λ (s : Session). s.done) (sym moves) ∙ ap (λ (p : Place). p.done) place));
        field = ap (λ (s : Session). s.field) left ∙ same.field;
      }

  -- and so is an ABSORB, of elements
  pub record Absorbed (xs ws : List ℕ) : Type 0 where
    pub number : (absorb r xs).number ≡ accepted
    pub at : At (absorb r xs).session ws
    pub field : (absorb r xs).session.field ≡ r.field

  pub absorb_phase : (w : ℕ) (xs ws : List ℕ) → At r (w ∷ ws) → is_absorb w ≡ true → length_of w ≡ length xs → all (is_element (field_in r)) xs ≡ true → Absorbed xs ws
  unfolding giving moved_on moved
  absorb_phase w xs ws a kind size elements =
      let n = length xs in
      let answer = absorb_accepted r xs (takes w ws a true n kind size) elements in
      let left = ap (λ (b : Answer). b.session) answer in
      let same = absorb_all_same r xs in
      let fits : 0 < n → InPhase r true n = λ _. within w ws a true n kind size in
      let moves = absorb_all_law r xs fits in
      let place = place w ws a true n kind size in
      record {
        number = ap (λ (b : Answer). b.number) answer;
        at = subst (λ (s : Session). At s ws) (sym left)
            (behind w ws a true n kind size (absorb_all r xs) same (absorb_all_kept r xs a.sounds fits)
            (ap (λ (s : Session). s.phase) (sym moves) ∙ ap (λ (p : Place). p.phase) place)
            (ap (λ (s : Session). s.done) (sym moves) ∙ ap (λ (p : Place). p.done) place));
        field = ap (λ (s : Session). s.field) left ∙ same.field;
      }
