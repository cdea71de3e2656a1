-- A sound record is, but for its state, one that some calls lead to, from the begin of its pattern.
-- Assumes nothing.
use mathlib.Core.Path.{◌≡◌, refl, sym, ap, ◌∙◌}
use mathlib.Core.Bool.{true}
use mathlib.Core.List.{List, [], ◌∷◌}
use Prim.Native.Nat.{ℕ, zero, suc, ◌-◌}
use native.Mathlib.Omega.{arith}
use borrow.Author.Tests.{ltb-true, ltb-false, eqb-true, eq-eqb}
use lib.Dec.{ltb, eqb}
use lib.ListN.{length, get_or, take, drop, replicate, length-append, length-replicate}
use lib.Seq.{length-take-le, ext_get_or}
use Rattle.basics.specs.Logic.{all}
use Rattle.basics.specs.Numbers.{accepted}
use Rattle.basics.proofs.Cases.{cases, and_left, and_right}
use Rattle.basics.proofs.Zeros.{zeros_behind}
use Rattle.words.specs.Words.{length_of}
use Rattle.pattern.specs.Pattern.{merged_words}
use Rattle.counters.specs.Permutations.{permutations_at}
use Rattle.counters.specs.Positions.{positions_at}
use Rattle.field.specs.Field.{field_of, is_element}
use Rattle.pattern.specs.Opening.{Opening}
use Rattle.session.specs.Record.{opened, open_record}
use Rattle.session.specs.Calls.{start_record, start}
use Rattle.session.specs.declared.Session.{Session}
use Rattle.session.proofs.SoundRecord.{Sound, parts, whole, element_left, none_done}
use Rattle.runs.specs.Calls.{Call, left_by}
use Rattle.runs.proofs.SoundCalls.{sound_left_by}
use Rattle.runs.proofs.Opened.{tag_state_reduced, open_sound, start_record_law}
use Rattle.runs.proofs.SamePattern.{same_left_by}
use Rattle.runs.proofs.Reached.{OpenAt, open_place_reached, open_end_reached}

-- words behind which all are 0 read as the whole list does
used_words : (n : ℕ) (ws : List ℕ) → all (λ w. eqb w 0) (drop n ws) ≡ true → (k : ℕ) → get_or ws k 0 ≡ get_or (take n ws) k 0
unfolding all
used_words zero [] e k = refl
used_words zero (w ∷ ws) e zero = eqb-true w 0 (and_left _ _ e)
used_words zero (w ∷ ws) e (suc k) = used_words zero ws (and_right _ _ e) k
used_words (suc n) [] e k = refl
used_words (suc n) (w ∷ ws) e zero = refl
used_words (suc n) (w ∷ ws) e (suc k) = used_words n ws e k

module _ (r : Session) (s : Sound r) where
  abbrev pattern : List ℕ
  pattern = take r.count r.words

  word_used : (k : ℕ) → get_or r.words k 0 ≡ get_or pattern k 0
  word_used = used_words r.count r.words s.unused

  pattern_long : length pattern ≡ r.count
  pattern_long = length-take-le r.count r.words s.long

  module _ (state : List ℕ) (reduced : all (is_element (field_of r.field)) state ≡ true) where
    abbrev begun : Session
    begun = open_record r.field r.form state pattern

    reached : (cs : List Call) × OpenAt (left_by begun cs) r.phase r.done
    reached =
        cases (ltb r.phase r.count)
        (λ l.
        let early = ltb-true _ _ l in
        open_place_reached r.field r.form state pattern s.known s.formed reduced s.pattern r.phase r.done (rw pattern_long early)
        (rw (ap length_of (sym (word_used r.phase))) (element_left r s early)))
        λ l.
        let late = ltb-false r.phase r.count l in
        let within = s.within in
        let ended : r.phase ≡ r.count = omega arith in
        rw (ended ∙ sym pattern_long, none_done r s ended) (open_end_reached r.field r.form state pattern s.known s.formed reduced s.pattern)

    module _ (opens : r.status ≡ opened) (places : length r.words ≡ 64) where
      -- the record that calls lead to, with the state of this one, is this one
      pub record_reached : (cs : List Call)
          × (let t = left_by (open_record r.field r.form state (take r.count r.words)) cs in
          (◌≡◌ {A = Session}
          (record {
            status = t.status;
            field = t.field;
            form = t.form;
            state = r.state;
            words = t.words;
            count = t.count;
            phase = t.phase;
            done = t.done;
            absorb_position = t.absorb_position;
            squeeze_position = t.squeeze_position;
            permutations = t.permutations;
          })
          r))
      unfolding open_record
      record_reached =
          let cs = reached.0 in
          let at = reached.1 in
          let t = left_by begun cs in
          let o = eq-eqb _ _ at.opens in
          let sounds = parts t (sound_left_by begun cs (λ _. whole begun (open_sound r.field r.form state pattern s.known s.formed reduced s.pattern)) o) in
          let same = same_left_by begun cs o in
          let unused = 64 - length pattern in
          let word : (k : ℕ) → get_or t.words k 0 ≡ get_or r.words k 0 = λ k.
          ap (λ (ws : List ℕ). get_or ws k 0) same.words ∙ zeros_behind pattern unused k ∙ sym (word_used k) in
          let long : length t.words ≡ length r.words =
          ap length same.words
          ∙ length-append pattern (replicate unused 0)
          ∙ omega (arith, length-replicate {A = ℕ} unused 0, pattern_long, s.long) in
          let words = ext_get_or 0 t.words r.words long (λ k _. word k) in
          let positions : positions_at t.words t.phase t.done ≡ positions_at r.words r.phase r.done =
          λ i. positions_at (words i) (at.phase i) (at.done i) in
          let absorbs_at = sounds.absorbs_at ∙ (λ i. (positions i).absorb) ∙ sym s.absorbs_at in
          let squeezes_at = sounds.squeezes_at ∙ (λ i. (positions i).squeeze) ∙ sym s.squeezes_at in
          let counted = sounds.counted ∙ (λ i. permutations_at (words i) (at.phase i) (at.done i)) ∙ sym s.counted in
          let count = same.count ∙ pattern_long in
          let status = at.opens ∙ sym opens in
          let field = same.field in
          let form = same.form in (
            cs,
            λ i. record {
              status = status i;
              field = field i;
              form = form i;
              state = r.state;
              words = words i;
              count = count i;
              phase = at.phase i;
              done = at.done i;
              absorb_position = absorbs_at i;
              squeeze_position = squeezes_at i;
              permutations = counted i;
            },
          )

-- START's record of an opening is the begin of its merged words
pub started_at : (field form : ℕ) (o : Opening) → (start field form o).number ≡ accepted
    → (state : List ℕ) × (all (is_element (field_of field)) state ≡ true) × ((start field form o).session ≡ open_record field form state (merged_words o.words))
unfolding start_record
started_at field form o e = (_, tag_state_reduced (field_of field) _, start_record_law field form o e)
