-- The lists of calls that end in an accepted FINISH: of refused calls those with number 10 may be among them, and no other.
-- Assumes nothing.
use mathlib.Core.Path.{◌≡◌, refl, sym, ap, subst, ◌∙◌}
use mathlib.Core.Bool.{Bool, true, false, not}
use mathlib.Core.List.{List, [], ◌∷◌, ◌++◌}
use mathlib.Core.Logic.{◌≢◌, ◌⊎◌, ⊎_elim, inl, inr}
use Prim.Native.Nat.{ℕ, ◌<◌}
use native.Mathlib.Omega.{arith}
use borrow.Author.Tests.{eqb-true, eqb-false, eq-eqb}
use lib.Dec.{eqb}
use lib.ListN.{length, take}
use lib.Seq.{length-take-le}
use Rattle.basics.specs.Logic.{when◌then◌else◌, ◌and◌, ◌or◌, all}
use Rattle.basics.specs.Numbers.{accepted, record_not_sound, call_not_in_pattern, element_not_reduced}
use Rattle.basics.specs.Refusals.{first_number}
use Rattle.basics.proofs.Cases.{by, cases, if_true, if_false}
use Rattle.field.specs.Field.{field_of, is_element}
use Rattle.pattern.specs.Opening.{Opening}
use Rattle.pattern.proofs.Soundness as words
use Rattle.pattern.proofs.SoundPattern.{begins_absorbing}
use Rattle.progress.specs.Place.{in_pattern}
use Rattle.session.specs.Record.{opened, wiped, open_record, absorb_all, squeeze_all, field_in}
use Rattle.session.specs.Soundness.{sound}
use Rattle.session.specs.Calls.{giving, start_record, start, record_rows, call_rows, wipes, answer_of, absorb, squeeze, finish}
use Rattle.session.specs.Steps.{refused_with}
use Rattle.session.specs.declared.Session.{Session}
use Rattle.session.specs.Calls.{Answer}
use Rattle.session.proofs.SoundRecord.{parts, element_left}
use Rattle.session.proofs.Numbers.{OpenSound, Takes, answer_refused, record_passes}
use Rattle.session.proofs.Numbers.{call_refused, call_empty, call_fits, call_outside, call_takes, takes_call}
use Rattle.session.proofs.Numbers.{absorb_refused, absorb_unreduced, absorb_passes, finish_refused, finish_early, finish_passes}
use Rattle.runs.specs.Calls.{Call, ABSORB, SQUEEZE, FINISH, answered, left, left_by}
use Rattle.runs.specs.Runs.{Run, started_of}
use Rattle.runs.proofs.Opened.{start_open, start_record_law, start_sound}
use Rattle.runs.proofs.Counted.{start_field}
use Rattle.runs.proofs.Forks.{left_by_append}
use Rattle.runs.proofs.Trace.{wiped_not_finished}

-- a list of calls that START and an accepted FINISH enclose, whichever it is
pub enclosed : (field form : ℕ) (o : Opening) (cs : List Call) → (start field form o).number ≡ accepted → (finish (left_by (start field form o).session cs)).number ≡ accepted
    → (a : Run) × (a.field ≡ field) × (a.form ≡ form) × (a.opening ≡ o) × (a.before ≡ cs)
enclosed field form o cs e f = (record { field = field; form = form; opening = o; before = cs; opens = e; ends = f }, refl, refl, refl, refl)

-- ---- a record that is not open, or open and not sound, is refused every call and left as it is

module _ (r : Session) (refused : first_number (record_rows r) ≢ accepted) where
  abbrev number : ℕ
  number = first_number (record_rows r)

  not_wiping : wipes (first_number (record_rows r)) ≡ false
  unfolding record_rows first_number wipes ◌or◌
  not_wiping =
      by (λ (n : ℕ). wipes n ≡ false) _ _ _ (λ _. refl) λ _. by (λ (n : ℕ). wipes n ≡ false) _ _ _ (λ _. refl) λ _. refl

  kept : (n : ℕ) (next : Session) → n ≡ number → answer_of n r next ≡ giving number r
  unfolding refused_with
  kept n next e =
      ap (λ (k : ℕ). answer_of k r next) e ∙ answer_refused r next number refused ∙ ap (giving number) (if_false _ _ _ not_wiping)

  refused_call : (c : Call) → answered r c ≡ giving number r
  unfolding answered absorb squeeze finish
  refused_call (ABSORB xs) =
      let e = call_refused r true (length xs) refused in
      kept _ _ (absorb_refused r xs (λ z. refused (sym e ∙ z)) ∙ e)
  refused_call (SQUEEZE n) = kept _ _ (call_refused r false n refused)
  refused_call FINISH = kept _ _ (finish_refused r refused)

  stays : (cs : List Call) → left_by r cs ≡ r
  unfolding left_by left giving
  stays [] = refl
  stays (c ∷ cs) = ap (λ (a : Answer). left_by a.session cs) (refused_call c) ∙ stays cs

  never_finished : (cs : List Call) → (finish (left_by r cs)).number ≢ accepted
  unfolding answered giving
  never_finished cs e =
      refused (sym (ap (λ (a : Answer). a.number) (refused_call FINISH)) ∙ sym (ap (λ (s : Session). (finish s).number) (stays cs)) ∙ e)

-- ---- an open sound record: a call lies in the record's phase, or gets 9

module _ (r : Session) (s : OpenSound r) where
  call_number : (absorbs : Bool) (n : ℕ) → Takes r absorbs n ⊎ (first_number (call_rows absorbs n r) ≡ call_not_in_pattern)
  call_number absorbs n =
      cases (eqb n 0) (λ e. inl (call_takes r absorbs n (call_empty r absorbs n s (eqb-true n 0 e)))) λ z.
      cases (in_pattern r.words r.count r.phase r.done absorbs n)
      (λ f. inl (call_takes r absorbs n (call_fits r absorbs n s (eqb-false n 0 z) f)))
      λ f. inr (call_outside r absorbs n s (eqb-false n 0 z) f)

  wiped_by_9 : (next : Session) (n : ℕ) → n ≡ call_not_in_pattern → (answer_of n r next).session ≡ wiped
  unfolding answer_of giving wipes when◌then◌else◌ ◌or◌
  wiped_by_9 next n e = rw e refl

  -- the numbers of calls behind which FINISH is accepted
  abbrev Inside : ℕ → Type 0
  Inside n = (n ≡ accepted) ⊎ (n ≡ element_not_reduced)

  module _ (cs : List Call) where
    abbrev Finished : Session → Type 0
    Finished t = (finish (left_by t cs)).number ≡ accepted

    not_wiped : (t : Session) → t ≡ wiped → Finished t → ⊥
    not_wiped t e f = wiped_not_finished cs (subst Finished e f)

    absorb_inside : (xs : List ℕ) → Finished (absorb r xs).session → Inside (absorb r xs).number
    unfolding absorb answer_of giving
    absorb_inside xs f =
        ⊎_elim
        (λ t. cases (all (is_element (field_in r)) xs) (λ e. inl (absorb_passes r xs t e)) λ e. inr (absorb_unreduced r xs t e))
        (λ e.
        let refused : first_number (call_rows true (length xs) r) ≢ accepted = λ z. omega (arith, e, z) in
        absurd (not_wiped _ (wiped_by_9 (absorb_all r xs) _ (absorb_refused r xs refused ∙ e)) f))
        (call_number true (length xs))

    squeeze_inside : (n : ℕ) → Finished (squeeze r n).session → Inside (squeeze r n).number
    unfolding squeeze answer_of giving
    squeeze_inside n f =
        ⊎_elim (λ t. inl (takes_call r false n t)) (λ e. absurd (not_wiped _ (wiped_by_9 (squeeze_all r n) _ e) f)) (call_number false n)

    -- FINISH wipes it, accepted or not
    finish_wipes : (finish r).session ≡ wiped
    unfolding finish answer_of giving wipes when◌then◌else◌ ◌or◌
    finish_wipes =
        cases (eqb r.phase r.count)
        (λ e. rw (finish_passes r s (eqb-true _ _ e)) refl)
        λ e. rw (finish_early r s (eqb-false _ _ e)) refl

    open_inside : (c : Call) → Finished (left r c) → Inside (answered r c).number
    unfolding left answered
    open_inside (ABSORB xs) f = absorb_inside xs f
    open_inside (SQUEEZE n) f = squeeze_inside n f
    open_inside FINISH f = absurd (not_wiped _ finish_wipes f)

-- an open record that is not sound gets 8 from every call
pub not_sound_refused : (r : Session) (c : Call) → eqb r.status opened ≡ true → sound r ≡ false → answered r c ≡ giving record_not_sound r
unfolding record_rows first_number
not_sound_refused r c o e =
    let number : first_number (record_rows r) ≡ record_not_sound = if_false _ _ _ (ap not o) ∙ if_true _ _ _ (ap not e) in
    refused_call r (λ z. omega (arith, number, z)) c ∙ ap (λ (n : ℕ). giving n r) number

inside : (r : Session) (c : Call) (cs : List Call) → (finish (left_by (left r c) cs)).number ≡ accepted
    → ((answered r c).number ≡ accepted) ⊎ ((answered r c).number ≡ element_not_reduced)
unfolding left giving
inside r c cs f =
    cases (eqb (first_number (record_rows r)) accepted)
    (λ e. open_inside r (record_passes r (eqb-true _ _ e)) cs c f)
    λ e.
    let refused = eqb-false _ _ e in
    absurd (never_finished r refused cs (sym (ap (λ (a : Answer). (finish (left_by a.session cs)).number) (refused_call r refused c)) ∙ f))

-- a call of a finished session is accepted, or gets 10
pub calls_inside : (a : Run) (cs : List Call) (c : Call) (ds : List Call) → a.before ≡ cs ++ (c ∷ ds)
    → let r = left_by (started_of a) cs in
    ((answered r c).number ≡ accepted) ⊎ ((answered r c).number ≡ element_not_reduced)
unfolding left_by
calls_inside a cs c ds e =
    inside (left_by (started_of a) cs) c ds
    (sym (ap (λ (t : Session). (finish t).number) (ap (left_by (started_of a)) e ∙ left_by_append (started_of a) cs (c ∷ ds))) ∙ a.ends)

-- ---- and 10 may be among them: before the first call of any

module _ (field form : ℕ) (o : Opening) (e : (start field form o).number ≡ accepted) where
  abbrev opened_record : Session
  opened_record = (start field form o).session

  begins : opened_record.phase ≡ 0
  unfolding start_record open_record
  begins = ap (λ (r : Session). r.phase) (start_record_law field form o e)

  absorbs_first : Takes opened_record true 1
  absorbs_first =
      let r = opened_record in
      let s = parts r (start_sound field form o e) in
      let long = length-take-le r.count r.words s.long in
      let some = (words.sound (take r.count r.words) s.pattern).few in
      let early : r.phase < r.count = omega (arith, begins) in
      record {
        opens = eq-eqb _ _ (start_open field form o e);
        sounds = start_sound field form o e;
        fits = λ _. record {
          before_end = early;
          kind = rw begins (begins_absorbing r.words r.count s.long s.pattern (omega arith));
          room = omega (arith, element_left r s early);
        };
      }

  turned_away : (x : ℕ) → is_element (field_of field) x ≡ false → absorb opened_record (x ∷ []) ≡ giving element_not_reduced opened_record
  unfolding absorb answer_of wipes when◌then◌else◌ ◌or◌ all ◌and◌
  turned_away x h = rw (absorb_unreduced opened_record (x ∷ []) absorbs_first (rw (start_field field form o e, h) refl)) refl

pub refused_first : (a : Run) (x : ℕ) → is_element (field_of a.field) x ≡ false
    → (b : Run) × (b.field ≡ a.field) × (b.form ≡ a.form) × (b.opening ≡ a.opening) × (b.before ≡ ABSORB (x ∷ []) ∷ a.before)
    × ((answered (started_of b) (ABSORB (x ∷ []))).number ≡ element_not_reduced)
unfolding left_by left answered giving
refused_first a x h =
    let e = turned_away a.field a.form a.opening a.opens x h in (
      record {
        field = a.field;
        form = a.form;
        opening = a.opening;
        before = ABSORB (x ∷ []) ∷ a.before;
        opens = a.opens;
        ends = ap (λ (v : Answer). (finish (left_by v.session a.before)).number) e ∙ a.ends;
      },
      refl,
      refl,
      refl,
      refl,
      ap (λ (v : Answer). v.number) e,
    )
