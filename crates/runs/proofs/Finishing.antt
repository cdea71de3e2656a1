-- Every session that START opens can be finished, whatever it is to absorb: the third demand does not hold for want of finished sessions.
-- Assumes nothing.
use mathlib.Core.Path.{◌≡◌, refl, sym, ap, ◌∙◌}
use mathlib.Core.Bool.{Bool, true, false}
use mathlib.Core.List.{List, [], ◌∷◌, ◌++◌, nil≢cons, head-eq_of_cons-eq, tail-eq_of_cons-eq}
use Prim.Native.Nat.{ℕ, ◌≤◌, ◌<◌}
use native.Mathlib.Nat.{suc_inj}
use native.Mathlib.Omega.{arith}
use borrow.Author.Tests.{ltb-true, ltb-false, eq-eqb}
use lib.Dec.{ltb, eqb}
use lib.ListN.{length}
use lib.Seq.{take_all}
use Rattle.basics.specs.Logic.{when◌then◌else◌, all}
use Rattle.basics.specs.Numbers.{accepted}
use Rattle.basics.proofs.Cases.{cases, and_left, and_right, and_both}
use Rattle.field.specs.Field.{field_of, is_element}
use Rattle.words.specs.Words.{is_absorb}
use Rattle.pattern.specs.Pattern.{phases}
use Rattle.sponge.specs.Sponge.{absorb_element, squeeze_element}
use Rattle.sponge.specs.Sponge.{Sponge}
use Rattle.session.specs.Record.{opened, sponge_of, moved, next_place_of, absorb_one, squeeze_one, absorb_all, squeeze_all, field_in, parameters_in}
use Rattle.pattern.specs.Opening.{Opening}
use Rattle.session.specs.Calls.{giving, absorb, squeeze, finish, start}
use Rattle.session.specs.declared.Session.{Session}
use Rattle.session.specs.Calls.{Answer}
use Rattle.session.proofs.SoundRecord.{phase_word, Sound, parts, whole, element_left}
use Rattle.session.proofs.Folds.{InPhase}
use Rattle.runs.specs.Calls.{Call, ABSORB, SQUEEZE, FINISH, answered, accepts, left, left_by, absorbed_in, absorbed}
use Rattle.runs.specs.Lengths.{absorb_length}
use Rattle.runs.specs.Runs.{Run, absorbed_of}
use Rattle.runs.proofs.Kept.{absorb_kept, squeeze_kept}
use Rattle.session.proofs.Numbers.{Takes}
use Rattle.runs.proofs.Outcomes.{Ended, absorb_accepted, squeeze_accepted, finish_accepted}
use Rattle.runs.proofs.Opened.{start_open, start_sound}
use Rattle.runs.proofs.Counted.{start_field}
use Rattle.runs.proofs.ElementKinds.{kinds, to_do, to_absorb, absorb_length_law, next_to_do, none_to_do}
use Rattle.runs.proofs.WholePattern.{whole_pattern}

-- one call for each element
unfoldable calls_for : List Bool → List ℕ → List Call
calls_for [] xs = []
calls_for (true ∷ ks) [] = []
calls_for (true ∷ ks) (x ∷ xs) = ABSORB (x ∷ []) ∷ calls_for ks xs
calls_for (false ∷ ks) xs = SQUEEZE 1 ∷ calls_for ks xs

module _ (r : Session) (o : eqb r.status opened ≡ true) (s : Sound r) where
  -- with nothing left to do the record is after its last phase
  ended : to_do r ≡ [] → Ended r
  ended e =
      let past : r.count ≤ r.phase =
      cases (ltb r.phase r.count)
      (λ l. absurd (nil≢cons (sym e ∙ next_to_do r _ refl (element_left r s (ltb-true _ _ l)) (sponge_of r))))
      (ltb-false _ _) in
      let within = s.within in
      record { opens = o; sounds = whole r s; ended = omega arith }

  module _ (k : Bool) (ks : List Bool) (e : to_do r ≡ k ∷ ks) where
    before_end : r.phase < r.count
    before_end =
        cases (ltb r.phase r.count) (ltb-true _ _)
        λ l.
        let within = s.within in
        let past = ltb-false r.phase r.count l in
        absurd (nil≢cons (sym (none_to_do r s (omega arith)) ∙ e))

    split : (t : Sponge) → is_absorb (phase_word r) ∷ to_do (moved r t (next_place_of r)) ≡ k ∷ ks
    split t = sym (next_to_do r _ refl (element_left r s before_end) t) ∙ e

    in_phase : InPhase r k 1
    in_phase =
        record { before_end = before_end; kind = head-eq_of_cons-eq (split (sponge_of r)); room = omega (arith, element_left r s before_end) }

    takes : Takes r k 1
    takes = record { opens = o; sounds = whole r s; fits = λ _. in_phase }

    still_to_do : (t : Sponge) → to_do (moved r t (next_place_of r)) ≡ ks
    still_to_do t = tail-eq_of_cons-eq (split t)

  absorbs_one : (x : ℕ) (ks : List Bool) → to_do r ≡ true ∷ ks → is_element (field_in r) x ≡ true → absorb r (x ∷ []) ≡ giving accepted (absorb_one r x)
  unfolding absorb_all all
  absorbs_one x ks e b = absorb_accepted r (x ∷ []) (takes true ks e) (and_both _ _ b refl)

  squeezes_one : (ks : List Bool) → to_do r ≡ false ∷ ks → squeeze r 1 ≡ giving accepted (squeeze_one r)
  unfolding squeeze_all
  squeezes_one ks e = squeeze_accepted r 1 (takes false ks e)

finishing : (ks : List Bool) (xs : List ℕ) (r : Session) → eqb r.status opened ≡ true → Sound r → to_do r ≡ ks
    → length xs ≡ to_absorb ks → all (is_element (field_in r)) xs ≡ true
    → ((finish (left_by r (calls_for ks xs))).number ≡ accepted) × (absorbed r (calls_for ks xs ++ (FINISH ∷ [])) ≡ xs)
unfolding calls_for to_absorb left_by left answered absorbed absorbed_in accepts giving when◌then◌else◌ absorb_one squeeze_one moved all
finishing [] xs r o s e l b =
    (ap (λ (a : Answer). a.number) (finish_accepted r (ended r o s e)), take_all 0 xs (omega arith))
finishing (true ∷ ks) [] r o s e l b = absurd (omega arith)
finishing (true ∷ ks) (x ∷ xs) r o s e l b =
    let i = in_phase r o s true ks e in
    let a = absorbs_one r o s x ks e (and_left _ _ b) in
    let later =
    finishing ks xs (absorb_one r x) o (absorb_kept r s i.before_end i.kind x) (still_to_do r o s true ks e (absorb_element (parameters_in r) (sponge_of r) x))
    (suc_inj l) (and_right _ _ b) in
    let rest = calls_for ks xs ++ (FINISH ∷ []) in (
      ap (λ (v : Answer). (finish (left_by v.session (calls_for ks xs))).number) a ∙ later.0,
      ap (λ (v : Answer). (when eqb v.number accepted then x ∷ [] else []) ++ absorbed v.session rest) a
          ∙ ap (λ (t : List ℕ). x ∷ t) later.1,
    )
finishing (false ∷ ks) xs r o s e l b =
    let i = in_phase r o s false ks e in
    let a = squeezes_one r o s ks e in
    let later =
    finishing ks xs (squeeze_one r) o (squeeze_kept r s i.before_end i.kind) (still_to_do r o s false ks e (squeeze_element (parameters_in r) (sponge_of r))) l b in (
      ap (λ (v : Answer). (finish (left_by v.session (calls_for ks xs))).number) a ∙ later.0,
      ap (λ (v : Answer). absorbed v.session (calls_for ks xs ++ (FINISH ∷ []))) a ∙ later.1,
    )

pub finishable : (field form : ℕ) (o : Opening) (xs : List ℕ) → (start field form o).number ≡ accepted → length xs ≡ absorb_length (phases o.words)
    → all (is_element (field_of field)) xs ≡ true
    → (a : Run) × (a.field ≡ field) × (a.form ≡ form) × (a.opening ≡ o) × (absorbed_of a ≡ xs)
finishable field form o xs e l b =
    let ks = kinds (phases o.words) in
    let r = (start field form o).session in
    let f =
    finishing ks xs r (eq-eqb _ _ (start_open field form o e)) (parts r (start_sound field form o e)) (whole_pattern field form o e)
    (l ∙ sym (absorb_length_law (phases o.words))) (rw (start_field field form o e) b) in
    (record { field = field; form = form; opening = o; before = calls_for ks xs; opens = e; ends = f.0 }, refl, refl, refl, f.1)
