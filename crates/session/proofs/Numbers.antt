-- The numbers that calls on a record get, and what an accepted one tells.
-- Assumes nothing.
use mathlib.Core.Path.{◌≡◌, refl, sym, ap, ◌∙◌}
use mathlib.Core.Bool.{Bool, true, false, not}
use mathlib.Core.List.{List, [], ◌∷◌}
use mathlib.Core.Logic.{◌≢◌}
use Prim.Native.Nat.{ℕ, ◌+◌, ◌^◌, ◌<◌}
use native.Mathlib.Omega.{arith}
use borrow.Author.Tests.{eqb-true, eqb-false, eq-eqb, ne_eqb, not-false}
use lib.Dec.{eqb}
use lib.ListN.{length}
use Rattle.std.proofs.Common.{Result, Err}
use Rattle.basics.specs.Answers.{number_of, answer_number}
use Rattle.basics.specs.declared.Refusal.{Refusal}
use Rattle.basics.specs.Logic.{when◌then◌else◌, ◌or◌, all}
use Rattle.basics.specs.Numbers.{accepted, call_not_in_pattern, element_not_reduced, pattern_not_done}
use Rattle.basics.specs.Refusals.{first_number}
use Rattle.basics.proofs.Cases.{by, cases, if_true, if_false}
use Rattle.basics.proofs.FirstRow.{refused_before}
use Rattle.field.specs.Field.{is_element}
use Rattle.field.specs.declared.Field.{Field}
use Rattle.words.proofs.WordKinds.{length_below}
use Rattle.progress.specs.Place.{in_pattern}
use Rattle.progress.proofs.Calls.{in_phase, in_pattern_law}
use Rattle.sponge.specs.Sponge.{absorb_elements, squeeze_elements}
use Rattle.sponge.proofs.Folds.{absorb_bound, squeeze_bound}
use Rattle.session.specs.Record.{opened, wiped, field_in, parameters_in}
use Rattle.session.specs.Soundness.{sound}
use Rattle.session.specs.Calls.{giving, record_rows, call_rows, absorb_rows, finish_rows, wipes, answer_of}
use Rattle.session.specs.Steps.{refused_with}
use Rattle.session.specs.declared.Session.{Session}
use Rattle.session.proofs.Answered.{turned_away}
use Rattle.session.proofs.Folds.{InPhase, uncounted}
use Rattle.session.proofs.SoundRecord.{phase_word, parts, few_permutations}

-- an open sound record
pub record OpenSound (r : Session) : Type 0 where
  pub opens : eqb r.status opened ≡ true
  pub sounds : sound r ≡ true

-- an open sound record, in whose phase n elements of a kind lie, if there are any
pub record Takes (r : Session) (absorbs : Bool) (n : ℕ) : Type 0 where
  pub opens : eqb r.status opened ≡ true
  pub sounds : sound r ≡ true
  pub fits : 0 < n → InPhase r absorbs n

-- an empty list holds elements alone
none_listed : (f : Field) → accepted ≡ (when not (all (is_element f) []) then element_not_reduced else accepted)
unfolding all when◌then◌else◌
none_listed f = refl

-- ---- the answer, by its number

module _ (r next : Session) (n : ℕ) where
  pub answer_accepted : n ≡ accepted → answer_of n r next ≡ giving accepted next
  unfolding answer_of when◌then◌else◌
  answer_accepted e = rw e refl

  pub answer_refused : n ≢ accepted → answer_of n r next ≡ refused_with n r
  unfolding answer_of refused_with
  answer_refused z = ap (giving n) (if_false _ _ _ (ne_eqb n accepted z))

  -- by the refusal e that a check answers with
  pub refusal_answer : {A : Type 0} (a : Result A Refusal) → answer_number a ≡ n → (e : Refusal) → a ≡ Err e → refused_with (number_of e) r ≡ answer_of n r next
  unfolding answer_number
  refusal_answer a h e is =
      ap (λ (k : ℕ). refused_with k r) (sym (ap answer_number is) ∙ h) ∙ sym (answer_refused (turned_away a n h e is))

module _ (r : Session) where
  -- ---- the rows about the record

  pub record_passes : first_number (record_rows r) ≡ accepted → OpenSound r
  unfolding first_number record_rows
  record_passes =
      by (λ (n : ℕ). n ≡ accepted → OpenSound r) _ _ _ (λ _ e. absurd (omega arith)) λ o.
      by (λ (n : ℕ). n ≡ accepted → OpenSound r) _ _ _ (λ _ e. absurd (omega arith)) λ s _.
      record { opens = not-false _ o; sounds = not-false _ s }

  -- ---- those of a call of n elements of a kind

  module _ (absorbs : Bool) (n : ℕ) where
    -- whether the elements lie in the record's phase
    abbrev fitting : Bool
    fitting = in_pattern r.words r.count r.phase r.done absorbs n

    pub call_refused : first_number (record_rows r) ≢ accepted → first_number (call_rows absorbs n r) ≡ first_number (record_rows r)
    unfolding call_rows
    call_refused z = refused_before (record_rows r) _ z

    module _ (s : OpenSound r) where
      pub call_empty : n ≡ 0 → first_number (call_rows absorbs n r) ≡ accepted
      unfolding first_number call_rows record_rows
      call_empty e = if_false _ _ _ (ap not s.opens) ∙ if_false _ _ _ (ap not s.sounds) ∙ if_true _ _ _ (eq-eqb n 0 e)

      module _ (z : n ≢ 0) where
        to_pattern : first_number (call_rows absorbs n r) ≡ (when not fitting then call_not_in_pattern else accepted)
        unfolding first_number call_rows record_rows
        to_pattern = if_false _ _ _ (ap not s.opens) ∙ if_false _ _ _ (ap not s.sounds) ∙ if_false _ _ _ (ne_eqb n 0 z)

        pub call_fits : fitting ≡ true → first_number (call_rows absorbs n r) ≡ accepted
        call_fits e = to_pattern ∙ if_false _ _ _ (ap not e)

        pub call_outside : fitting ≡ false → first_number (call_rows absorbs n r) ≡ call_not_in_pattern
        call_outside e = to_pattern ∙ if_true _ _ _ (ap not e)

    pub call_takes : first_number (call_rows absorbs n r) ≡ accepted → Takes r absorbs n
    unfolding first_number call_rows record_rows
    call_takes =
        by (λ (k : ℕ). k ≡ accepted → Takes r absorbs n) _ _ _ (λ _ e. absurd (omega arith)) λ o.
        by (λ (k : ℕ). k ≡ accepted → Takes r absorbs n) _ _ _ (λ _ e. absurd (omega arith)) λ s.
        by (λ (k : ℕ). k ≡ accepted → Takes r absorbs n) _ _ _
        (λ z _. record { opens = not-false _ o; sounds = not-false _ s; fits = λ h. absurd (omega (arith, eqb-true n 0 z)) }) λ _.
        by (λ (k : ℕ). k ≡ accepted → Takes r absorbs n) _ _ _ (λ _ e. absurd (omega arith)) λ i _.
        record { opens = not-false _ o; sounds = not-false _ s; fits = λ _. in_phase _ _ _ _ _ _ (not-false _ i) }

    pub takes_call : Takes r absorbs n → first_number (call_rows absorbs n r) ≡ accepted
    takes_call t =
        let s : OpenSound r = record { opens = t.opens; sounds = t.sounds } in
        by_length (λ e. call_empty s e) (λ z. call_fits s z (in_pattern_law _ _ _ _ _ _ (t.fits (omega (arith, z)))))
      where
        by_length : (n ≡ 0 → first_number (call_rows absorbs n r) ≡ accepted) → (n ≢ 0 → first_number (call_rows absorbs n r) ≡ accepted)
            → first_number (call_rows absorbs n r) ≡ accepted
        by_length f g = cases (eqb n 0) (λ e. f (eqb-true n 0 e)) λ e. g (eqb-false n 0 e)

  -- ---- ABSORB: behind them the row about the elements

  module _ (xs : List ℕ) where
    pub absorb_refused : first_number (call_rows true (length xs) r) ≢ accepted
        → first_number (absorb_rows r xs) ≡ first_number (call_rows true (length xs) r)
    unfolding absorb_rows
    absorb_refused z = refused_before (call_rows true (length xs) r) _ z

    pub absorb_takes : first_number (absorb_rows r xs) ≡ accepted → Takes r true (length xs)
    absorb_takes e =
        cases
        (eqb (first_number (call_rows true (length xs) r)) accepted)
        (λ t. call_takes true (length xs) (eqb-true _ _ t))
        λ f. let z = eqb-false _ _ f in absurd (z (sym (absorb_refused z) ∙ e))

  to_elements : (xs : List ℕ) → Takes r true (length xs)
      → first_number (absorb_rows r xs) ≡ (when not (all (is_element (field_in r)) xs) then element_not_reduced else accepted)
  unfolding first_number absorb_rows call_rows record_rows
  to_elements [] t =
      if_false _ _ _ (ap not t.opens) ∙ if_false _ _ _ (ap not t.sounds) ∙ if_true _ _ _ refl ∙ none_listed (field_in r)
  to_elements (x ∷ xs) t =
      if_false _ _ _ (ap not t.opens)
      ∙ if_false _ _ _ (ap not t.sounds)
      ∙ if_false _ _ _ (ne_eqb (length (x ∷ xs)) 0 (λ e. omega arith))
      ∙ if_false _ _ _ (ap not (in_pattern_law _ _ _ _ _ _ (t.fits (omega arith))))

  pub absorb_unreduced : (xs : List ℕ) → Takes r true (length xs) → all (is_element (field_in r)) xs ≡ false → first_number (absorb_rows r xs) ≡ element_not_reduced
  absorb_unreduced xs t e = to_elements xs t ∙ if_true _ _ _ (ap not e)

  pub absorb_passes : (xs : List ℕ) → Takes r true (length xs) → all (is_element (field_in r)) xs ≡ true → first_number (absorb_rows r xs) ≡ accepted
  absorb_passes xs t e = to_elements xs t ∙ if_false _ _ _ (ap not e)

  -- ---- FINISH: behind those about the record the row about the end

  pub finish_refused : first_number (record_rows r) ≢ accepted → first_number (finish_rows r) ≡ first_number (record_rows r)
  unfolding finish_rows
  finish_refused z = refused_before (record_rows r) _ z

  module _ (s : OpenSound r) where
    to_end : first_number (finish_rows r) ≡ (when not (eqb r.phase r.count) then pattern_not_done else accepted)
    unfolding first_number finish_rows record_rows
    to_end = if_false _ _ _ (ap not s.opens) ∙ if_false _ _ _ (ap not s.sounds)

    pub finish_early : r.phase ≢ r.count → first_number (finish_rows r) ≡ pattern_not_done
    finish_early z = to_end ∙ if_true _ _ _ (ap not (ne_eqb _ _ z))

    pub finish_passes : r.phase ≡ r.count → first_number (finish_rows r) ≡ accepted
    finish_passes e = to_end ∙ if_false _ _ _ (ap not (eq-eqb _ _ e))

-- ---- the permutations of the record and of a call can be added

module _ (r : Session) where
  some_or_none : (absorbs : Bool) (n : ℕ) → Takes r absorbs n → n < 2147483648
  some_or_none absorbs n t =
      cases (eqb n 0)
      (λ e. omega (arith, eqb-true n 0 e))
      λ e. let i = t.fits (omega (arith, eqb-false n 0 e)) in
      omega (arith, i.room, length_below (phase_word r))

  pub absorb_countable : (xs : List ℕ) → Takes r true (length xs) → r.permutations + (absorb_elements (parameters_in r) (uncounted r) xs).permutations < 2 ^ 64
  absorb_countable xs t =
      let few = some_or_none true (length xs) t in
      omega (arith, few_permutations r (parts r t.sounds), absorb_bound (parameters_in r) xs (uncounted r))

  pub squeeze_countable : (n : ℕ) → Takes r false n → r.permutations + (squeeze_elements (parameters_in r) (uncounted r) n).permutations < 2 ^ 64
  squeeze_countable n t =
      let few = some_or_none false n t in
      omega (arith, few_permutations r (parts r t.sounds), squeeze_bound (parameters_in r) n (uncounted r))
