-- The record that START gives is open and sound, and so is what calls leave of it as long as it is open.
-- Assumes nothing.
use mathlib.Core.Path.{◌≡◌, refl, sym, ap, ◌∙◌}
use mathlib.Core.Bool.{Bool, true}
use mathlib.Core.List.{List, ◌++◌}
use Prim.Native.Nat.{ℕ, zero, suc, ◌-◌, ◌%◌, ◌≤◌, zero-le}
use native.Mathlib.Omega.{arith}
use borrow.Author.Tests.{ltb-true, eqb-true, lt-ltb}
use lib.Dec.{ltb, eqb}
use lib.ListN.{length, replicate, length-append}
use lib.Seq.{take-append_seam, drop-append_seam}
use Rattle.basics.specs.Logic.{◌and◌, all}
use Rattle.basics.specs.Lists.{tabulate, sum}
use Rattle.basics.specs.Numbers.{accepted}
use Rattle.basics.proofs.Cases.{by, cases}
use Rattle.field.specs.Field.{modulus, is_field, field_of, is_element}
use Rattle.field.specs.declared.Field.{Field}
use Rattle.field.proofs.Moduli.{above_30_bits}
use Rattle.pattern.specs.Pattern.{merged_words, sound_words}
use Rattle.pattern.specs.Opening.{Opening, opening_number}
use Rattle.tag.specs.TagString.{is_form}
use Rattle.tag.specs.Elements.{tag_elements}
use Rattle.counters.specs.Permutations.{permutations_at}
use Rattle.pattern.proofs.MergedWords.{merged_sound}
use Rattle.session.specs.Record.{tag_state, opened, open_record}
use Rattle.counters.specs.Positions.{positions_at}
use Rattle.session.specs.Soundness.{sound}
use Rattle.session.specs.Calls.{giving, start_record, start_number, start}
use Rattle.session.specs.declared.Session.{Session}
use Rattle.session.specs.Calls.{Answer}
use Rattle.session.proofs.Opening.{number_unknown, number_of_form, number_known, start_opens}
use Rattle.session.proofs.SoundRecord.{Sound, whole}
use Rattle.pattern.proofs.SoundPattern.{word_long}
use Rattle.runs.specs.Calls.{Call, left_by}
use Rattle.runs.proofs.Positions.{no_permutations}
use Rattle.runs.proofs.SoundCalls.{sound_left_by}

module _ (f : Field) where
  low_bits_reduced : (n : ℕ) → ltb (n % 1073741824) (modulus f) ≡ true
  low_bits_reduced n = lt-ltb (n % 1073741824) (modulus f) (omega (arith, above_30_bits f))

  zero_reduced : ltb 0 (modulus f) ≡ true
  zero_reduced = lt-ltb 0 (modulus f) (omega (arith, above_30_bits f))

  pub tag_state_reduced : (digest : List ℕ) → all (is_element f) (tag_state (tag_elements digest)) ≡ true
  unfolding tag_state tag_elements tabulate all ◌and◌
  tag_state_reduced digest = simp (low_bits_reduced, zero_reduced)

zeros : (n : ℕ) → all (λ w. eqb w 0) (replicate n 0) ≡ true
unfolding all ◌and◌
zeros zero = refl
zeros (suc n) = zeros n

-- the record of a field number, a form number, a state and merged words
module _
    (field form : ℕ)
    (state ws : List ℕ)
    (known : is_field field ≡ true)
    (formed : is_form form ≡ true)
    (reduced : all (is_element (field_of field)) state ≡ true)
    (pattern : sound_words ws ≡ true)
  where
    abbrev unused : List ℕ
    unused = replicate (64 - length ws) 0

    pub open_sound : Sound (open_record field form state ws)
    unfolding open_record positions_at permutations_at sum
    open_sound =
        let long : length ws ≤ length (ws ++ unused) = omega (arith, length-append ws unused) in
        let sounds = ap sound_words (take-append_seam ws unused) ∙ pattern in
        record {
          known = known;
          formed = formed;
          long = long;
          pattern = sounds;
          unused = ap (all (λ w. eqb w 0)) (drop-append_seam ws unused) ∙ zeros (64 - length ws);
          within = zero-le;
          place = by (λ (b : Bool). b ≡ true) _ _ _ (λ l. lt-ltb 0 _ (word_long (ws ++ unused) (length ws) long sounds 0 (ltb-true _ _ l))) λ _. refl;
          reduced = reduced;
          counted = rw no_permutations;
          absorbs_at = refl;
          squeezes_at = refl;
        }

module _ (field form : ℕ) (o : Opening) where
  pub number_of : (start field form o).number ≡ start_number field form o
  unfolding start giving
  number_of = by (λ (a : Answer). a.number ≡ start_number field form o) _ _ _ (λ e. sym (eqb-true _ _ e)) λ _. refl

  pub number_known_both : is_field field ≡ true → is_form form ≡ true → (start field form o).number ≡ opening_number o
  number_known_both k f = number_of ∙ number_known field form o k f

  pub start_known : (start field form o).number ≡ accepted → is_field field ≡ true
  start_known e = cases (is_field field) (λ k. k) λ u. absurd (omega (arith, number_of, number_unknown field form o u, e))

  pub start_formed : (start field form o).number ≡ accepted → is_form form ≡ true
  start_formed e =
      cases (is_form form) (λ f. f) λ u. absurd (omega (arith, number_of, number_of_form field form o (start_known e) u, e))

  pub start_accepted : (start field form o).number ≡ accepted → opening_number o ≡ accepted
  start_accepted e = sym (number_known field form o (start_known e) (start_formed e)) ∙ sym number_of ∙ e

  pub accepted_start : is_field field ≡ true → is_form form ≡ true → opening_number o ≡ accepted → (start field form o).number ≡ accepted
  unfolding giving
  accepted_start k f e = ap (λ (a : Answer). a.number) (start_opens field form o k f e)

  module _ (e : (start field form o).number ≡ accepted) where
    pub start_record_law : (start field form o).session ≡ start_record field form o
    unfolding giving
    start_record_law = ap (λ (a : Answer). a.session) (start_opens field form o (start_known e) (start_formed e) (start_accepted e))

    pub start_open : (start field form o).session.status ≡ opened
    unfolding start_record open_record
    start_open = ap (λ (r : Session). r.status) start_record_law

    pub start_sound : sound (start field form o).session ≡ true
    unfolding start_record
    start_sound =
        ap sound start_record_law ∙ whole _ (open_sound field form _ (merged_words o.words) (start_known e) (start_formed e) (tag_state_reduced (field_of field) _) (merged_sound o (start_accepted e)))

    pub sound_run : (cs : List Call) → eqb (left_by (start field form o).session cs).status opened ≡ true
        → sound (left_by (start field form o).session cs) ≡ true
    sound_run cs = sound_left_by (start field form o).session cs (λ _. start_sound)
