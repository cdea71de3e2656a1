-- Why the third demand is, in form 1, one of separators of equal length: without that it does not hold. The two patterns are those of document 01's
-- sample B2.
use Rattle.std.specs.Prelude.{◌≡◌, ◌≢◌, List, [], ◌∷◌, true, length, replicate}
use Rattle.std.proofs.Math.Path.{refl}
use Rattle.std.proofs.Common.{sym, ap, ap₂, ◌∙◌, arith, lt-ltb}
use Prim.Native.Nat.{ℕ, zero, suc}
use Rattle.basics.specs.Logic.{when◌then◌else◌, ◌and◌, ◌or◌, same, all, any}
use Rattle.basics.proofs.Cases.{and_both}
use Rattle.basics.specs.Digits.{digits}
use Rattle.basics.specs.Refusals.{first_number}
use Rattle.words.specs.Words.{Phase, is_absorb, length_of, phase_of, word_of}
use Rattle.pattern.specs.Pattern.{join, merge, phases, merged_words}
use Rattle.pattern.specs.Opening.{Opening, opening, word_rows, opening_rows, opening_number}
use Rattle.tag.specs.TagString.{word_bytes, tail_of, string_of, tag_string}
use Rattle.field.specs.Field.{is_field, field_of, is_element}
use Rattle.field.proofs.Moduli.{positive}
use Rattle.runs.specs.Lengths.{absorb_length}
use Rattle.runs.specs.Runs.{Run, tag_of, pattern_of, absorbed_of}
use Rattle.runs.proofs.Opened.{accepted_start}
use Rattle.runs.proofs.Finishing.{finishable}
use Rattle.claims.specs.Forms.{forms_by_number}

-- the words and the separator of B2's first pattern
two_words : List ℕ
two_words = 0x80000001 ∷ 1 ∷ []

eight_bytes : List ℕ
eight_bytes = 0x80 ∷ 0 ∷ 0 ∷ 2 ∷ 0 ∷ 0 ∷ 0 ∷ 2 ∷ []

-- the words of its second, which has no separator
four_words : List ℕ
four_words = 0x80000001 ∷ 1 ∷ 0x80000002 ∷ 2 ∷ []

-- in each field a finished session of each, with zeros absorbed
module _ (field : ℕ) (known : is_field field ≡ true) where
  zeros : (n : ℕ) → all (is_element (field_of field)) (replicate n 0) ≡ true
  unfolding all
  zeros zero = refl
  zeros (suc n) = and_both _ _ (lt-ltb 0 _ (positive (field_of field))) (zeros n)

  short_session : (a : Run) × (a.field ≡ field) × (a.form ≡ 1) × (a.opening ≡ opening two_words eight_bytes) × (absorbed_of a ≡ 0 ∷ [])
  unfolding two_words eight_bytes opening_number opening_rows word_rows first_number phases merge join phase_of is_absorb length_of absorb_length when◌then◌else◌ ◌and◌ ◌or◌ same any
  short_session = finishable field 1 (opening two_words eight_bytes) (0 ∷ []) (accepted_start field 1 (opening two_words eight_bytes) known forms_by_number.0 refl) refl (zeros 1)

  long_session : (a : Run) × (a.field ≡ field) × (a.form ≡ 1) × (a.opening ≡ opening four_words []) × (absorbed_of a ≡ 0 ∷ 0 ∷ 0 ∷ [])
  unfolding four_words opening_number opening_rows word_rows first_number phases merge join phase_of is_absorb length_of absorb_length when◌then◌else◌ ◌and◌ ◌or◌ same any
  long_session = finishable field 1 (opening four_words []) (0 ∷ 0 ∷ 0 ∷ []) (accepted_start field 1 (opening four_words []) known forms_by_number.0 refl) refl (zeros 3)

same_string : tag_string 1 (opening two_words eight_bytes) ≡ tag_string 1 (opening four_words [])
unfolding two_words eight_bytes four_words tag_string string_of tail_of word_bytes digits merged_words word_of phases merge join phase_of is_absorb length_of when◌then◌else◌ same
same_string = refl

other_phases : phases two_words ≢ phases four_words
unfolding two_words four_words phases merge join phase_of is_absorb length_of when◌then◌else◌ same
other_phases e = let q : ◌≡◌ {A = ℕ} 2 4 = ap (λ (ps : List Phase). length ps) e in omega arith

-- "Hence equal lengths in the third demand.": in each field there are two finished sessions of form 1, with separators of different length, whose
-- tag strings are equal and whose merged patterns are not.
pub equal_lengths_are_needed : (field : ℕ) → is_field field ≡ true
    → (a : Run) × (b : Run) × (a.field ≡ field) × (b.field ≡ field) × (a.form ≡ 1) × (b.form ≡ 1) × (tag_of a ≡ tag_of b) × (pattern_of a ≢ pattern_of b)
equal_lengths_are_needed field known =
    let a = short_session field known in
    let b = long_session field known in (
      a.0,
      b.0,
      a.1,
      b.1,
      a.2,
      b.2,
      ap₂ tag_string a.2 a.3 ∙ same_string ∙ sym (ap₂ tag_string b.2 b.3),
      λ e. other_phases (sym (ap (λ (o : Opening). phases o.words) a.3) ∙ e ∙ ap (λ (o : Opening). phases o.words) b.3),
    )
