-- Which number sealing and opening give, and what each leaves.
-- Assumes nothing.
use mathlib.Core.Path.{◌≡◌, refl, sym, ap, ◌∙◌}
use mathlib.Core.Bool.{true, false, not}
use mathlib.Core.List.{List, [], ◌∷◌}
use mathlib.Core.Logic.{◌≢◌}
use Prim.Native.Nat.{ℕ, ◌+◌, ◌≤◌, ◌<◌}
use native.Mathlib.Omega.{arith}
use borrow.Author.Tests.{lt-ltb, le-ltb, eqb-true, eqb-false, eq-eqb, ne_eqb}
use lib.Dec.{eqb}
use lib.ListN.{length, replicate}
use Rattle.basics.specs.Logic.{◌and◌, ◌or◌, all, any}
use Rattle.basics.specs.Lists.{total}
use Rattle.basics.specs.Numbers.{accepted, separator_too_long, element_not_reduced, field_unknown, seal_length_invalid, mark_differs}
use Rattle.basics.specs.Refusals.{Row, first_number}
use Rattle.basics.proofs.Cases.{by, cases, if_true, if_false, and_left, and_right}
use Rattle.field.specs.Field.{is_field, field_of}
use Rattle.seal.specs.Seal.{Context, Outcome, leaving, sound_lengths, are_elements, note_rows, seal_rows, open_rows, seal_note, open_note}
use Rattle.note_laws.specs.Conditions.{RightLengths}
use Rattle.seal.proofs.Rows.{passed}
use Rattle.seal.proofs.Outcomes.{first, never_21, seal_refused, open_refused}

module _ (c : Context) (text : List ℕ) (textMark buffer bufferMark : ℕ) where
  abbrev number : ℕ
  number = first_number (note_rows c text textMark buffer bufferMark)

  abbrev Right : Type 0
  Right = RightLengths c (length text) textMark buffer bufferMark

  pub gives_18 : is_field c.field ≡ false → number ≡ field_unknown
  unfolding note_rows first_number
  gives_18 e = if_true _ _ _ (ap not e)

  module _ (known : is_field c.field ≡ true) where
    pub gives_6 : 256 < length c.separator → number ≡ separator_too_long
    unfolding note_rows first_number
    gives_6 h = if_false _ _ _ (ap not known) ∙ if_true _ _ _ (lt-ltb 256 (length c.separator) h)

    module _ (short : length c.separator ≤ 256) where
      -- 20, but where every length is right
      pub gives_20 : (Right → ⊥) → number ≡ seal_length_invalid
      unfolding note_rows first_number
      gives_20 wrong =
          if_false _ _ _ (ap not known)
          ∙ if_false _ _ _ (le-ltb 256 (length c.separator) short)
          ∙ cases (sound_lengths c.lengths)
          (λ blocks. if_false _ _ _ (ap not blocks)
          ∙ cases (eqb (length c.key) 8)
          (λ key. if_false _ _ _ (ap not key)
          ∙ cases (eqb (length c.nonce) 8)
          (λ nonce. if_false _ _ _ (ap not nonce)
          ∙ cases (eqb (length text) (total c.lengths + textMark))
          (λ long. if_false _ _ _ (ap not long)
          ∙ cases (eqb buffer (total c.lengths + bufferMark))
          (λ room. absurd (wrong (record {
            of_blocks = blocks;
            of_key = eqb-true _ _ key;
            of_nonce = eqb-true _ _ nonce;
            of_text = eqb-true _ _ long;
            of_buffer = eqb-true _ _ room;
          })))
          (λ e. if_true _ _ _ (ap not e)))
          (λ e. if_true _ _ _ (ap not e)))
          (λ e. if_true _ _ _ (ap not e)))
          (λ e. if_true _ _ _ (ap not e)))
          (λ e. if_true _ _ _ (ap not e))

      module _ (right : Right) where
        pub gives_10 : are_elements (field_of c.field) c.key c.nonce text ≡ false → number ≡ element_not_reduced
        unfolding note_rows first_number
        gives_10 e =
            if_false _ _ _ (ap not known)
            ∙ if_false _ _ _ (le-ltb 256 (length c.separator) short)
            ∙ if_false _ _ _ (ap not right.of_blocks)
            ∙ if_false _ _ _ (ap not (eq-eqb _ _ right.of_key))
            ∙ if_false _ _ _ (ap not (eq-eqb _ _ right.of_nonce))
            ∙ if_false _ _ _ (ap not (eq-eqb _ _ right.of_text))
            ∙ if_false _ _ _ (ap not (eq-eqb _ _ right.of_buffer))
            ∙ if_true _ _ _ (ap not e)

        pub gives_0 : are_elements (field_of c.field) c.key c.nonce text ≡ true → number ≡ accepted
        unfolding note_rows first_number
        gives_0 e =
            if_false _ _ _ (ap not known)
            ∙ if_false _ _ _ (le-ltb 256 (length c.separator) short)
            ∙ if_false _ _ _ (ap not right.of_blocks)
            ∙ if_false _ _ _ (ap not (eq-eqb _ _ right.of_key))
            ∙ if_false _ _ _ (ap not (eq-eqb _ _ right.of_nonce))
            ∙ if_false _ _ _ (ap not (eq-eqb _ _ right.of_text))
            ∙ if_false _ _ _ (ap not (eq-eqb _ _ right.of_buffer))
            ∙ if_false _ _ _ (ap not e)

module _ (c : Context) (text buffer : List ℕ) where
  -- a number of these rows is the call's, and the buffer is left with it
  pub sealing_number : (seal_note c text buffer).number ≡ first_number (note_rows c text 0 (length buffer) 8)
  unfolding seal_note seal_rows
  sealing_number = refl

  pub sealing_refused : (n : ℕ) → first_number (note_rows c text 0 (length buffer) 8) ≡ n → eqb n accepted ≡ false → seal_note c text buffer ≡ leaving n buffer
  unfolding seal_rows
  sealing_refused n e z = seal_refused c text buffer (λ a. eqb-false n accepted z (sym e ∙ a)) ∙ ap (λ (k : ℕ). leaving k buffer) e

  pub opening_refused : (n : ℕ) → first_number (note_rows c text 8 (length buffer) 0) ≡ n → eqb n accepted ≡ false → open_note c text buffer ≡ leaving n buffer
  opening_refused n e z = open_refused c text buffer (λ a. eqb-false n accepted z (sym e ∙ a)) ∙ ap (λ (k : ℕ). leaving k buffer) e

-- ---- which numbers there are

one_of : (ns : List ℕ) (rows : List Row) → any (λ n. eqb accepted n) ns ≡ true → all (λ row. any (λ n. eqb row.number n) ns) rows ≡ true
    → any (λ n. eqb (first_number rows) n) ns ≡ true
unfolding first_number all
one_of ns [] z e = z
one_of ns (row ∷ rows) z e =
    by (λ (k : ℕ). any (λ n. eqb k n) ns ≡ true) _ _ _ (λ _. and_left _ _ e) λ _. one_of ns rows z (and_right _ _ e)

module _ (c : Context) (text buffer : List ℕ) where
  pub seal_numbers : any (λ n. eqb (seal_note c text buffer).number n) (0 ∷ 6 ∷ 10 ∷ 18 ∷ 20 ∷ []) ≡ true
  unfolding seal_note seal_rows note_rows all any ◌and◌ ◌or◌
  seal_numbers = one_of (0 ∷ 6 ∷ 10 ∷ 18 ∷ 20 ∷ []) (seal_rows c text buffer) refl refl

  pub open_numbers : any (λ n. eqb (open_note c text buffer).number n) (0 ∷ 6 ∷ 10 ∷ 18 ∷ 20 ∷ 21 ∷ []) ≡ true
  unfolding open_note open_rows note_rows all any ◌and◌ ◌or◌
  open_numbers = one_of (0 ∷ 6 ∷ 10 ∷ 18 ∷ 20 ∷ 21 ∷ []) (open_rows c text buffer) refl refl

  -- ---- what refusals leave

  pub seal_leaves : (seal_note c text buffer).number ≢ accepted → (seal_note c text buffer).buffer ≡ buffer
  unfolding seal_note
  seal_leaves z = if_false _ _ _ (ne_eqb _ _ z)

  pub open_leaves : (open_note c text buffer).number ≢ accepted → (open_note c text buffer).number ≢ mark_differs → (open_note c text buffer).buffer ≡ buffer
  unfolding open_note
  open_leaves z other = if_false _ _ _ (ne_eqb _ _ z) ∙ if_false _ _ _ (ne_eqb _ _ other)

  -- 21 comes behind the other rows, so the buffer has as many places as the blocks have elements
  differs_for : (open_note c text buffer).number ≡ mark_differs → first c text buffer ≡ accepted
  differs_for e =
      cases (eqb (first c text buffer) accepted) (eqb-true _ _)
      λ z.
      let number = ap (λ (o : Outcome). o.number) (open_refused c text buffer (eqb-false _ _ z)) in
      absurd (never_21 c text buffer (sym number ∙ e))

  pub open_zeros : (open_note c text buffer).number ≡ mark_differs → (open_note c text buffer).buffer ≡ replicate (length buffer) 0
  unfolding open_note
  open_zeros e =
      let p = passed c text 8 (length buffer) 0 (differs_for e) in
      let size : total c.lengths ≡ length buffer = omega (arith, p.buffer_long) in
      if_false _ _ _ (ap (λ (n : ℕ). eqb n accepted) e) ∙ if_true _ _ _ (eq-eqb _ _ e) ∙ ap (λ (n : ℕ). replicate n 0) size
