-- What is known where none of the rows that sealing and opening share applies.
-- Assumes nothing.
use mathlib.Core.Path.{◌≡◌, ap, ◌∙◌}
use mathlib.Core.Bool.{true, not}
use mathlib.Core.List.{List}
use Prim.Native.Nat.{ℕ, ◌+◌, ◌≤◌}
use native.Mathlib.Omega.{arith}
use borrow.Author.Tests.{ltb-false, eqb-true, le-ltb, eq-eqb, not-false}
use lib.ListN.{length}
use Rattle.basics.specs.Logic.{all}
use Rattle.basics.specs.Lists.{total}
use Rattle.basics.specs.Numbers.{accepted}
use Rattle.basics.specs.Refusals.{first_number}
use Rattle.basics.proofs.Cases.{by, if_false, and_left, and_right, and_both}
use Rattle.field.specs.Field.{is_field, field_of, is_element}
use Rattle.seal.specs.Seal.{Context, sound_lengths, are_elements, note_rows}
use Rattle.seal.proofs.Lengths.{Declarable, lengths_sound}

pub record Passed (c : Context) (text : List ℕ) (textMark buffer bufferMark : ℕ) : Type 0 where
  pub known : is_field c.field ≡ true
  pub short : length c.separator ≤ 256
  pub sound : sound_lengths c.lengths ≡ true
  pub lengths : Declarable c.lengths
  pub key_long : length c.key ≡ 8
  pub nonce_long : length c.nonce ≡ 8
  pub text_long : length text ≡ total c.lengths + textMark
  pub buffer_long : buffer ≡ total c.lengths + bufferMark
  pub key : all (is_element (field_of c.field)) c.key ≡ true
  pub nonce : all (is_element (field_of c.field)) c.nonce ≡ true
  pub elements : all (is_element (field_of c.field)) text ≡ true

module _ (c : Context) (text : List ℕ) (textMark buffer bufferMark : ℕ) where
  abbrev Result : ℕ → Type 0
  Result n = n ≡ accepted → Passed c text textMark buffer bufferMark

  pub passed : first_number (note_rows c text textMark buffer bufferMark) ≡ accepted → Passed c text textMark buffer bufferMark
  unfolding first_number note_rows are_elements
  passed =
      by Result _ _ _ (λ _ e. absurd (omega arith)) λ known.
      by Result _ _ _ (λ _ e. absurd (omega arith)) λ short.
      by Result _ _ _ (λ _ e. absurd (omega arith)) λ lengths.
      by Result _ _ _ (λ _ e. absurd (omega arith)) λ key.
      by Result _ _ _ (λ _ e. absurd (omega arith)) λ nonce.
      by Result _ _ _ (λ _ e. absurd (omega arith)) λ long.
      by Result _ _ _ (λ _ e. absurd (omega arith)) λ room.
      by Result _ _ _ (λ _ e. absurd (omega arith)) λ elements _.
      let each = not-false _ elements in
      let others = and_right _ _ each in
      record {
        known = not-false _ known;
        short = ltb-false 256 _ short;
        sound = not-false _ lengths;
        lengths = lengths_sound _ (not-false _ lengths);
        key_long = eqb-true _ _ (not-false _ key);
        nonce_long = eqb-true _ _ (not-false _ nonce);
        text_long = eqb-true _ _ (not-false _ long);
        buffer_long = eqb-true _ _ (not-false _ room);
        key = and_left _ _ each;
        nonce = and_left _ _ others;
        elements = and_right _ _ others;
      }

  -- and the other way round
  pub passes : Passed c text textMark buffer bufferMark → first_number (note_rows c text textMark buffer bufferMark) ≡ accepted
  unfolding first_number note_rows are_elements
  passes p =
      if_false _ _ _ (ap not p.known)
      ∙ if_false _ _ _ (le-ltb 256 _ p.short)
      ∙ if_false _ _ _ (ap not p.sound)
      ∙ if_false _ _ _ (ap not (eq-eqb _ _ p.key_long))
      ∙ if_false _ _ _ (ap not (eq-eqb _ _ p.nonce_long))
      ∙ if_false _ _ _ (ap not (eq-eqb _ _ p.text_long))
      ∙ if_false _ _ _ (ap not (eq-eqb _ _ p.buffer_long))
      ∙ if_false _ _ _ (ap not (and_both _ _ p.key (and_both _ _ p.nonce p.elements)))
