-- From the record c that reading a line gives to the line's answer.
-- Assumes nothing.
use mathlib.Core.Path.{◌≡◌, refl, sym, ap, ap₂, subst, ◌∙◌}
use mathlib.Core.Bool.{true, false, true≢false}
use mathlib.Core.List.{List}
use Prim.Native.Nat.{ℕ, ◌-◌, ◌≤◌}
use native.Mathlib.Omega.{arith}
use lib.ListN.{length, take, replicate, length-append}
use lib.Seq.{take-append_seam}
use Rattle.basics.specs.Lists.{zero_padded}
use Rattle.basics.specs.Numbers.{not_card}
use Rattle.card_grammar.specs.Grammar.{Reading, card, none}
use Rattle.card_grammar.specs.Card.{card_of}
use Rattle.card_reader.specs.Reading.{reading}
use Rattle.card_reader.specs.Reading.{CardRead}
use Rattle.pattern.specs.Opening.{opening}
use Rattle.card.specs.Answer.{no_text, card_answer, answer}
use Rattle.card.proofs.Cut.{cut_answer_law}
use Rattle.card.proofs.Laws.{answer_card, answer_none}

-- a record holds a card, each list cut to its places
pub record Holds (r : Reading) (c : CardRead) : Type 0 where
  pub separator : List ℕ
  pub words : List ℕ
  pub is : r ≡ card separator words
  pub separator_inside : c.separator_length ≤ length c.separator
  pub words_inside : c.word_count ≤ length c.words
  pub separator_used : take c.separator_length c.separator ≡ take 257 separator
  pub words_used : take c.word_count c.words ≡ take 65 words

padded_inside : (n : ℕ) (xs : List ℕ) → length xs ≤ length (zero_padded n xs)
padded_inside n xs = omega (arith, length-append xs (replicate (n - length xs) 0))

padded_used : (n : ℕ) (xs : List ℕ) → take (length xs) (zero_padded n xs) ≡ xs
padded_used n xs = take-append_seam xs (replicate (n - length xs) 0)

reading_holds : (r : Reading) → (reading r).is_card ≡ true → Holds r (reading r)
unfolding reading
reading_holds (card s ws) t =
    record {
      separator = s;
      words = ws;
      is = refl;
      separator_inside = padded_inside 257 (take 257 s);
      words_inside = padded_inside 65 (take 65 ws);
      separator_used = padded_used 257 (take 257 s);
      words_used = padded_used 65 (take 65 ws);
    }
reading_holds none t = absurd (true≢false (sym t))

reading_none : (r : Reading) → (reading r).is_card ≡ false → r ≡ none
unfolding reading
reading_none (card s ws) t = absurd (true≢false t)
reading_none none t = refl

module _ (line : List ℕ) (c : CardRead) (e : c ≡ reading (card_of line)) where
  pub holds : c.is_card ≡ true → Holds (card_of line) c
  holds t = subst (Holds (card_of line)) (sym e) (reading_holds (card_of line) (sym (ap (λ (d : CardRead). d.is_card) e) ∙ t))

  pub answers_none : c.is_card ≡ false → answer line ≡ no_text not_card
  answers_none t = answer_none line (reading_none (card_of line) (sym (ap (λ (d : CardRead). d.is_card) e) ∙ t))

  pub answers_card : c.is_card ≡ true → answer line ≡ card_answer (opening (take c.word_count c.words) (take c.separator_length c.separator))
  answers_card t =
      let h = holds t in
      answer_card line h.separator h.words h.is
      ∙ sym (cut_answer_law h.words h.separator)
      ∙ sym (ap₂ (λ (ws s : List ℕ). card_answer (opening ws s)) h.words_used h.separator_used)
