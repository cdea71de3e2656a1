-- Which number an answer gives.
-- Assumes nothing.
use mathlib.Core.Path.{◌≡◌, sym, ap, ◌∙◌}
use mathlib.Core.List.{List, [], ◌∷◌, append_cancel_right}
use mathlib.Core.Logic.{◌≢◌}
use Prim.Native.Nat.{ℕ, ◌+◌, ◌/◌, ◌%◌, ◌≤◌, ◌<◌}
use native.Mathlib.Omega.{arith}
use borrow.Author.Tests.{ltb-true, ltb-false, eqb-true, eqb-false}
use lib.Dec.{ltb, eqb}
use lib.ListN.{length, get_or, drop, length-append}
use Rattle.basics.specs.Numbers.{accepted}
use Rattle.basics.proofs.Cases.{cases}
use Rattle.pattern.specs.Opening.{Opening, opening, opening_number}
use Rattle.card_grammar.specs.Text.{ascii, decimal}
use Rattle.card_grammar.specs.Grammar.{Reading, card, none}
use Rattle.card_grammar.specs.Card.{card_of}
use Rattle.card_grammar.proofs.Digits.{decimal_small, decimal_more}
use Rattle.card.specs.Answer.{ok_text, no_text, card_answer, reading_answer, answer}
use Rattle.card.proofs.CardAnswer.{accepted_answer, refused_answer}

decimal_some : (n : ℕ) → 1 ≤ length (decimal n)
decimal_some n =
    cases (ltb n 10)
    (λ e. rw (decimal_small n (ltb-true n 10 e)) (omega arith))
    λ e. rw (decimal_more n (ltb-false n 10 e)) (omega (arith, length-append (decimal (n / 10)) ((n % 10 + 48) ∷ [])))

-- a number of one digit
one_digit : (n k : ℕ) → k < 10 → decimal n ≡ decimal k → n ≡ k
one_digit n k h e =
    let one = decimal_small k h in
    cases (ltb n 10)
    (λ l. omega (arith, ap (λ (s : List ℕ). get_or s 0 0) (sym (decimal_small n (ltb-true n 10 l)) ∙ e ∙ one)))
    λ l.
    let more = decimal_more n (ltb-false n 10 l) in
    absurd
    (omega
    (arith, ap length (sym more ∙ e ∙ one), length-append (decimal (n / 10)) ((n % 10 + 48) ∷ []), decimal_some (n / 10)))

no_text_law : (n k : ℕ) → k < 10 → no_text n ≡ no_text k → n ≡ k
unfolding no_text
no_text_law n k h e = one_digit n k h (append_cancel_right (decimal n) (decimal k) (ascii ")") (ap (drop 4) e))

ok_text_law : (string : List ℕ) (count k : ℕ) → ok_text string count ≢ no_text k
unfolding ok_text no_text
ok_text_law string count k e = let z : ◌≡◌ {A = ℕ} 111 110 = ap (λ (s : List ℕ). get_or s 1 0) e in omega arith

-- a number of one digit that no opening gets is given to no line
module _ (k : ℕ) (h : k < 10) (never : (o : Opening) → opening_number o ≢ k) where
  card_gives : (o : Opening) → card_answer o ≢ no_text k
  card_gives o e =
      cases (eqb (opening_number o) accepted)
      (λ a. ok_text_law _ _ k (sym (accepted_answer o (eqb-true _ _ a)) ∙ e))
      λ r. never o (no_text_law _ k h (sym (refused_answer o (eqb-false _ _ r)) ∙ e))

  reading_gives : (reading : Reading) → reading_answer reading ≢ no_text k
  unfolding reading_answer
  reading_gives (card separator ws) e = card_gives (opening ws separator) e
  reading_gives none e = let z = no_text_law 14 k h e in omega arith

  pub line_gives : (line : List ℕ) → answer line ≢ no_text k
  unfolding answer
  line_gives line = reading_gives (card_of line)
