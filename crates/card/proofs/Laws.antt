-- What the answer to a line is: to a card, to what is no card, to a line that is too long.
-- Assumes nothing.
use mathlib.Core.Path.{◌≡◌, ap}
use mathlib.Core.List.{List}
use Prim.Native.Nat.{ℕ, ◌<◌}
use lib.ListN.{length}
use Rattle.basics.specs.Numbers.{not_card}
use Rattle.card_grammar.specs.Grammar.{card, none}
use Rattle.card_grammar.specs.Card.{card_of}
use Rattle.card_grammar.proofs.Laws.{long_none}
use Rattle.pattern.specs.Opening.{opening}
use Rattle.card.specs.Answer.{no_text, card_answer, reading_answer, answer}

pub answer_card : (line s w : List ℕ) → card_of line ≡ card s w → answer line ≡ card_answer (opening w s)
unfolding answer reading_answer
answer_card line s w e = ap reading_answer e

pub answer_none : (line : List ℕ) → card_of line ≡ none → answer line ≡ no_text not_card
unfolding answer reading_answer
answer_none line e = ap reading_answer e

pub answer_long : (line : List ℕ) → 2048 < length line → answer line ≡ no_text not_card
answer_long line h = answer_none line (long_none line h)
