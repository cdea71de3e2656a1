-- Every line is a card or none.
-- Assumes nothing.
use mathlib.Core.Path.{◌≡◌, refl}
use mathlib.Core.List.{List}
use mathlib.Core.Logic.{◌⊎◌, inl, inr}
use Prim.Native.Nat.{ℕ}
use Rattle.card_grammar.specs.Grammar.{CardOf, Reading, card, none, NoCard}
use Rattle.card_grammar.specs.Card.{card_of}
use Rattle.card_grammar.proofs.Laws.{of_card, of_none}

-- a line is a card, with its separator and its words
pub record IsCard (line : List ℕ) : Type 0 where
  pub separator : List ℕ
  pub words : List ℕ
  pub is : CardOf line separator words

decided_by : (line : List ℕ) (r : Reading) → card_of line ≡ r → IsCard line ⊎ NoCard line
decided_by line (card s w) e = inl (record { separator = s; words = w; is = of_card line s w e })
decided_by line none e = inr (of_none line e)

-- Every line is a card, with its separator and words, or is none: what it is read as decides.
pub decided : (line : List ℕ) → IsCard line ⊎ NoCard line
decided line = decided_by line (card_of line) refl
