-- Which lines are cards. From document 01, "Cards".
use Rattle.std.specs.Prelude.{◌≡◌, List, ℕ, ◌≤◌, length}
use Rattle.basics.specs.Lists.{Below}
use Rattle.card_grammar.specs.Text.{card_text}

-- A line, "at most 2,048 bytes before the newline", is the card of a separator, which is bytes, and of words, which are numbers of 32
-- bits, if it is their text, byte for byte. A word's length is thereby "at most 2147483647".
pub record CardOf (line separator ws : List ℕ) : Type 0 where
  pub short : length line ≤ 2048
  pub bytes : Below 256 separator
  pub words : Below 4294967296 ws
  pub text : line ≡ card_text separator ws

-- a card's separator and words, or none if a line is no card
pub data Reading : Type 0 where
  card : List ℕ → List ℕ → Reading
  none : Reading

-- a line is no card, whatever separator and words are tried
pub record NoCard (line : List ℕ) : Type 0 where
  pub never : (separator ws : List ℕ) → CardOf line separator ws → ⊥
