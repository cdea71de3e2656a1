-- What reading a line gives.
use Rattle.std.specs.Prelude.{Bool, true, false, List, ℕ, length, take, replicate}
use Rattle.basics.specs.Lists.{zero_padded}
use Rattle.card_grammar.specs.Grammar.{Reading, card, none}

-- what reading a line gives: whether it is a card, and its separator and words in arrays with how many they are
pub record CardRead : Type 0 where
  pub is_card : Bool
  pub separator : List ℕ
  pub separator_length : ℕ
  pub words : List ℕ
  pub word_count : ℕ

-- a reading as that record: of each list as many as its array has places, and zeros behind them
unfoldable pub reading : Reading → CardRead
reading (card separator ws) =
    record {
      is_card = true;
      separator = zero_padded 257 (take 257 separator);
      separator_length = length (take 257 separator);
      words = zero_padded 65 (take 65 ws);
      word_count = length (take 65 ws);
    }
reading none =
    record {
      is_card = false;
      separator = replicate 257 0;
      separator_length = 0;
      words = replicate 65 0;
      word_count = 0;
    }
