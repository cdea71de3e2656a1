-- What reading a line answers with, as one record.
use Rattle.std.specs.Prelude.{Option, Some, None, true}
use Rattle.card_grammar.specs.Grammar.{none}
use Rattle.card_reader.specs.Reading.{CardRead, reading}
use Rattle.card_reader.specs.declared.Card.{Card}

-- the card that is given, or none
unfoldable pub card_given : Option Card → CardRead
card_given (Some card) =
    record {
      is_card = true;
      separator = card.separator.items;
      separator_length = card.separator.count;
      words = card.words.items;
      word_count = card.words.count;
    }
card_given None = reading none
