-- What reading gives, with the separator's place beside the words.
use Rattle.std.specs.Prelude.{List, ℕ, length}
use Rattle.tag.specs.TagString.{read_words, read_separator, separator_start}

-- what reading gives: a number, words with how many they are, and of the separator where it begins in the string and its length
pub record PartsRead : Type 0 where
  pub number : ℕ
  pub words : List ℕ
  pub count : ℕ
  pub start : ℕ
  pub length : ℕ

-- the words that reading gives, and of "that part of the string itself" its first place and its length
unfoldable pub parts_read : ℕ → List ℕ → ℕ → PartsRead
parts_read form s n =
    record {
      number = (read_words form s n).number;
      words = (read_words form s n).words;
      count = (read_words form s n).count;
      start = separator_start form s n;
      length = length (read_separator form s n);
    }
