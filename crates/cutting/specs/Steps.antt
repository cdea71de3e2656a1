-- Definitions that no public contract cites: what private functions of the crate take and give.
use Rattle.std.specs.Prelude.{◌≡◌, List, map, ℕ, length}
use Rattle.basics.specs.Lists.{zero_padded}
use Rattle.words.specs.Words.{phase_of, word_of}
use Rattle.pattern.specs.Pattern.{max_words}
use Rattle.pattern.specs.declared.list.Words.{Words}
use Rattle.cutting.specs.Cutting.{cut_call}

-- the calls of one word
abbrev pub calls_of : ℕ → ℕ → List ℕ
calls_of limit w = map word_of (cut_call limit (phase_of w))

-- a list that has these calls, and zeros behind them
pub record HasCalls (list : Words) (calls : List ℕ) : Type 0 where
  pub places : list.words ≡ zero_padded max_words calls
  pub counted : list.count ≡ length calls
