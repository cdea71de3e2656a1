-- What the loop of `tag_reader::bytes::words_of` keeps.
use mathlib.Core.Path.{◌≡◌}
use mathlib.Core.List.{List}
use Prim.Native.Nat.{ℕ}
use Rattle.basics.specs.Lists.{tabulate, zero_padded}
use Rattle.tag.specs.TagString.{word_at}
use Rattle.tag_reader.proofs.bytes.words_of.Given as goal

-- the first k words
abbrev pub front : List ℕ → ℕ → List ℕ
front string k = tabulate k (word_at string)

abbrev pub invariant-loop-k : goal.invariant-loop-k
invariant-loop-k l = l.words ≡ zero_padded 64 (front l.string l.k)
