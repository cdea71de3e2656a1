-- What the loop of `tag_reader::elements` keeps.
use mathlib.Core.List.{List}
use Prim.Native.Nat.{ℕ, ◌%◌, ◌^◌}
use Rattle.basics.proofs.Fill.{Filled}
use Rattle.tag.specs.TagString.{word_at}
use Rattle.tag_reader.proofs.elements.Given as goal

-- an element of the tag
abbrev pub element : List ℕ → ℕ → ℕ
element digest k = word_at digest k % 2 ^ 30

abbrev pub invariant-loop-k : goal.invariant-loop-k
invariant-loop-k l = Filled 8 (element l.fn.digest) l.elements l.k
