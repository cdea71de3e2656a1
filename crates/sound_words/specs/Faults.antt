-- Definitions that no public contract cites: what private functions of the crate give.
use Rattle.std.specs.Prelude.{Bool, ℕ, eqb}
use Rattle.basics.specs.Logic.{when◌then◌else◌, same}
use Rattle.words.specs.Words.{is_absorb, length_of}

-- a word behind one of a kind: 1 if it is of that kind or its length is 0, else 0
unfoldable pub fault_of : Bool → ℕ → ℕ
fault_of last w = when same last (is_absorb w) then 1 else when eqb (length_of w) 0 then 1 else 0
