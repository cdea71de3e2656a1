-- The words that declare a pattern (SAFE's IO pattern). From document 01, "Tags". A word is a number of 32 bits.
use Rattle.std.specs.Prelude.{Bool, ℕ, ◌+◌, ◌%◌, leb}
use Rattle.basics.specs.Logic.{when◌then◌else◌}

-- the top bit of 32: "A word has its top bit set for ABSORB and clear for SQUEEZE"
abbrev pub absorb_bit : ℕ
absorb_bit = 2147483648

-- the longest call: what 31 bits hold
abbrev pub max_length : ℕ
max_length = 2147483647

-- a word is ABSORB if it is 2^31 or more
unfoldable pub is_absorb : ℕ → Bool
is_absorb w = leb absorb_bit w

-- "its low 31 bits are the length."
unfoldable pub length_of : ℕ → ℕ
length_of w = w % absorb_bit

-- One call of a pattern: its kind, and how many elements. In a merged pattern it is what SAFE calls an absorb phase or a squeeze phase.
pub record Phase : Type 0 where
  pub absorbs : Bool
  pub elements : ℕ

-- the call that a word declares
unfoldable pub phase_of : ℕ → Phase
phase_of w = record { absorbs = is_absorb w; elements = length_of w }

-- the word that declares a call
unfoldable pub word_of : Phase → ℕ
word_of a = when a.absorbs then absorb_bit + a.elements else a.elements
