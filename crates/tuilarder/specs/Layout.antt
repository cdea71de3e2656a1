-- The number by which a caller knows the library that it is linked with. No paper fixes it.
use Rattle.std.specs.Prelude.{ℕ, ◌+◌, ◌*◌, ◌^◌}
use Rattle.basics.specs.Figures.{width}
use Rattle.pattern.specs.Pattern.{max_words}

-- the version of the exported functions: it rises whenever one of them, or the record, changes for a caller
abbrev pub version : ℕ
version = 3

-- the bytes of a record: four for the status, for the field number and the form number, for each element and word, for the word count, the phase
-- number, the elements done and the two positions; eight for the permutations, which so begin at a multiple of eight
abbrev pub record_bytes : ℕ
record_bytes = 4 * (3 + width + max_words + 5) + 8

-- the version from bit 32 on, and below it the bytes of a record
abbrev pub layout : ℕ
layout = version * 2 ^ 32 + record_bytes
