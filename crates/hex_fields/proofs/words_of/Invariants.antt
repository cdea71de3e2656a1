-- What the loop of `hex_fields::words_of` keeps true.
use Rattle.basics.proofs.Fill.{Filled}
use Rattle.hex_fields.specs.Fields.{field_word}
use Rattle.hex_fields.proofs.words_of.Given as goal

abbrev pub invariant-loop-k : goal.invariant-loop-k
invariant-loop-k l = Filled 512 (field_word l.bytes) l.words l.k
