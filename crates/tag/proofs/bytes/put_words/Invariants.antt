-- What the loop of `tag::bytes::put_words` keeps.
use lib.ListN.{take}
use Rattle.basics.proofs.Placed.{Begins}
use Rattle.tag.specs.TagString.{word_bytes}
use Rattle.tag.proofs.bytes.put_words.Given as goal

abbrev pub invariant-loop-i : goal.invariant-loop-i
invariant-loop-i l = Begins l.initial.buffer (word_bytes (take l.i l.words)) l.buffer
