-- What `read_short`'s loop keeps, and its measure: how many bytes are left.
use Prim.Native.Nat.{◌-◌}
use lib.ListN.{length}
use Rattle.card_reader.proofs.ReadLoop.{Held}
use Rattle.card_reader.proofs.read_short.Given as goal

abbrev pub invariant-loop-byte : goal.invariant-loop-byte
invariant-loop-byte l =
    Held l.line l.separator.items l.separator.count l.words.items l.words.count l.mode l.byte-index

abbrev pub decreases-loop-byte : goal.decreases-loop-byte
decreases-loop-byte l = length l.line - l.byte-index
