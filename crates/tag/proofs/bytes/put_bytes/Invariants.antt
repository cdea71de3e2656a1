-- What the loop of `tag::bytes::put_bytes` keeps.
use mathlib.Core.Path.{◌≡◌}
use lib.ListN.{take}
use Rattle.basics.specs.Lists.{placed}
use Rattle.tag.proofs.bytes.put_bytes.Given as goal

abbrev pub invariant-loop-i : goal.invariant-loop-i
invariant-loop-i l = l.buffer ≡ placed l.initial.buffer l.at (take l.i l.bytes)
