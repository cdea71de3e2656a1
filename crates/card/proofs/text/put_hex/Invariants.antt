-- The loop of `put_hex` has put the digits of the first bytes into their place.
use mathlib.Core.Path.{◌≡◌}
use Prim.Native.Nat.{◌≤◌}
use lib.ListN.{length, take}
use Rattle.card_grammar.specs.Text.{hex}
use Rattle.basics.specs.Lists.{placed}
use Rattle.card.proofs.text.put_hex.Given as goal

abbrev pub invariant-loop-i : goal.invariant-loop-i
invariant-loop-i l = (l.i ≤ length l.bytes) × (l.buffer ≡ placed l.initial.buffer l.at (hex (take l.i l.bytes)))
