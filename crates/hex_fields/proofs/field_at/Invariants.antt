-- What the loop of `hex_fields::field_at` keeps true.
use mathlib.Core.Path.{◌≡◌}
use Prim.Native.Nat.{◌+◌, ◌*◌}
use Rattle.hex_fields.proofs.Reading.{Read}
use Rattle.hex_fields.proofs.field_at.Given as goal

abbrev pub invariant-loop-pair : goal.invariant-loop-pair
invariant-loop-pair l = (l.count ≡ l.pair-index) × Read 2048 l.text l.at l.bytes l.count (l.at + 2 * l.count)
