-- `Turn` holds before each turn of the loop of `answer_lines`. The measure is how many bytes are left.
use Prim.Native.Nat.{◌-◌}
use lib.ListN.{length}
use Rattle.card_lines.proofs.Turns.{Turn}
use Rattle.card_lines.proofs.answer_lines.Given as goal

abbrev pub invariant-loop-used : goal.invariant-loop-used
invariant-loop-used l =
    Turn
    (record { line = l.initial.line; held = l.initial.held })
    l.initial.used
    l.piece
    l.initial.output
    (record { line = l.line; held = l.held })
    l.used
    l.written
    l.output

abbrev pub decreases-loop-used : goal.decreases-loop-used
decreases-loop-used l = length l.piece - l.used
