-- What is left of the calls on the piece leads to the same as all of them. The measure is how many bytes are left.
use Prim.Native.Nat.{◌-◌}
use lib.ListN.{length}
use Rattle.card_lines.specs.Calls.{kept_of, piece_kept}
use Rattle.card_lines.proofs.Callers.{Reaches}
use Rattle.cards.proofs.answer_piece.Given as goal

abbrev pub invariant-loop-fed : goal.invariant-loop-fed
invariant-loop-fed l =
    Reaches (piece_kept (length l.piece) (kept_of l.initial.line l.initial.fed) l.piece) (kept_of l.line l.fed) l.piece

abbrev pub decreases-loop-fed : goal.decreases-loop-fed
decreases-loop-fed l = length l.piece - l.fed.used
