-- What a call of `feed` leaves, writes and takes, by its kind: the piece has no newline, or it has one.
-- Assumes nothing.
use mathlib.Core.Path.{◌≡◌, sym, ap, ◌∙◌}
use mathlib.Core.Bool.{true, false}
use mathlib.Core.List.{List, [], ◌∷◌, ◌++◌}
use Prim.Native.Nat.{ℕ, ◌+◌}
use lib.ListN.{length, length-append}
use Rattle.basics.proofs.Cases.{if_true, if_false}
use Rattle.card_lines.specs.Stream.{first_line, ends_line, extended_length, extended, held_answer, writes, takes, held_after, fed}
use Rattle.card_lines.proofs.Pieces.{taken_newline, taken_all}

module _ (line : List ℕ) (n : ℕ) (piece : List ℕ) where
  module _ (e : ends_line piece ≡ false) where
    pub open_held : held_after n piece ≡ extended_length n (first_line piece)
    unfolding held_after
    open_held = if_false _ _ _ e

    pub open_writes : writes line n piece ≡ []
    unfolding writes
    open_writes = if_false _ _ _ e

    pub open_takes : takes piece ≡ piece
    unfolding takes
    open_takes = taken_all piece e

    pub open_fed : record { held = extended_length n (first_line piece); used = length piece; written = 0 } ≡ fed line n piece
    unfolding fed
    open_fed = λ i. record { held = sym open_held i; used = length (sym open_takes i); written = length (sym open_writes i) }

  module _ (e : ends_line piece ≡ true) where
    pub newline_held : held_after n piece ≡ 0
    unfolding held_after
    newline_held = if_true _ _ _ e

    abbrev pub line_answer : List ℕ
    line_answer = held_answer (extended line n (first_line piece)) (extended_length n (first_line piece))

    pub newline_writes : writes line n piece ≡ line_answer
    unfolding writes
    newline_writes = if_true _ _ _ e

    pub newline_takes : takes piece ≡ first_line piece ++ (10 ∷ [])
    unfolding takes
    newline_takes = taken_newline piece e

    used_newline : length (first_line piece) + 1 ≡ length (takes piece)
    used_newline = sym (ap length newline_takes ∙ length-append (first_line piece) (10 ∷ []))

    pub newline_fed : record { held = 0; used = length (first_line piece) + 1; written = length line_answer } ≡ fed line n piece
    unfolding fed
    newline_fed = λ i. record { held = sym newline_held i; used = used_newline i; written = length (sym newline_writes i) }
