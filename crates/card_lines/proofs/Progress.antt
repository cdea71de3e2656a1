-- A call of `feed` takes no more than its piece, and at least a byte where there is one; what is written is no longer than the longest answer.
-- Assumes nothing.
use mathlib.Core.Path.{◌≡◌, ap}
use mathlib.Core.List.{List, []}
use Prim.Native.Nat.{ℕ, ◌+◌, ◌≤◌, ◌<◌}
use native.Mathlib.Omega.{arith}
use borrow.Author.Tests.{eqb-true, eq-eqb}
use lib.Dec.{eqb}
use lib.ListN.{length, take, length-take}
use Rattle.basics.proofs.Cases.{by, cases, if_true, if_false}
use Rattle.card.specs.Answer.{answer, with_newline, longest_answer}
use Rattle.card.proofs.Bounds.{length_with_newline, answer_short}
use Rattle.card.proofs.Front.{take_front}
use Rattle.card_lines.specs.Stream.{first_line, ends_line, extended_length, extended, held_answer, writes, takes, last_answer}

pub takes_within : (piece : List ℕ) → length (takes piece) ≤ length piece
unfolding takes
takes_within piece = omega (arith, length-take (length (first_line piece) + 1) piece)

pub takes_some : (piece : List ℕ) → 0 < length piece → 0 < length (takes piece)
unfolding takes
takes_some piece h = omega (arith, length-take (length (first_line piece) + 1) piece)

-- what is taken is the piece's front
pub takes_first : (piece : List ℕ) → takes piece ≡ take (length (takes piece)) piece
unfolding takes
takes_first piece = take_front (length (first_line piece) + 1) piece

answer_within : (line : List ℕ) (n : ℕ) → length (held_answer line n) ≤ longest_answer
unfolding held_answer
answer_within line n = answer_short (take n line)

pub writes_within : (line : List ℕ) (n : ℕ) (piece : List ℕ) → length (writes line n piece) ≤ longest_answer
unfolding writes
writes_within line n piece =
    by (λ (l : List ℕ). length l ≤ longest_answer) (ends_line piece) _ _
    (λ e. answer_within (extended line n (first_line piece)) (extended_length n (first_line piece)))
    λ e. omega arith

pub last_within : (line : List ℕ) (n : ℕ) → length (last_answer line n) ≤ longest_answer
unfolding last_answer
last_within line n = by (λ (l : List ℕ). length l ≤ longest_answer) _ _ _ (λ e. omega arith) λ e. answer_within line n

-- nothing is written at the end exactly if no line is in progress
pub last_none : (line : List ℕ) (n : ℕ) → n ≡ 0 → length (last_answer line n) ≡ 0
unfolding last_answer
last_none line n e = ap length (if_true _ _ _ (eq-eqb n 0 e))

pub last_some : (line : List ℕ) (n : ℕ) → length (last_answer line n) ≡ 0 → n ≡ 0
unfolding last_answer held_answer
last_some line n e =
    cases (eqb n 0) (eqb-true n 0)
    λ f.
    let some = ap length (if_false (eqb n 0) [] (with_newline (answer (take n line))) f) in
    absurd (omega (arith, length_with_newline (answer (take n line))))
