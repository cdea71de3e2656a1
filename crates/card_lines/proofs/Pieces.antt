-- A piece up to its first newline.
-- Assumes nothing.
use mathlib.Core.Path.{◌≡◌, refl, ap, ◌∙◌}
use mathlib.Core.Bool.{true, false}
use mathlib.Core.List.{List, [], ◌∷◌, ◌++◌}
use Prim.Native.Nat.{ℕ, suc, ◌+◌, ◌≤◌, ◌<◌}
use native.Mathlib.Numerals.{add-one}
use native.Mathlib.Omega.{arith}
use borrow.Author.Tests.{ltb-true, ltb-false, eqb-true}
use lib.Dec.{eqb}
use lib.ListN.{length, take}
use lib.Seq.{take_all}
use Rattle.basics.proofs.Cases.{by, cases, if_true, if_false}
use Rattle.card_lines.specs.Stream.{first_line, ends_line}
use Rattle.card_lines.proofs.OutputLines.{NoNewline}

pub first_no_newline : (piece : List ℕ) → NoNewline (first_line piece)
unfolding first_line NoNewline
first_no_newline [] = tt
first_no_newline (b ∷ bs) = by NoNewline (eqb b 10) _ _ (λ e. tt) λ e. (e, first_no_newline bs)

pub first_short : (piece : List ℕ) → length (first_line piece) ≤ length piece
unfolding first_line
first_short [] = omega arith
first_short (b ∷ bs) = by (λ (l : List ℕ). length l ≤ suc (length bs)) (eqb b 10) _ _ (λ e. omega arith) λ e. omega (arith, first_short bs)

-- the line is the piece's first bytes
pub first_part : (piece : List ℕ) → take (length (first_line piece)) piece ≡ first_line piece
unfolding first_line
first_part [] = refl
first_part (b ∷ bs) =
    by (λ (l : List ℕ). take (length l) (b ∷ bs) ≡ l) (eqb b 10) _ _ (λ e. refl) λ e. ap (λ (l : List ℕ). b ∷ l) (first_part bs)

-- with a newline: the line, and the newline
ended : (piece : List ℕ) → length (first_line piece) < length piece → take (suc (length (first_line piece))) piece ≡ first_line piece ++ (10 ∷ [])
unfolding first_line
ended [] h = absurd (omega arith)
ended (b ∷ bs) h =
    cases (eqb b 10)
    (λ e. let none = if_true (eqb b 10) [] (b ∷ first_line bs) e in
    rw none (ap (λ (x : ℕ). x ∷ []) (eqb-true b 10 e)))
    λ e. let some = if_false (eqb b 10) [] (b ∷ first_line bs) e in
    let long = ap length some in
    rw some (ap (λ (l : List ℕ). b ∷ l) (ended bs (omega arith)))

pub taken_newline : (piece : List ℕ) → ends_line piece ≡ true → take (length (first_line piece) + 1) piece ≡ first_line piece ++ (10 ∷ [])
unfolding ends_line
taken_newline piece e = ap (λ (k : ℕ). take k piece) (add-one (length (first_line piece))) ∙ ended piece (ltb-true _ _ e)

-- without: all of it
open_line : (piece : List ℕ) → length piece ≤ length (first_line piece) → first_line piece ≡ piece
unfolding first_line
open_line [] h = refl
open_line (b ∷ bs) h =
    cases (eqb b 10)
    (λ e. let long = ap length (if_true (eqb b 10) [] (b ∷ first_line bs) e) in absurd (omega arith))
    λ e. let some = if_false (eqb b 10) [] (b ∷ first_line bs) e in
    let long = ap length some in
    some ∙ ap (λ (l : List ℕ). b ∷ l) (open_line bs (omega arith))

pub all_first : (piece : List ℕ) → ends_line piece ≡ false → first_line piece ≡ piece
unfolding ends_line
all_first piece e = open_line piece (ltb-false _ _ e)

pub taken_all : (piece : List ℕ) → ends_line piece ≡ false → take (length (first_line piece) + 1) piece ≡ piece
taken_all piece e = let long = ap length (all_first piece e) in take_all (length (first_line piece) + 1) piece (omega arith)
