-- `card_lines::line_end` meets its contract.
-- Assumes nothing.
use mathlib.Core.Path.{◌≡◌, sym, ap, ◌∙◌}
use mathlib.Core.List.{List}
use mathlib.Core.Logic.{◌≢◌}
use Prim.Native.Nat.{ℕ, suc, ◌+◌, ◌≤◌, ◌<◌}
use native.Mathlib.Nat.{zero-add}
use native.Mathlib.Numerals.{add-one}
use native.Mathlib.Omega.{arith}
use borrow.Author.Tests.{eq-eqb, ne_eqb}
use lib.ListN.{length, get_or, drop, drop_of_length-le}
use lib.Seq.{drop-cons}
use Rattle.basics.proofs.Cases.{if_true, if_false}
use Rattle.card_lines.specs.Stream.{first_line}
use borrow.Author.Rules.{rules}
use Rattle.card_lines.proofs.line_end.Goals as goal

-- what is left to pass over from a place on: nothing at a newline, one byte more at another byte, nothing at the end
at-newline : (piece : List ℕ) (i : ℕ) → i < length piece → get_or piece i 0 ≡ 10 → length (first_line (drop i piece)) ≡ 0
unfolding first_line
at-newline piece i h e =
    ap (λ (l : List ℕ). length (first_line l)) (drop-cons piece i 0 h) ∙ ap length (if_true _ _ _ (eq-eqb (get_or piece i 0) 10 e))

at_byte : (piece : List ℕ) (i : ℕ) → i < length piece → get_or piece i 0 ≢ 10
    → length (first_line (drop i piece)) ≡ suc (length (first_line (drop (i + 1) piece)))
unfolding first_line
at_byte piece i h e =
    ap (λ (l : List ℕ). length (first_line l)) (drop-cons piece i 0 h)
    ∙ ap length (if_false _ _ _ (ne_eqb (get_or piece i 0) 10 e))
    ∙ ap (λ (k : ℕ). suc (length (first_line (drop k piece)))) (sym (add-one i))

at_last : (piece : List ℕ) (i : ℕ) → length piece ≤ i → length (first_line (drop i piece)) ≡ 0
unfolding first_line
at_last piece i h = ap (λ (l : List ℕ). length (first_line l)) (drop_of_length-le piece h)

pub loop-i-init : goal.loop-i-init
loop-i-init c = (search rules, zero-add _)

pub returns-then-byte-eq10 : goal.returns-then-byte-eq10
returns-then-byte-eq10 c =
    let at-loop = c.loop-i in
    let piece = c.args.piece.now in
    let none = at-newline piece at-loop.i (search rules) (search rules) in
    (omega (arith, at-loop.invariant.1), search rules)

pub loop-i-preserved : goal.loop-i-preserved
loop-i-preserved c =
    let at-loop = c.loop-i in
    let piece = c.args.piece.now in
    let one = at_byte piece at-loop.i (search rules) (search rules) in
    (search rules, omega (arith, at-loop.invariant.1))

pub returns : goal.returns
returns c =
    let at-loop = c.loop-i in
    let piece = c.args.piece.now in
    let none = at_last piece at-loop.i (search rules) in
    (omega (arith, at-loop.invariant.1, at-loop.invariant.0), search rules)
