-- `card::text::put_decimal` meets its contract. It calls itself with a smaller number.
-- Assumes nothing.
use mathlib.Core.Path.{ap₂, ◌∙◌}
use mathlib.Core.List.{List}
use Prim.Native.Nat.{ℕ, ◌+◌, ◌%◌}
use native.Mathlib.Omega.{arith}
use lib.ListN.{set}
use Rattle.card.proofs.Bounds.{length_decimal_small, length_decimal_more}
use Rattle.card.proofs.Digits.{first_digit, last_digit}
use Rattle.card.proofs.text.+put_decimal.Goals as goal

pub bounds-buffer-at : goal.bounds-buffer-at
bounds-buffer-at t c = let one = length_decimal_small c.args.number c.if-number-lt10.true in omega arith

pub returns-then-number-lt10 : goal.returns-then-number-lt10
returns-then-number-lt10 t c =
    let small = c.if-number-lt10.true in
    let one = length_decimal_small c.args.number small in
    (omega arith, first_digit c.args.buffer.now c.args.at c.args.number small (omega arith))

pub put_decimal-last-requires : goal.put_decimal-last-requires
put_decimal-last-requires t c =
    let one_more = length_decimal_more c.args.number c.if-number-lt10.false in
    (omega arith, omega arith)

pub bounds-buffer-last : goal.bounds-buffer-last
bounds-buffer-last t c = let one_more = length_decimal_more c.args.number c.if-number-lt10.false in omega arith

pub overflow_add-result-2 : goal.overflow_add-result-2
overflow_add-result-2 t c = let one_more = length_decimal_more c.args.number c.if-number-lt10.false in omega arith

pub returns : goal.returns
returns t c =
    let large = c.if-number-lt10.false in
    let one_more = length_decimal_more c.args.number large in
    let front = c.put_decimal-last.ensures in (
      omega arith,
      ap₂ (λ (l : List ℕ) (k : ℕ). set l k (c.args.number % 10 + 48)) front.1 front.0
          ∙ last_digit c.args.buffer.now c.args.at c.args.number large c.requires,
    )
