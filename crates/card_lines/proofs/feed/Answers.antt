-- `card_lines::feed` meets its contract.
-- Assumes nothing.
use mathlib.Core.Path.{◌≡◌, sym, ap, ap₂, ◌∙◌}
use Prim.Native.Nat.{ℕ, ◌+◌, ◌<◌}
use native.Mathlib.Omega.{arith}
use borrow.Author.Tests.{lt-ltb, le-ltb}
use lib.ListN.{length, take}
use lib.Seq.{length-take-le}
use Rattle.basics.specs.Lists.{placed}
use Rattle.basics.proofs.Placed.{placed_none}
use Rattle.card_lines.specs.Stream.{first_line, ends_line, extended_length, extended, held_answer, line_after}
use Rattle.card_lines.proofs.Pieces.{first_part}
use Rattle.card_lines.proofs.FeedCases.{open_writes, open_fed, newline_writes, newline_fed}
use borrow.Author.Rules.{rules}
use Rattle.card_lines.proofs.feed.Goals as goal

pub slice_bounds-extend-end : goal.slice_bounds-extend-end
slice_bounds-extend-end c = sym (length-take-le _ _ c.line_end-end.ensures.1)

pub returns-then-end-piece : goal.returns-then-end-piece
unfolding ends_line line_after
returns-then-end-piece c =
    let args = c.args in
    let line = args.line.now in
    let piece = args.piece.now in
    let answer = args.answer.now in
    let end = c.line_end-end.ensures.0 in
    let part = ap (λ (k : ℕ). take k piece) end ∙ first_part piece in
    let all : length (first_line piece) ≡ length piece = sym end ∙ search rules in
    let whole = le-ltb (length (first_line piece)) (length piece) (omega arith) in
    let extends = c.extend-total.ensures in (
      (λ i. record { held = (extends.0 ∙ ap (extended_length args.held) part) i; used = (end ∙ all) i; written = 0 })
          ∙ open_fed line args.held piece whole,
      extends.1 ∙ ap (extended line args.held) part,
      sym (placed_none answer 0) ∙ ap (placed answer 0) (sym (open_writes line args.held piece whole)),
    )

pub returns : goal.returns
unfolding ends_line line_after
returns c =
    let args = c.args in
    let line = args.line.now in
    let piece = args.piece.now in
    let held = args.held in
    let end = c.line_end-end.ensures in
    let part = ap (λ (k : ℕ). take k piece) end.0 ∙ first_part piece in
    let more : length (first_line piece) < length piece = omega (arith, end.0, end.1) in
    let newline = lt-ltb (length (first_line piece)) (length piece) more in
    let extends = c.extend-total.ensures in
    let total = extends.0 ∙ ap (extended_length held) part in
    let longer = extends.1 ∙ ap (extended line held) part in
    let text = ap₂ held_answer longer total in
    let answers = c.answer_held-written.ensures in (
      (λ i. record { held = 0; used = end.0 i + 1; written = (answers.0 ∙ ap length text) i }) ∙ newline_fed line held piece newline,
      longer,
      answers.1 ∙ ap (placed args.answer.now 0) (text ∙ sym (newline_writes line held piece newline)),
    )
