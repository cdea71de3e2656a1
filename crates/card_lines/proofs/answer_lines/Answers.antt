-- `card_lines::answer_lines` meets its contract.
-- Assumes nothing.
use mathlib.Core.Path.{◌≡◌, sym, ap, ap₂, ◌∙◌}
use mathlib.Core.List.{List}
use Prim.Native.Nat.{ℕ, ◌-◌, ◌≤◌, ◌<◌}
use native.Mathlib.Omega.{arith}
use lib.ListN.{length, take, drop, length-append, length-drop}
use lib.Seq.{length-take-le, take_all}
use Rattle.basics.specs.Lists.{placed}
use Rattle.basics.proofs.Placed.{placed_start, placed_front}
use Rattle.card_lines.specs.Stream.{writes, takes, fed, line_after}
use Rattle.card_lines.specs.declared.Fed.{Fed}
use Rattle.card_lines.proofs.Progress.{takes_within, takes_some, writes_within}
use Rattle.card_lines.proofs.Turns.{first_turn, next_turn, none_left, no_room, done}
use borrow.Author.Rules.{rules}
use Rattle.card_lines.proofs.answer_lines.Goals as goal

part : (xs : List ℕ) (from : ℕ) → take (length xs - from) (drop from xs) ≡ drop from xs
part xs from = take_all (length xs - from) (drop from xs) (omega (arith, length-drop from xs))

some_left : (piece : List ℕ) (used : ℕ) → used < length piece → 0 < length (drop used piece)
some_left piece used h = omega (arith, length-drop used piece)

-- an answer lies in the bytes lent for it
front_inside : (buffer text : List ℕ) → length text ≤ length (placed buffer 0 text)
front_inside buffer text = rw (placed_start buffer text) (omega (arith, length-append text (drop (length text) buffer)))

-- ---- what the call of `feed` on the rest of the piece gave: its numbers, and the answer in the bytes lent for it
module _ (line : List ℕ) (held : ℕ) (piece : List ℕ) (used : ℕ) (r : Fed)
    (gave : r ≡ fed line held (take (length piece - used) (drop used piece))) where
  fed_rest : r ≡ fed line held (drop used piece)
  fed_rest = gave ∙ ap (fed line held) (part piece used)

  used_rest : r.used ≡ length (takes (drop used piece))
  unfolding fed
  used_rest = ap (λ (k : Fed). k.used) fed_rest

  written_rest : r.written ≡ length (writes line held (drop used piece))
  unfolding fed
  written_rest = ap (λ (k : Fed). k.written) fed_rest

  module _ (lent answer : List ℕ) (left : answer ≡ placed lent 0 (writes line held (take (length piece - used) (drop used piece)))) where
    answer_left : answer ≡ placed lent 0 (writes line held (drop used piece))
    answer_left = left ∙ ap (λ (l : List ℕ). placed lent 0 (writes line held l)) (part piece used)

    answer_inside : r.written ≤ length answer
    answer_inside =
        omega (arith, written_rest, ap length answer_left, front_inside lent (writes line held (drop used piece)))

    answer_read : take r.written answer ≡ writes line held (drop used piece)
    answer_read =
        ap₂ (λ (n : ℕ) (l : List ℕ). take n l) written_rest answer_left
        ∙ placed_front lent (writes line held (drop used piece))

pub loop-used-init : goal.loop-used-init
loop-used-init c = first_turn _ _ _ _

pub slice_bounds-answer-end : goal.slice_bounds-answer-end
slice_bounds-answer-end c =
    answer_inside c.loop-used.line c.loop-used.held c.args.piece.now c.loop-used.used _ c.feed-one.ensures.0 c.loop-used.answer _ c.feed-one.ensures.2

pub slice_bounds-copy-end-in-loop-used : goal.slice_bounds-copy-end-in-loop-used
slice_bounds-copy-end-in-loop-used c =
    let at = c.loop-used in
    let inside = answer_inside at.line at.held c.args.piece.now at.used _ c.feed-one.ensures.0 at.answer _ c.feed-one.ensures.2 in
    sym (length-take-le _ _ inside)

pub overflow_add-used : goal.overflow_add-used
overflow_add-used c =
    let at = c.loop-used in
    let piece = c.args.piece.now in
    let within = takes_within (drop at.used piece) in
    let left = length-drop at.used piece in
    let used = used_rest at.line at.held piece at.used _ c.feed-one.ensures.0 in
    search rules

pub overflow_add-written : goal.overflow_add-written
overflow_add-written c =
    let at = c.loop-used in
    let piece = c.args.piece.now in
    let short = writes_within at.line at.held (drop at.used piece) in
    let written = written_rest at.line at.held piece at.used _ c.feed-one.ensures.0 in
    let before = at.invariant.fits in
    search rules

pub loop-used-smaller : goal.loop-used-smaller
loop-used-smaller c =
    let at = c.loop-used in
    let piece = c.args.piece.now in
    let some = takes_some (drop at.used piece) (some_left piece at.used c.loop-used-test.true) in
    let used = used_rest at.line at.held piece at.used _ c.feed-one.ensures.0 in
    search rules

pub loop-used-preserved : goal.loop-used-preserved
loop-used-preserved c =
    let at = c.loop-used in
    let piece = c.args.piece.now in
    let numbers = c.feed-one.ensures.0 in
    let line = c.feed-one.ensures.1 ∙ ap (line_after at.line at.held) (part piece at.used) in
    let read = answer_read at.line at.held piece at.used _ numbers at.answer _ c.feed-one.ensures.2 in
    next_turn _ at.used at.written piece (search rules) (search rules) (search rules) at.invariant
    c.feed-one.result _ _ _ (fed_rest at.line at.held piece at.used _ numbers) line read c.copy.ensures.1

pub returns-else-written-ge-LONGEST_ANSWER : goal.returns-else-written-ge-LONGEST_ANSWER
returns-else-written-ge-LONGEST_ANSWER c =
    let at = c.loop-used in
    let full = no_room _ at.used at.written c.args.piece.now (search rules) in
    done _ c.args.last _ _ _ _ _ at.invariant full

pub returns-after-loop-used : goal.returns-after-loop-used
returns-after-loop-used c =
    let at = c.loop-used in
    let none = none_left _ at.used at.written c.args.piece.now (search rules) in
    done _ c.args.last _ _ _ _ _ at.invariant none
