-- `cards::answer_piece` meets its contract: what is left of the calls on the piece leads to the same as all of them.
-- Assumes nothing.
use mathlib.Core.Path.{ap, ◌∙◌}
use native.Mathlib.Omega.{arith}
use lib.ListN.{length}
use Rattle.card_lines.specs.Calls.{kept_of, next_kept, piece_kept}
use Rattle.card_lines.specs.declared.Fed.{Fed}
use Rattle.card_lines.proofs.Callers.{answered_some, answered_fits, reaches_start, reaches_answered, reaches_end}
use borrow.Author.Rules.{rules}
use Rattle.cards.proofs.answer_piece.Goals as goal

pub loop-fed-init : goal.loop-fed-init
loop-fed-init c = reaches_start _ _

pub write-requires : goal.write-requires
write-requires c =
    let fits = answered_fits c.loop-fed.line c.loop-fed.fed c.args.piece.now in
    let written = ap (λ (r : Fed). r.written) c.answer_lines-fed.ensures.0 in
    search rules

pub loop-fed-smaller : goal.loop-fed-smaller
loop-fed-smaller c =
    let some = answered_some c.loop-fed.line c.loop-fed.fed c.args.piece.now c.loop-fed-test.true in
    let used = ap (λ (r : Fed). r.used) c.answer_lines-fed.ensures.0 in
    omega arith

pub loop-fed-preserved : goal.loop-fed-preserved
loop-fed-preserved c =
    let answers = c.answer_lines-fed.ensures in
    reaches_answered c.loop-fed.line c.loop-fed.fed c.args.piece.now _ _ c.loop-fed.invariant (search rules) answers.0 answers.1

pub returns : goal.returns
unfolding next_kept
returns c =
    let piece = c.args.piece.now in
    reaches_end (kept_of c.loop-fed.line c.loop-fed.fed) piece c.loop-fed.invariant (search rules)
    ∙ ap (λ (f : Fed). piece_kept (length piece) (kept_of c.args.line.now f) piece) c.next_piece-fed.ensures
