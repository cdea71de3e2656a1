-- `cards::answer_last` meets its contract.
-- Assumes nothing.
use Rattle.card_lines.proofs.Progress.{last_within}
use borrow.Author.Rules.{rules}
use Rattle.cards.proofs.answer_last.Goals as goal

pub write-requires : goal.write-requires
write-requires c =
    let fits = last_within c.args.line.now c.args.fed.held in
    search rules
