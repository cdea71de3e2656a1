-- `words::kind_of` meets its contract.
-- Assumes nothing.
use borrow.Author.Rules.{rules}
use Rattle.words.specs.Kinds.{absorbs}
use Rattle.words.proofs.kind_of.Goals as goal

pub returns-then-is_absorb : goal.returns-then-is_absorb
unfolding absorbs
returns-then-is_absorb c = search rules

pub returns-else-is_absorb : goal.returns-else-is_absorb
unfolding absorbs
returns-else-is_absorb c = search rules
