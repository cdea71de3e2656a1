-- `sound_words::is_sound` meets its contract.
-- Assumes nothing.
use mathlib.Core.Path.{sym, ◌∙◌}
use lib.Dec.{leb}
use lib.ListN.{length}
use borrow.Author.Tests.{leb-true, leb-false}
use Rattle.basics.proofs.Cases.{cases}
use Rattle.pattern.proofs.Soundness.{too_few, too_many, right_count}
use borrow.Author.Rules.{rules}
use Rattle.sound_words.proofs.is_sound.Goals as goal

pub returns-then-contains : goal.returns-then-contains
returns-then-contains c = c.alternate.ensures ∙ sym (right_count c.args.words.now (search rules) (search rules))

pub returns-else-contains : goal.returns-else-contains
returns-else-contains c =
    let words = c.args.words.now in
    c.if-contains.false
    ∙ sym
    (cases (leb 1 (length words))
    (λ e. cases (leb (length words) 64)
    (λ f. let few = leb-true 1 (length words) e in let many = leb-true (length words) 64 f in absurd (search rules))
    λ f. too_many words (leb-false (length words) 64 f))
    λ e. too_few words (leb-false 1 (length words) e))
