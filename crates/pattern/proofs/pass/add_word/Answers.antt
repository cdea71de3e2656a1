-- `pattern::pass::add_word` meets its contract.
-- Assumes nothing.
use mathlib.Core.Path.{◌∙◌, sym}
use native.Mathlib.Omega.{arith}
use Rattle.pattern.proofs.Answers.{first_word, other_kind, same_kind}
use borrow.Author.Rules.{rules}
use Rattle.pattern.proofs.pass.add_word.Goals as goal

pub returns-then-count-eq0 : goal.returns-then-count-eq0
returns-then-count-eq0 c = λ ws fine h. first_word ws _ _ _ c.ranges.word.fits fine h (search rules) (search rules)

pub returns-then-not-same_kind : goal.returns-then-not-same_kind
returns-then-not-same_kind c = λ ws fine h. other_kind ws _ _ _ c.ranges.word.fits fine h (search rules) (search rules)
    (sym c.same_kind.ensures ∙ c.if-not-same_kind.true)

pub lengthened-requires : goal.lengthened-requires
lengthened-requires c = omega (arith, c.length_of.ensures, c.requires.1 c.if-count-eq0.false)

pub returns : goal.returns
returns c =
    λ ws fine h. rw (c.lengthened.ensures, c.length_of.ensures)
    (same_kind ws _ _ _ c.ranges.word.fits fine h (search rules)
    (sym c.same_kind.ensures ∙ c.if-not-same_kind.false))
