use mathlib.Core.Path.{sym}
use borrow.Author.Tests.{lt-ltb, le-ltb}
use Rattle.basics.proofs.Cases.{if_true, if_false}
use Rattle.card_reader.proofs.kept.Kept.keep.Goals as goal

pub returns-then-self : goal.returns-then-self
returns-then-self g c =
    let room = lt-ltb _ _ c.if-self.true in
    (sym (if_true _ _ _ room), sym (if_true _ _ _ room))

pub returns-else-self : goal.returns-else-self
returns-else-self g c =
    let full = le-ltb _ _ c.if-self.false in
    (sym (if_false _ _ _ full), sym (if_false _ _ _ full))
