-- `session::Session::wiped` meets its contract.
-- Assumes nothing.
use Rattle.session.specs.Record.{wiped}
use borrow.Author.Rules.{rules}
use Rattle.session.proofs.Session.wiped.Goals as goal

pub returns : goal.returns
unfolding wiped
returns c = search rules
