-- `pattern::pass::earlier_of` meets its contract.
-- Assumes nothing.
use native.Mathlib.Omega.{arith}
use mathlib.Core.Path.{sym}
use Rattle.pattern.proofs.FromPass.{earlier_left, earlier_right}
use Rattle.basics.proofs.Refused.{refusal_some}
use Rattle.pattern.proofs.pass.earlier_of.Goals as goal

pub returns-then-rank_of : goal.returns-then-rank_of
returns-then-rank_of c =
    sym (earlier_right _ _ (refusal_some c.args.held) (refusal_some c.args.earned) (omega (arith, c.rank_of.ensures, c.rank_of-2.ensures, c.if-rank_of.true)))

pub returns : goal.returns
returns c =
    sym (earlier_left _ _ (refusal_some c.args.held) (refusal_some c.args.earned) (omega (arith, c.rank_of.ensures, c.rank_of-2.ensures, c.if-rank_of.false)))
