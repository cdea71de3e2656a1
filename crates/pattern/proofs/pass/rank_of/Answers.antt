-- `pattern::pass::rank_of` meets its contract.
-- Assumes nothing.
use mathlib.Core.Path.{sym, ap, ◌∙◌}
use Prim.Native.Nat.{ℕ, ◌*◌}
use Rattle.basics.proofs.Cases.{if_true, if_false}
use Rattle.pattern.specs.Pass.{rank}
use Rattle.pattern.proofs.Refusals.{is_too_long}
use Rattle.pattern.proofs.pass.rank_of.Goals as goal

pub returns-then-eq : goal.returns-then-eq
unfolding rank
returns-then-eq c = sym (if_true _ _ _ (sym (is_too_long c.args.refusal) ∙ sym c.eq.ensures ∙ c.if-eq.true))

pub returns : goal.returns
unfolding rank
returns c = ap (λ (n : ℕ). 2 * n) (c.from-2.ensures ∙ c.from.ensures) ∙ sym (if_false _ _ _ (sym (is_too_long c.args.refusal) ∙ sym c.eq.ensures ∙ c.if-eq.false))
