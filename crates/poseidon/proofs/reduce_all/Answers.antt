-- `poseidon::reduce_all` meets its contract.
-- Assumes nothing.
use mathlib.Core.Path.{refl, ap, ◌∙◌}
use Prim.Native.Nat.{ℕ, ◌%◌}
use native.Mathlib.Omega.{arith}
use borrow.Author.Rules.{rules}
use Rattle.std.proofs.Common.{◌≢◌, get_or-set_other}
use Rattle.basics.proofs.Fill.{start, step, end}
use Rattle.poseidon.specs.Steps.{remainders}
use Rattle.poseidon.proofs.reduce_all.Goals as goal

pub loop-x-init : goal.loop-x-init
loop-x-init c = (start _ _ _ (search rules), λ k h. refl)

pub loop-x-preserved : goal.loop-x-preserved
loop-x-preserved c =
    let i = c.loop-x.x-index in
    let inv = c.loop-x.invariant in (
      step _ inv.0 (search rules) (c.remainder.ensures ∙ ap (λ (y : ℕ). y % c.args.m) (inv.1 i (omega arith))),
      λ k h. let other : k ≢ i = omega arith in rw get_or-set_other (inv.1 k (omega arith)),
    )

pub returns : goal.returns
unfolding remainders
returns c = end c.loop-x.invariant.0 (search rules)
