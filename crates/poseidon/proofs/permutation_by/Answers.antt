-- `poseidon::permutation_by` meets its contract.
-- Assumes nothing.
use mathlib.Core.Path.{sym, subst}
use Prim.Native.Nat.{ℕ, ◌≤◌}
use Rattle.poseidon.specs.Permutation.{parameters}
use Rattle.poseidon.proofs.Given.{given_at, permuted_given, two_subtractions}
use Rattle.poseidon.proofs.permutation_by.Goals as goal

pub reduce_all-reduced-requires : goal.reduce_all-reduced-requires
reduce_all-reduced-requires c = subst (λ (x : ℕ). 1431655766 ≤ x) (sym c.modulus-m.ensures) (two_subtractions c.args.field)

pub reduce_all-requires : goal.reduce_all-requires
reduce_all-requires c = subst (λ (x : ℕ). 1431655766 ≤ x) (sym c.modulus-m.ensures) (two_subtractions c.args.field)

pub returns : goal.returns
returns c =
    let a = c.args in
    λ h.
    let g = given_at a.field c.modulus-m.ensures c.negated_inverse-q.ensures c.high_weight-r.ensures c.exponent-power.ensures
    c.partial_rounds-n.ensures c.word-word.ensures c.first_entry-first.ensures h in
    permuted_given (parameters a.field) _ g c.reduce_all-reduced.ensures c.full_rounds-early.ensures
    c.full_round-before.ensures c.partial_rounds-after.ensures c.rescale-again.ensures c.full_rounds-late.ensures c.reduce_all.ensures
