-- `sponge::SpongeState::absorb_by` meets its contract.
-- Assumes nothing.
use mathlib.Core.Path.{refl, sym, ap, ◌∙◌}
use native.Mathlib.Numerals.{add-one}
use native.Mathlib.Omega.{arith}
use lib.ListN.{get_or, take}
use lib.Seq.{take_all, take-suc}
use borrow.Author.Rules.{rules}
use Rattle.poseidon.specs.Permutation.{parameters}
use Rattle.sponge.specs.Sponge.{Sponge, absorb_element, absorb_elements}
use Rattle.sponge.specs.Counted.{counted}
use Rattle.sponge.proofs.Folds.{absorb_snoc, absorb_more, absorb_at_most_one}
use Rattle.sponge.proofs.SpongeState.absorb_by.Goals as goal

pub loop-element-init : goal.loop-element-init
unfolding absorb_elements
loop-element-init g c = (refl, omega arith)

pub overflow_add-permutations : goal.overflow_add-permutations
overflow_add-permutations g c =
    let one = absorb_at_most_one (parameters (g.P.Permute.field_of c.args.by.now)) _ _ _ _ c.absorb_element-permutations.ensures in
    let few = c.loop-element.invariant.1 in
    search rules

pub loop-element-preserved : goal.loop-element-preserved
loop-element-preserved g c =
    let F = parameters (g.P.Permute.field_of c.args.by.now) in
    let input = c.args.input.now in
    let i = c.loop-element.element-index in
    let one = absorb_at_most_one F _ _ _ _ c.absorb_element-permutations.ensures in
    let start = counted c.args.self.now 0 in (
      rw (add-one i, take-suc input i 0 (omega arith))
          (absorb_snoc F (take i input) start (get_or input i 0)
          ∙ ap (λ (t : Sponge). absorb_element F t (get_or input i 0)) c.loop-element.invariant.0
          ∙ absorb_more F c.loop-element.permutations _ c.loop-element.self _ (get_or input i 0) c.absorb_element-permutations.ensures),
      omega arith,
    )

pub returns : goal.returns
returns g c =
    let F = parameters (g.P.Permute.field_of c.args.by.now) in
    sym c.loop-element.invariant.0
    ∙ ap (absorb_elements F (counted c.args.self.now 0)) (take_all c.loop-element.element-index c.args.input.now (omega arith))
