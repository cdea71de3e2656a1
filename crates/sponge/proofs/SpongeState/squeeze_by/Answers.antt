-- `sponge::SpongeState::squeeze_by` meets its contract.
-- Assumes nothing.
use mathlib.Core.Path.{◌≡◌, refl, sym, ap, ◌∙◌}
use mathlib.Core.List.{List}
use Prim.Native.Nat.{ℕ}
use native.Mathlib.Numerals.{add-one}
use native.Mathlib.Omega.{arith}
use lib.ListN.{length, set}
use borrow.Author.Rules.{rules}
use Rattle.basics.proofs.Placed.{placed_none}
use Rattle.poseidon.specs.Permutation.{parameters}
use Rattle.sponge.specs.Sponge.{squeeze_element, squeezed_element, squeeze_elements, squeezed_elements}
use Rattle.sponge.specs.Counted.{counted}
use Rattle.sponge.proofs.Folds.{squeeze_snoc, squeeze_more, squeezed_more, squeeze_at_most_one, write_next, all_written}
use Rattle.sponge.proofs.SpongeState.squeeze_by.Goals as goal

pub loop-out-init : goal.loop-out-init
unfolding squeeze_elements squeezed_elements
loop-out-init g c = (refl, sym (placed_none c.args.output.now 0), omega arith)

pub overflow_add-permutations : goal.overflow_add-permutations
overflow_add-permutations g c =
    let one = squeeze_at_most_one (parameters (g.P.Permute.field_of c.args.by.now)) _ _ _ c.squeeze_element-permutations.ensures.0 in
    let few = c.loop-out.invariant.2 in
    search rules

pub loop-out-preserved : goal.loop-out-preserved
loop-out-preserved g c =
    let F = parameters (g.P.Permute.field_of c.args.by.now) in
    let start = counted c.args.self.now 0 in
    let i = c.loop-out.out-index in
    let n = c.loop-out.permutations in
    let inv = c.loop-out.invariant in
    let squeezed = c.squeeze_element-permutations.ensures in
    let one = squeeze_at_most_one F _ _ _ squeezed.0 in (
      rw (add-one i) (squeeze_snoc F i start ∙ ap (squeeze_element F) inv.0 ∙ squeeze_more F n _ c.loop-out.self _ squeezed.0),
      rw (add-one i)
          (ap (λ (l : List ℕ). set l i c.squeeze_element-permutations.new.out) inv.1
          ∙ write_next F start i c.args.output.now _ (omega arith)
          (squeezed.1 ∙ squeezed_more F n c.loop-out.self ∙ ap (squeezed_element F) (sym inv.0))),
      omega arith,
    )

pub returns : goal.returns
returns g c =
    let F = parameters (g.P.Permute.field_of c.args.by.now) in
    let start = counted c.args.self.now 0 in
    let end : c.loop-out.out-index ≡ length c.args.output.now = omega arith in (
      sym c.loop-out.invariant.0 ∙ ap (squeeze_elements F start) end,
      c.loop-out.invariant.1 ∙ all_written F start c.loop-out.out-index c.args.output.now end,
    )
