-- `counters::permutations::whole_phases` meets its contract.
-- Assumes nothing.
use mathlib.Core.Path.{◌≡◌, refl, ap, ap₂, ◌∙◌}
use Prim.Native.Nat.{ℕ, ◌+◌}
use native.Mathlib.Numerals.{add-one}
use native.Mathlib.Omega.{arith}
use lib.ListN.{length, get_or}
use Rattle.basics.specs.Lists.{sum}
use Rattle.words.specs.Words.{length_of}
use Rattle.counters.proofs.PermutationCounts.{whole_phase, phase_bound, sum_bound}
use borrow.Author.Rules.{rules}
use Rattle.counters.proofs.permutations.whole_phases.Goals as goal

pub loop-word-init : goal.loop-word-init
unfolding sum
loop-word-init c = refl

pub overflow_add-permutations : goal.overflow_add-permutations
overflow_add-permutations c =
    let words = c.args.words.now in
    let word = get_or words c.loop-word.word-index 0 in
    let bound = sum_bound words c.loop-word.word-index in
    let one = c.whole_phase.ensures in
    let few = phase_bound word (length_of word) in
    search rules

pub loop-word-preserved : goal.loop-word-preserved
unfolding sum
loop-word-preserved c =
    rw add-one (ap₂ (λ (a b : ℕ). a + b) c.loop-word.invariant c.whole_phase.ensures)

pub returns : goal.returns
returns c =
    let words = c.args.words.now in
    let all : c.loop-word.word-index ≡ length words = omega arith in
    c.loop-word.invariant ∙ ap (λ (k : ℕ). sum k (whole_phase words)) all
