-- `counters::permutations::permutations_at` meets its contract.
-- Assumes nothing.
use mathlib.Core.Path.{◌≡◌, sym, ap, ap₂, ◌∙◌}
use mathlib.Core.List.{List}
use Prim.Native.Nat.{ℕ, ◌+◌, min}
use native.Mathlib.Omega.{arith}
use lib.ListN.{length, take}
use lib.Seq.{length-take-le}
use Rattle.basics.specs.Lists.{sum}
use Rattle.counters.specs.Permutations.{phase_permutations, permutations_at}
use Rattle.counters.proofs.PermutationCounts.{whole_phase, phase_bound, sum_bound, sum_stops, sum_of_front}
use borrow.Author.Rules.{rules}
use Rattle.counters.proofs.permutations.permutations_at.Goals as goal

-- how many the first n words are
front : (n : ℕ) (ws : List ℕ) (phase : ℕ) → n ≡ min (length ws) phase → length (take n ws) ≡ n
front n ws phase few = length-take-le _ _ (omega arith)

pub slice_bounds-whole_phases-end : goal.slice_bounds-whole_phases-end
slice_bounds-whole_phases-end c = sym (front _ c.args.words.now c.args.place.phase c.min-before.ensures)

pub whole_phases-requires : goal.whole_phases-requires
whole_phases-requires c =
    let few = c.min-before.ensures in
    let long = front _ c.args.words.now c.args.place.phase few in
    search rules

pub overflow_add-result : goal.overflow_add-result
overflow_add-result c =
    let args = c.args in
    let words = args.words.now in
    let n = c.min-before.result in
    let long = front _ c.args.words.now c.args.place.phase c.min-before.ensures in
    let bound = sum_bound (take n words) (length (take n words)) in
    let whole = c.whole_phases.ensures in
    let phase = c.phase_permutations.ensures in
    let few = phase_bound c.phase_word-word.result args.place.done in
    search rules

pub returns : goal.returns
unfolding permutations_at
returns c =
    let args = c.args in
    let words = args.words.now in
    let n = c.min-before.result in
    let long = front n words args.place.phase c.min-before.ensures in
    let few : n ≡ min args.place.phase (length words) = omega (arith, c.min-before.ensures) in
    let before =
    c.whole_phases.ensures
    ∙ ap (λ (k : ℕ). sum k (whole_phase (take n words))) long
    ∙ sum_of_front n words
    ∙ ap (λ (k : ℕ). sum k (whole_phase words)) few
    ∙ sum_stops words args.place.phase in
    let now = c.phase_permutations.ensures ∙ ap (λ (w : ℕ). phase_permutations w args.place.done) c.phase_word-word.ensures in
    ap₂ (λ (a b : ℕ). a + b) before now
