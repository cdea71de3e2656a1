-- `counters::permutations::whole_phase` meets its contract.
-- Assumes nothing.
use mathlib.Core.Path.{◌≡◌, sym, ap, ◌∙◌}
use Prim.Native.Nat.{ℕ, ◌+◌, ◌-◌, ◌/◌}
use borrow.Author.Tests.{ne_eqb}
use Rattle.basics.proofs.Cases.{if_true, if_false}
use Rattle.words.specs.Words.{length_of}
use Rattle.words.proofs.WordKinds.{length_below}
use Rattle.counters.specs.Permutations.{block_count, phase_permutations}
use Rattle.counters.proofs.PermutationCounts.{none_done}
use borrow.Author.Rules.{rules}
use Rattle.counters.proofs.permutations.whole_phase.Goals as goal

pub returns-then-length-eq0 : goal.returns-then-length-eq0
returns-then-length-eq0 c =
    let word = c.args.word in
    sym (ap (phase_permutations word) (sym c.length_of-length.ensures ∙ c.if-length-eq0.true) ∙ none_done word)

pub overflow_add-squeezed : goal.overflow_add-squeezed
overflow_add-squeezed c =
    let below = length_below c.args.word in
    let length = c.length_of-length.ensures in
    search rules

pub returns-then-is_absorb : goal.returns-then-is_absorb
unfolding phase_permutations block_count
returns-then-is_absorb c =
    let long : c.length_of-length.result ≡ length_of c.args.word = c.length_of-length.ensures in
    let absorbs = sym c.is_absorb.ensures ∙ c.if-is_absorb.true in
    ap (λ (n : ℕ). (n + 7) / 8 - 1) long
    ∙ sym (if_true _ _ _ absorbs ∙ if_false _ _ _ (ne_eqb _ 0 (λ z. c.if-length-eq0.false (long ∙ z))))

pub returns-else-is_absorb : goal.returns-else-is_absorb
unfolding phase_permutations block_count
returns-else-is_absorb c =
    let long : c.length_of-length.result ≡ length_of c.args.word = c.length_of-length.ensures in
    let squeezes = sym c.is_absorb.ensures ∙ c.if-is_absorb.false in
    ap (λ (n : ℕ). (n + 7) / 8) long ∙ sym (if_false _ _ _ squeezes)
