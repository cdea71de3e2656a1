-- `seal::declare` meets its contract.
-- Assumes nothing.
use mathlib.Core.Path.{◌≡◌, refl, ap, ◌∙◌}
use Prim.Native.Nat.{ℕ, ◌+◌, ◌*◌, ◌≤◌, ◌<◌}
use native.Mathlib.Omega.{arith}
use lib.ListN.{length, take, set, length-set}
use Rattle.basics.specs.Logic.{when◌then◌else◌}
use Rattle.words.specs.Words.{word_of}
use Rattle.seal.specs.Seal.{seal_words}
use Rattle.seal.proofs.Lengths.{lengths_sound, length_at}
use Rattle.seal.proofs.Words.{declare_more, declare_last}
use borrow.Author.Rules.{rules}
use Rattle.seal.proofs.declare.Goals as goal
use Rattle.seal.proofs.declare.Goals.{At-loop-i}

few : (c : At-loop-i) → length c.args.lengths.now ≤ 31
few c = (lengths_sound _ c.requires).few

pub loop-i-init : goal.loop-i-init
unfolding seal_words word_of when◌then◌else◌
loop-i-init c = (search rules, refl, refl)

pub bounds-words-i : goal.bounds-words-i
bounds-words-i c = let n = few (goal.at.bounds-words-i c).At-loop-i in search rules

pub bounds-words-i-in-loop-i : goal.bounds-words-i-in-loop-i
bounds-words-i-in-loop-i c = let n = few (goal.at.bounds-words-i-in-loop-i c).At-loop-i in search rules

pub loop-i-preserved : goal.loop-i-preserved
loop-i-preserved c =
    let lengths = c.args.lengths.now in
    let words = c.loop-i.words in
    let i = c.loop-i.i in
    let inv = c.loop-i.invariant in
    (search rules, simp length-set inv.1, declare_more lengths words i inv.1 inv.2 (search rules) (few (goal.at.loop-i-preserved c).At-loop-i))

pub overflow_add-words-in-loop-i-2 : goal.overflow_add-words-in-loop-i-2
overflow_add-words-in-loop-i-2 c =
    let lengths = c.args.lengths.now in
    let d = lengths_sound lengths c.requires in
    let h : c.loop-i.i < length lengths = search rules in
    omega (arith, length_at lengths d.each c.loop-i.i h)

pub bounds-words-lengths : goal.bounds-words-lengths
bounds-words-lengths c = let n = few (goal.at.bounds-words-lengths c).At-loop-i in search rules

pub invariant_of-result : goal.invariant_of-result
invariant_of-result c = record { fits = omega (arith, few (goal.at.invariant_of-result c).At-loop-i) }

pub returns : goal.returns
returns c =
    let lengths = c.args.lengths.now in
    let inv = c.loop-i.invariant in
    let i = c.loop-i.i in
    let n = few (goal.at.returns c).At-loop-i in
    let end : length lengths ≡ i = search rules in
    ap (λ (k : ℕ). take (2 * k + 2) (set c.loop-i.words (2 * k + 1) 8)) end
    ∙ declare_last lengths c.loop-i.words i inv.1 inv.2 (search rules) (search rules)
