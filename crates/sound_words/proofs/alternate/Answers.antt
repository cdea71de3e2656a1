-- `sound_words::alternate` meets its contract.
-- Assumes nothing.
use mathlib.Core.Path.{◌≡◌, refl, sym, ap, ◌∙◌}
use mathlib.Core.Bool.{Bool, true, false, not}
use mathlib.Core.List.{List}
use Prim.Native.Nat.{ℕ, suc, ◌+◌}
use native.Mathlib.Numerals.{add-one}
use native.Mathlib.Omega.{arith}
use lib.Dec.{eqb}
use lib.ListN.{get_or, drop, drop_of_length-le}
use lib.Seq.{drop-cons}
use Rattle.basics.specs.Logic.{◌and◌, all}
use Rattle.words.specs.Words.{is_absorb}
use Rattle.pattern.specs.Pattern.{alternate}
use Rattle.pattern.proofs.Soundness.{tests}
use Rattle.sound_words.specs.Faults.{fault_of}
use Rattle.sound_words.proofs.Faults.{fault_least, counted}
use borrow.Author.Rules.{rules}
use Rattle.sound_words.proofs.alternate.Goals as goal

and_none : (a : Bool) → (a and (true and true)) ≡ a
unfolding ◌and◌
and_none true = refl
and_none false = refl

pub loop-word-init : goal.loop-word-init
unfolding is_absorb ◌and◌
loop-word-init c = (search rules, refl)

pub overflow_add-faults : goal.overflow_add-faults
overflow_add-faults c =
    let words = c.args.words.now in
    let least = fault_least (is_absorb c.loop-word.last) (get_or words c.loop-word.word-index 0) in
    let one = c.fault-faults.ensures in
    search rules

pub loop-word-preserved : goal.loop-word-preserved
loop-word-preserved c =
    let words = c.args.words.now in
    let i = c.loop-word.word-index in
    let last = is_absorb c.loop-word.last in
    let faults = c.loop-word.faults in
    let least = fault_least last (get_or words i 0) in
    let one : c.fault-faults.result ≡ fault_of last (get_or words i 0) = c.fault-faults.ensures in (
      omega (arith, least, one),
      rw add-one
          (c.loop-word.invariant.1
          ∙ ap (λ (ws : List ℕ). eqb faults 0 and tests (not last) ws) (drop-cons words i 0 (omega arith))
          ∙ counted faults last (get_or words i 0) (drop (suc i) words)
          ∙ ap (λ (f : ℕ). eqb (faults + f) 0 and tests (not (is_absorb (get_or words i 0))) (drop (suc i) words)) (sym one)),
    )

pub returns : goal.returns
unfolding alternate all
returns c =
    let words = c.args.words.now in
    let i = c.loop-word.word-index in
    let last = is_absorb c.loop-word.last in
    sym
    (c.loop-word.invariant.1
    ∙ ap (λ (ws : List ℕ). eqb c.loop-word.faults 0 and tests (not last) ws) (drop_of_length-le words {i = i} (omega arith))
    ∙ and_none (eqb c.loop-word.faults 0))
