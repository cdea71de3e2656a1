-- `pattern::pass::earned_by` meets its contract.
-- Assumes nothing.
use mathlib.Core.Path.{◌≡◌, sym, ap, ◌∙◌}
use mathlib.Core.Bool.{Bool, true, false, not}
use Prim.Native.Nat.{ℕ, ◌≤◌, ◌<◌}
use native.Mathlib.Omega.{arith}
use borrow.Author.Tests.{eq-eqb, ne_eqb, lt-ltb, le-ltb}
use lib.Dec.{ltb, eqb}
use Rattle.basics.proofs.Cases.{and_stop, and_step}
use Rattle.std.specs.Bool.{then_some}
use Rattle.basics.specs.Logic.{◌and◌}
use Rattle.basics.specs.declared.Refusal.TheVariants.{FirstWordSqueeze}
use Rattle.words.specs.Words.{is_absorb, length_of}
use Rattle.pattern.specs.Pass.{earned}
use Rattle.basics.specs.Answers.{number_of}
use Rattle.pattern.specs.Steps.{refusal_number}
use Rattle.pattern.proofs.PassStep.{earned_0, earned_1, earned_2, earned_3, earned_19}
use Rattle.pattern.proofs.pass.earned_by.Goals as goal
use Rattle.pattern.proofs.pass.earned_by.Goals.{then-n-eq0, else-n-eq0}

pub returns-then-n-ge-MAX_WORDS : goal.returns-then-n-ge-MAX_WORDS
unfolding refusal_number number_of
returns-then-n-ge-MAX_WORDS c = sym (earned_1 _ _ (omega arith))

pub returns-then-length_of-eq0 : goal.returns-then-length_of-eq0
unfolding refusal_number number_of
returns-then-length_of-eq0 c = sym (earned_2 _ _ (omega arith) (eq-eqb _ 0 (sym c.length_of.ensures ∙ c.if-length_of-eq0.true)))

-- a word whose length is not 0 has a length
some : (word n : ℕ) → n ≡ length_of word → (n ≡ 0 → ⊥) → eqb (length_of word) 0 ≡ false
some word n is more = ne_eqb _ 0 (λ e. more (is ∙ e))

-- a word whose length is within the limit
short : (word n : ℕ) → n ≡ length_of word → n ≤ 16777216 → ltb 16777216 (length_of word) ≡ false
short word n is few = le-ltb 16777216 (length_of word) (omega arith)

pub returns-then-length_of-gt-MAX_CALL : goal.returns-then-length_of-gt-MAX_CALL
unfolding refusal_number number_of
returns-then-length_of-gt-MAX_CALL c =
    let word = c.args.word in
    sym
    (earned_19 _ word (omega arith) (some _ _ c.length_of.ensures c.if-length_of-eq0.false)
    (lt-ltb 16777216 (length_of word) (omega (arith, c.length_of-2.ensures))))

-- the number of a word that is neither too late, nor empty, nor too long
by_kind : (b : Bool) (n word : ℕ) → n < 64 → eqb (length_of word) 0 ≡ false → ltb 16777216 (length_of word) ≡ false
    → (eqb n 0 and not (is_absorb word)) ≡ b
    → refusal_number (then_some b FirstWordSqueeze) ≡ earned n word
unfolding refusal_number number_of
by_kind true n word few more within e = sym (earned_3 n word few more within e)
by_kind false n word few more within e = sym (earned_0 n word few more within e)

pub returns : goal.returns
returns c =
    let first : (eqb c.args.n 0 and not (is_absorb c.args.word)) ≡ c.if-n-eq0.then_some = elim c.if-n-eq0.branch [
      | then-n-eq0 w ↦ and_step _ _ (eq-eqb c.args.n 0 w.if-n-eq0.true) ∙ ap not (sym w.is_absorb.ensures) ∙ sym w.then_some-is
      | else-n-eq0 w ↦ let later = ne_eqb c.args.n 0 w.if-n-eq0.false in and_stop _ _ later ∙ sym later ∙ sym w.then_some-is
    ] in
    ap refusal_number c.then_some.ensures
    ∙ by_kind _ _ _ (omega arith) (some _ _ c.length_of.ensures c.if-length_of-eq0.false) (short _ _ c.length_of-2.ensures c.if-length_of-gt-MAX_CALL.false) first
