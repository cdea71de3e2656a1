-- The start check, row by row.
-- Assumes nothing.
use mathlib.Core.Path.{◌≡◌, refl}
use mathlib.Core.Bool.{Bool, true, false, not}
use mathlib.Core.List.{List, []}
use mathlib.Core.Logic.{◌≢◌}
use Prim.Native.Nat.{ℕ, ◌≤◌, ◌<◌}
use native.Mathlib.Omega.{arith}
use borrow.Author.Tests.{ltb-false, eq-eqb, ne_eqb, lt-ltb, le-ltb}
use lib.Dec.{ltb, eqb}
use lib.ListN.{length, get_or}
use Rattle.basics.specs.Logic.{◌and◌, ◌or◌, all, any}
use Rattle.basics.specs.Numbers.{accepted}
use Rattle.basics.proofs.Cases.{or_false}
use Rattle.basics.proofs.FirstRow.{none_applies, accepted_none}
use Rattle.words.specs.Words.{is_absorb, length_of}
use Rattle.pattern.specs.Pattern.{max_words, phases, merged_words, too_long}
use Rattle.pattern.specs.Opening.{Opening, max_call, max_separator, word_rows, opening_rows, opening_number, with_words, answer_with, checked}
use Rattle.pattern.proofs.Given.{answer_accepted, answer_refused}
use Rattle.pattern.proofs.MergedLengths.{phases_fit}
use Rattle.pattern.proofs.MergeStep.{merged_words_length}

module _ (ws : List ℕ) where
  -- the conditions about words
  abbrev pub row1 : Bool
  row1 = eqb (length ws) 0 or ltb max_words (length ws)

  abbrev pub row2 : Bool
  row2 = any (λ w. eqb (length_of w) 0) ws

  abbrev pub row19 : Bool
  row19 = any (λ w. ltb max_call (length_of w)) ws

  abbrev pub row3 : Bool
  row3 = not (is_absorb (get_or ws 0 0))

  pub no_words : length ws ≡ 0 → row1 ≡ true
  unfolding ◌or◌
  no_words e = rw (eq-eqb (length ws) 0 e)

  pub over_64_words : max_words < length ws → row1 ≡ true
  unfolding ◌or◌
  over_64_words h = rw (ne_eqb (length ws) 0 (λ e. omega arith), lt-ltb max_words (length ws) h)

  pub some_words : length ws ≢ 0 → length ws ≤ max_words → row1 ≡ false
  unfolding ◌or◌
  some_words n h = rw (ne_eqb (length ws) 0 n, le-ltb max_words (length ws) h)

  -- what words pass to which no row applies
  pub record PassedWords : Type 0 where
    pub e1 : row1 ≡ false
    pub e2 : row2 ≡ false
    pub e19 : row19 ≡ false
    pub e3 : row3 ≡ false

  pub few_declared : row1 ≡ false → length ws ≤ max_words
  few_declared e = ltb-false max_words (length ws) (or_false _ _ e).1

  pub merged_fit : PassedWords → any too_long (phases ws) ≡ false
  merged_fit p = phases_fit ws (few_declared p.e1) p.e19

module _ (o : Opening) where
  -- what an accepted opening passed
  pub record PassedRows : Type 0 where
    pub of_words : PassedWords o.words
    pub short : length o.separator ≤ max_separator

  pub passed_rows : opening_number o ≡ accepted → PassedRows
  unfolding opening_number opening_rows word_rows all any ◌and◌
  passed_rows e =
      let a1 = or_false _ _ (accepted_none (opening_rows o) refl e) in
      let a2 = or_false _ _ a1.1 in
      let a3 = or_false _ _ a2.1 in
      let a4 = or_false _ _ a3.1 in
      let a5 = or_false _ _ a4.1 in
      record {
        of_words = record { e1 = a1.0; e2 = a2.0; e19 = a3.0; e3 = a4.0 };
        short = ltb-false max_separator (length o.separator) a5.0;
      }

  pub passes : PassedRows → opening_number o ≡ accepted
  unfolding opening_number opening_rows word_rows any ◌or◌
  passes t =
      let w = t.of_words in
      none_applies (opening_rows o) (rw (w.e1, w.e2, w.e19, w.e3, le-ltb max_separator (length o.separator) t.short))

  pub checked_refused : (n : ℕ) → eqb n 0 ≡ false → opening_number o ≡ n → checked o ≡ with_words n []
  unfolding checked
  checked_refused n z e = answer_refused _ n _ e z

  pub checked_accepted : opening_number o ≡ accepted → checked o ≡ with_words accepted (merged_words o.words)
  unfolding checked
  checked_accepted e = answer_accepted _ _ e

  pub checked_number : (checked o).number ≡ opening_number o
  unfolding checked answer_with with_words
  checked_number = refl

  pub fit : opening_number o ≡ accepted → any too_long (phases o.words) ≡ false
  fit e = merged_fit o.words (passed_rows e).of_words

  pub few_words : opening_number o ≡ accepted → length (merged_words o.words) ≤ max_words
  few_words e = omega (arith, few_declared o.words (passed_rows e).of_words.e1, merged_words_length o.words)
