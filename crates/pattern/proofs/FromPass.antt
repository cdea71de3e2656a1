-- From what the pass holds at the end to the start check's answer.
-- Assumes nothing.
use mathlib.Core.Path.{◌≡◌, refl, sym, ◌∙◌}
use mathlib.Core.Bool.{Bool, true, false}
use mathlib.Core.List.{List, [], ◌∷◌}
use mathlib.Core.Logic.{◌≢◌}
use Prim.Native.Nat.{ℕ, suc, ◌*◌, ◌≤◌, ◌<◌}
use native.Mathlib.Omega.{arith}
use borrow.Author.Tests.{lt-ltb, le-ltb, eqb-true, ne_eqb}
use lib.Dec.{eqb}
use lib.ListN.{length}
use Rattle.basics.specs.Logic.{when◌then◌else◌, ◌or◌}
use Rattle.basics.specs.Numbers.{accepted, word_count_out_of_range}
use Rattle.basics.specs.Refusals.{◌gets◌⨾◌, first_number}
use Rattle.basics.proofs.Cases.{cases, if_true, if_false}
use Rattle.pattern.specs.Pattern.{merged_words}
use Rattle.pattern.specs.Opening.{word_rows, opening_rows, opening_number, with_words, answer_with}
use Rattle.pattern.specs.Pass.{pass_number, passed, rank, earlier, held_after, ending}
use Rattle.pattern.proofs.Given.{answer_accepted}
use Rattle.pattern.proofs.StartCheck.{no_words}
use Rattle.pattern.proofs.PassStep.{numbers, pass_number_law}

-- the first of all numbers is the earlier of what the pass holds and what is left for the end
by_ending : (a b c d f : Bool)
    → first_number (a gets 1 ⨾ b gets 2 ⨾ c gets 19 ⨾ d gets 3 ⨾ f gets 6 ⨾ []) ≡ earlier (numbers a b c d) (first_number (f gets 6 ⨾ []))
unfolding numbers first_number earlier rank when◌then◌else◌
by_ending true b c d true = refl
by_ending true b c d false = refl
by_ending false true c d true = refl
by_ending false true c d false = refl
by_ending false false true d true = refl
by_ending false false true d false = refl
by_ending false false false true true = refl
by_ending false false false true false = refl
by_ending false false false false f = refl

-- ---- the order of numbers

pub rank_other : (n : ℕ) → n ≢ 19 → rank n ≡ 2 * n
unfolding rank
rank_other n other = if_false _ _ _ (ne_eqb n 19 other)

module _ (a b : ℕ) (some : a ≢ 0) (other : b ≢ 0) where
  pub earlier_left : rank a ≤ rank b → earlier a b ≡ a
  unfolding earlier
  earlier_left h = if_false _ _ _ (ne_eqb a 0 some) ∙ if_false _ _ _ (ne_eqb b 0 other) ∙ if_false _ _ _ (le-ltb (rank b) (rank a) h)

  pub earlier_right : rank b < rank a → earlier a b ≡ b
  unfolding earlier
  earlier_right h = if_false _ _ _ (ne_eqb a 0 some) ∙ if_false _ _ _ (ne_eqb b 0 other) ∙ if_true _ _ _ (lt-ltb (rank b) (rank a) h)

pub earlier_of_none : (a : ℕ) → (earlier a 0 ≡ a) × (earlier 0 a ≡ a)
unfolding earlier when◌then◌else◌
earlier_of_none a = (cases (eqb a 0) (λ e. if_true _ _ _ e ∙ sym (eqb-true a 0 e)) (λ e. if_false _ _ _ e), refl)

module _ (separator : List ℕ) where
  abbrev start : List ℕ → ℕ
  start ws = opening_number (record { words = ws; separator = separator })

  pub start_none : start [] ≡ word_count_out_of_range
  unfolding opening_number opening_rows word_rows first_number
  start_none = if_true _ _ _ (no_words [] refl)

  start_some : (w : ℕ) (ws : List ℕ) → start (w ∷ ws) ≡ earlier (pass_number (w ∷ ws)) (ending (length separator))
  unfolding opening_number opening_rows word_rows ending ◌or◌
  start_some w ws = rw (pass_number_law w ws, ne_eqb (suc (length ws)) 0 (λ e. omega arith)) (by_ending _ _ _ _ _)

  pub start_by_pass : (ws : List ℕ) → length ws ≢ 0 → earlier (held_after ws).number (ending (length separator)) ≡ start ws
  unfolding held_after passed answer_with with_words
  start_by_pass [] some = absurd (some refl)
  start_by_pass (w ∷ ws) some = sym (start_some w ws)

pub words_by_pass : (ws : List ℕ) → length ws ≢ 0 → (held_after ws).number ≡ accepted → held_after ws ≡ with_words accepted (merged_words ws)
unfolding held_after passed answer_with with_words
words_by_pass [] some e = absurd (some refl)
words_by_pass (w ∷ ws) some e = answer_accepted (pass_number (w ∷ ws)) (merged_words (w ∷ ws)) e
