-- START's one pass over the declared words. `pass_step` is what the pass does with one word: the contract of the private function that takes a word
-- cites it, and the loop's invariant is the equation that stands here. `passed ws` is what document 02, P2, has the pass hold after the words ws, and `pass ws` the steps, word by word.
use Rattle.std.specs.Prelude.{◌≡◌, refl, not, List, [], ◌∷◌, ◌++◌, ◌≢◌, ℕ, zero, suc, ◌-◌, ◌*◌, ◌≤◌, ◌<◌, ltb, eqb, length, get_or, take, replicate}
use Rattle.std.proofs.Common.{sym, ◌∙◌, arith, ne_eqb}
use Rattle.std.proofs.lemmas.Bool.{eqb-false}
use Rattle.basics.specs.Logic.{when◌then◌else◌, ◌or◌, any}
use Rattle.basics.specs.Numbers.{accepted, word_count_out_of_range, word_length_zero, call_too_long, first_word_squeeze}
use Rattle.basics.specs.Refusals.{◌gets◌⨾◌, first_number}
use Rattle.words.specs.Words.{is_absorb, length_of}
use Rattle.pattern.specs.Pattern.{merged_words}
use Rattle.pattern.specs.Opening.{Opening, opening, max_call, word_rows, opening_rows, opening_number, with_words, answer_with, checked}
use Rattle.pattern.specs.Pass.{pass_number, passed, pass_begin, rank, earlier, pass_step, pass, held_after, ending}
use Rattle.basics.proofs.Cases.{or_false}
use Rattle.pattern.proofs.Given.{answer_accepted, answer_refused}
use Rattle.pattern.proofs.StartCheck.{passed_rows, checked_accepted}
use Rattle.pattern.proofs.PassStep.{step_holds, pass_from_law, held_over, earlier_zero}
use Rattle.pattern.proofs.FromPass.{rank_other, earlier_left, earlier_right, earlier_of_none, start_by_pass}

-- "the lowest number that the words so far earn, number 4 aside", where 19 counts "after 2 and before 3, in P2's pass too", and 4 is not given: the
-- first that applies of 1, 2, 19 and 3.
pub numbers_of_the_pass : (ws : List ℕ) → pass_number ws
    ≡ first_number
    (eqb (length ws) 0 or ltb 64 (length ws) gets word_count_out_of_range ⨾
    any (λ w. eqb (length_of w) 0) ws gets word_length_zero ⨾
    any (λ w. ltb max_call (length_of w)) ws gets call_too_long ⨾
    not (is_absorb (get_or ws 0 0)) gets first_word_squeeze ⨾
    [])
unfolding pass_number word_rows
numbers_of_the_pass ws = refl

-- START's own order, row by row: "19: .. after 2 and before 3".
pub numbers_of_an_opening : (ws separator : List ℕ) → opening_number (opening ws separator)
    ≡ first_number
    (eqb (length ws) 0 or ltb 64 (length ws) gets 1 ⨾
    any (λ w. eqb (length_of w) 0) ws gets 2 ⨾
    any (λ w. ltb 16777216 (length_of w)) ws gets 19 ⨾
    not (is_absorb (get_or ws 0 0)) gets 3 ⨾
    ltb 256 (length separator) gets 6 ⨾
    [])
unfolding opening_number opening_rows word_rows
numbers_of_an_opening ws separator = refl

-- "After each word the pass holds the lowest number that the words so far earn, number 4 aside, else their merged words; this is proved.": of the
-- first word,
pub after_the_first_word : (w : ℕ) → pass_step 0 pass_begin w ≡ passed (w ∷ [])
unfolding held_after
after_the_first_word w = step_holds [] w

-- of each word behind others, which may have earned a number,
pub after_each_word : (v : ℕ) (vs : List ℕ) (w : ℕ) → pass_step (length (v ∷ vs)) (passed (v ∷ vs)) w ≡ passed (v ∷ vs ++ (w ∷ []))
unfolding held_after
after_each_word v vs w = step_holds (v ∷ vs) w

-- and so at every prefix of every list of words.
pub at_every_prefix : (ws : List ℕ) (k : ℕ) → 1 ≤ k → k ≤ length ws → pass (take k ws) ≡ passed (take k ws)
unfolding pass held_after
at_every_prefix [] k h l = absurd (omega arith)
at_every_prefix (w ∷ ws) zero h l = elim h [ ]
at_every_prefix (w ∷ ws) (suc k) h l = pass_from_law [] (take (suc k) (w ∷ ws))

-- The number that it holds is that one. With it, it holds no words, and without one the merged words.
pub number_held : (ws : List ℕ) → (passed ws).number ≡ pass_number ws
unfolding passed answer_with with_words
number_held ws = refl

pub number_without_words : (ws : List ℕ) → (passed ws).number ≢ accepted → passed ws ≡ with_words (passed ws).number []
unfolding passed answer_with with_words
number_without_words ws n = answer_refused (pass_number ws) (pass_number ws) (merged_words ws) refl (ne_eqb _ _ n)

pub else_merged_words : (ws : List ℕ) → (passed ws).number ≡ accepted → passed ws ≡ with_words accepted (merged_words ws)
unfolding passed answer_with with_words
else_merged_words ws e = answer_accepted (pass_number ws) (merged_words ws) e

-- Over 64 words it holds number 1, whatever they are, so no word behind the 65th can change it.
pub number_1_over_64 : (ws : List ℕ) → 64 < length ws → passed ws ≡ with_words word_count_out_of_range []
unfolding held_after
number_1_over_64 [] h = absurd (omega arith)
number_1_over_64 (w ∷ ws) h = held_over (w ∷ ws) h

rank_of_19 : rank 19 ≡ 5
unfolding rank when◌then◌else◌
rank_of_19 = refl

-- The order in which numbers count: 19 "after 2 and before 3", the others as they rise; and where one is 0, the other counts.
pub order_of_numbers :
    ((a : ℕ) → a ≢ 0 → a < 3 → (earlier a 19 ≡ a) × (earlier 19 a ≡ a))
    × ((a : ℕ) → 3 ≤ a → a < 19 → (earlier a 19 ≡ 19) × (earlier 19 a ≡ 19))
    × ((a b : ℕ) → a ≢ 0 → a < b → b < 19 → (earlier a b ≡ a) × (earlier b a ≡ a))
    × ((a : ℕ) → (earlier a 0 ≡ a) × (earlier 0 a ≡ a))
order_of_numbers = (
  λ a some few.
      let low : rank a ≡ 2 * a = rank_other a (λ e. omega arith) in
      let other : ◌≢◌ {A = ℕ} 19 0 = λ e. omega arith in
      (earlier_left a 19 some other (omega (arith, low, rank_of_19)), earlier_right 19 a other some (omega (arith, low, rank_of_19))),
  λ a more few.
      let high : rank a ≡ 2 * a = rank_other a (λ e. omega arith) in
      let some : a ≢ 0 = λ e. omega arith in
      let other : ◌≢◌ {A = ℕ} 19 0 = λ e. omega arith in
      (earlier_right a 19 some other (omega (arith, high, rank_of_19)), earlier_left 19 a other some (omega (arith, high, rank_of_19))),
  λ a b some less few.
      let low : rank a ≡ 2 * a = rank_other a (λ e. omega arith) in
      let high : rank b ≡ 2 * b = rank_other b (λ e. omega arith) in
      let other : b ≢ 0 = λ e. omega arith in
      (earlier_left a b some other (omega (arith, low, high)), earlier_right b a other some (omega (arith, low, high))),
  earlier_of_none,
)

lowest : (separator ws : List ℕ) → length ws ≢ 0
    → opening_number (opening ws separator) ≡ earlier (passed ws).number (ending (length separator))
unfolding held_after
lowest separator [] some = absurd (some refl)
lowest separator (w ∷ ws) some = sym (start_by_pass separator (w ∷ ws) some)

-- "The lowest applicable number still wins, even when a later word is the one at fault.": the start check's number is the one that is checked first of
-- what the pass holds at the end and of 6, by the separator.
pub lowest_number_wins : (o : Opening) → length o.words ≢ 0
    → opening_number o ≡ earlier (passed o.words).number (ending (length o.separator))
lowest_number_wins o = lowest o.separator o.words

-- And an opening that START accepts gets what the pass holds.
pub accepted_gets_what_is_held : (o : Opening) → opening_number o ≡ accepted → checked o ≡ passed o.words
accepted_gets_what_is_held o e =
    let some : length o.words ≢ 0 = eqb-false _ 0 (or_false _ _ (passed_rows o e).of_words.e1).0 in
    let (none, _) = earlier_zero _ _ (sym (lowest_number_wins o some) ∙ e) in
    checked_accepted o e ∙ sym (else_merged_words o.words none)

-- A 3 is held, then a call that is too long gives 19; then a word of length 0 gives 2; and a 3 is held, then a 65th word gives 1.
pub later_words_at_fault :
    (◌≡◌ {A = ℕ} (pass_number (3 ∷ [])) 3)
    × (◌≡◌ {A = ℕ} (pass_number (3 ∷ 0x81000001 ∷ [])) 19)
    × (◌≡◌ {A = ℕ} (pass_number (3 ∷ 0x81000001 ∷ 0x80000000 ∷ [])) 2)
    × (◌≡◌ {A = ℕ} (pass_number (replicate 64 3)) 3)
    × (◌≡◌ {A = ℕ} (pass_number (replicate 65 3)) 1)
unfolding pass_number word_rows is_absorb length_of first_number when◌then◌else◌ ◌or◌ any
later_words_at_fault = (refl, refl, refl, refl, refl)
