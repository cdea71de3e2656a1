-- The pass over the declared words: what it holds with one word more.
-- Assumes nothing.
use mathlib.Core.Path.{◌≡◌, refl, sym, ap, ap₂, ◌∙◌}
use mathlib.Core.Bool.{Bool, true, false, not}
use mathlib.Core.List.{List, [], ◌∷◌, ◌++◌, map, append-nil}
use mathlib.Core.Logic.{◌≢◌}
use Prim.Native.Nat.{ℕ, suc, ◌+◌, ◌-◌, ◌*◌, ◌≤◌, ◌<◌, min}
use native.Mathlib.Numerals.{add-one}
use native.Mathlib.Omega.{arith}
use borrow.Author.Tests.{ltb-false, lt-ltb, le-ltb, leb-true, leb-false, le-leb, lt-leb, eqb-true, eqb-false, eq-eqb, ne_eqb}
use lib.Dec.{leb, ltb, eqb}
use lib.ListN.{length, get_or, take, replicate, length-append}
use lib.Seq.{length-take-le, take_all, take-suc, append_snoc}
use Rattle.basics.specs.Logic.{when◌then◌else◌, ◌and◌, ◌or◌, any}
use Rattle.basics.specs.Numbers.{accepted, word_count_out_of_range, word_length_zero, call_too_long, first_word_squeeze}
use Rattle.basics.specs.Refusals.{◌gets◌⨾◌, first_number}
use Rattle.basics.proofs.Cases.{cases, if_true, if_false, any_append}
use Rattle.words.specs.Words.{is_absorb, length_of, Phase, phase_of, word_of}
use Rattle.pattern.specs.Pattern.{merge, phases, merged_words, too_long}
use Rattle.pattern.specs.Opening.{word_rows, with_words, answer_with}
use Rattle.pattern.specs.Steps.{Holds, holding}
use Rattle.pattern.specs.Pass.{pass_number, passed, earned, rank, earlier, pass_step, pass_from, held_after}
use Rattle.pattern.specs.Opening.{WordList}
use Rattle.pattern.proofs.Given.{answer_accepted, answer_refused}
use Rattle.pattern.proofs.Answers.{words_used, holds_few, last_held}
use Rattle.pattern.proofs.MergedLengths.{phases_fit, merged_words_within}
use Rattle.pattern.proofs.MergeStep.{add_last, phases_snoc}
use Rattle.pattern.proofs.MergedWords.{merged_again}

-- the first of four conditions that holds gives its number
unfoldable pub numbers : Bool → Bool → Bool → Bool → ℕ
numbers a b c d =
    first_number
    (a gets word_count_out_of_range ⨾ b gets word_length_zero ⨾ c gets call_too_long ⨾ d gets first_word_squeeze ⨾ [])

-- the conditions of the pass, on words of which there is one at least
abbrev over : List ℕ → Bool
over ws = ltb 64 (length ws)

abbrev is_empty : ℕ → Bool
is_empty w = eqb (length_of w) 0

abbrev is_long : ℕ → Bool
is_long w = ltb 16777216 (length_of w)

abbrev squeezes : List ℕ → Bool
squeezes [] = false
squeezes (w ∷ ws) = not (is_absorb w)

-- the number that words earn, of which there is one at least, and before the first 0
abbrev number_of : List ℕ → ℕ
number_of ws = numbers (over ws) (any is_empty ws) (any is_long ws) (squeezes ws)

pub pass_number_law : (w : ℕ) (ws : List ℕ) → pass_number (w ∷ ws) ≡ number_of (w ∷ ws)
unfolding pass_number word_rows numbers ◌or◌
pass_number_law w ws = rw (ne_eqb (suc (length ws)) 0 (λ e. omega arith))

none_held : accepted ≡ number_of []
unfolding numbers first_number any when◌then◌else◌
none_held = refl

-- the number that is held, before the first word too
held_number : (ws : List ℕ) → (held_after ws).number ≡ number_of ws
unfolding held_after passed answer_with with_words
held_number [] = none_held
held_number (w ∷ ws) = pass_number_law w ws

-- ---- one word more

-- the first of all conditions is the earlier of the first of some and the first of the others
both_conditions : (a b c d e f g h : Bool) → earlier (numbers a b c d) (numbers e f g h) ≡ numbers (a or e) (b or f) (c or g) (d or h)
unfolding numbers first_number earlier rank when◌then◌else◌ ◌or◌
both_conditions true b c d true f g h = refl
both_conditions true b c d false true g h = refl
both_conditions true b c d false false true h = refl
both_conditions true b c d false false false true = refl
both_conditions true b c d false false false false = refl
both_conditions false true c d true f g h = refl
both_conditions false true c d false true g h = refl
both_conditions false true c d false false true h = refl
both_conditions false true c d false false false true = refl
both_conditions false true c d false false false false = refl
both_conditions false false true d true f g h = refl
both_conditions false false true d false true g h = refl
both_conditions false false true d false false true h = refl
both_conditions false false true d false false false true = refl
both_conditions false false true d false false false false = refl
both_conditions false false false true true f g h = refl
both_conditions false false false true false true g h = refl
both_conditions false false false true false false true h = refl
both_conditions false false false true false false false true = refl
both_conditions false false false true false false false false = refl
both_conditions false false false false e f g h = refl

-- the number that a word earns by itself
pub earned_number : (n w : ℕ) → earned n w ≡ numbers (leb 64 n) (is_empty w) (is_long w) (eqb n 0 and not (is_absorb w))
unfolding earned numbers
earned_number n w = refl

module _ (n w : ℕ) where
  pub earned_1 : 64 ≤ n → earned n w ≡ word_count_out_of_range
  unfolding earned first_number
  earned_1 h = if_true _ _ _ (le-leb 64 n h)

  module _ (h : n < 64) where
    pub earned_2 : is_empty w ≡ true → earned n w ≡ word_length_zero
    unfolding earned first_number
    earned_2 z = if_false _ _ _ (lt-leb 64 n h) ∙ if_true _ _ _ z

    module _ (some : is_empty w ≡ false) where
      pub earned_19 : is_long w ≡ true → earned n w ≡ call_too_long
      unfolding earned first_number
      earned_19 l = if_false _ _ _ (lt-leb 64 n h) ∙ if_false _ _ _ some ∙ if_true _ _ _ l

      module _ (short : is_long w ≡ false) where
        pub earned_3 : (eqb n 0 and not (is_absorb w)) ≡ true → earned n w ≡ first_word_squeeze
        unfolding earned first_number
        earned_3 e = if_false _ _ _ (lt-leb 64 n h) ∙ if_false _ _ _ some ∙ if_false _ _ _ short ∙ if_true _ _ _ e

        pub earned_0 : (eqb n 0 and not (is_absorb w)) ≡ false → earned n w ≡ accepted
        unfolding earned first_number
        earned_0 e = if_false _ _ _ (lt-leb 64 n h) ∙ if_false _ _ _ some ∙ if_false _ _ _ short ∙ if_false _ _ _ e

or_none : (a : Bool) → a or false ≡ a
unfolding ◌or◌
or_none true = refl
or_none false = refl

any_more : (f : ℕ → Bool) (ws : List ℕ) (w : ℕ) → any f (ws ++ (w ∷ [])) ≡ any f ws or f w
unfolding any
any_more f ws w = any_append f ws (w ∷ []) ∙ ap (λ (b : Bool). any f ws or b) (or_none (f w))

or_true : (a : Bool) → a or true ≡ true
unfolding ◌or◌
or_true true = refl
or_true false = refl

over_more : (ws : List ℕ) (w : ℕ) → over (ws ++ (w ∷ [])) ≡ over ws or leb 64 (length ws)
unfolding ◌or◌
over_more ws w =
    let longer = length-append ws (w ∷ []) in
    cases
    (leb 64 (length ws))
    (λ e.
    lt-ltb 64 (length (ws ++ (w ∷ []))) (omega (arith, leb-true 64 (length ws) e))
    ∙ sym (ap (λ (b : Bool). over ws or b) e ∙ or_true (over ws)))
    (λ e.
    let few = leb-false 64 (length ws) e in
    le-ltb 64 (length (ws ++ (w ∷ []))) (omega arith) ∙ sym (ap₂ (λ (a b : Bool). a or b) (le-ltb 64 (length ws) (omega arith)) e))

squeezes_more : (ws : List ℕ) (w : ℕ) → squeezes (ws ++ (w ∷ [])) ≡ squeezes ws or (eqb (length ws) 0 and not (is_absorb w))
unfolding ◌or◌ ◌and◌
squeezes_more [] w = refl
squeezes_more (v ∷ vs) w =
    sym (ap (λ (b : Bool). not (is_absorb v) or (b and not (is_absorb w))) (ne_eqb (length (v ∷ vs)) 0 (λ e. omega arith)) ∙ or_none (not (is_absorb v)))

some_number : (ws : List ℕ) (w : ℕ) → pass_number (ws ++ (w ∷ [])) ≡ number_of (ws ++ (w ∷ []))
some_number [] w = pass_number_law w []
some_number (v ∷ vs) w = pass_number_law v (vs ++ (w ∷ []))

-- the number that words earn with one more is the earlier of what is held and what the word earns
pub number_more : (ws : List ℕ) (w : ℕ) → pass_number (ws ++ (w ∷ [])) ≡ earlier (held_after ws).number (earned (length ws) w)
number_more ws w =
    some_number ws w
    ∙ (λ i. numbers (over_more ws w i) (any_more is_empty ws w i) (any_more is_long ws w i) (squeezes_more ws w i))
    ∙ sym (both_conditions (over ws) (any is_empty ws) (any is_long ws) (squeezes ws) _ _ _ _)
    ∙ ap₂ earlier (sym (held_number ws)) (sym (earned_number (length ws) w))

-- no number: none of the conditions holds
none_holds : (a b c d : Bool) → numbers a b c d ≡ accepted → (a ≡ false) × (b ≡ false) × (c ≡ false)
unfolding numbers first_number when◌then◌else◌
none_holds true b c d e = absurd (omega arith)
none_holds false true c d e = absurd (omega arith)
none_holds false false true d e = absurd (omega arith)
none_holds false false false d e = (refl, refl, refl)

pub earlier_zero : (a b : ℕ) → earlier a b ≡ accepted → (a ≡ accepted) × (b ≡ accepted)
unfolding earlier
earlier_zero a b e =
    cases
    (eqb a accepted)
    (λ x. (eqb-true a accepted x, sym (if_true _ _ _ x) ∙ e))
    (λ x.
    let some = eqb-false a accepted x in
    absurd
    (cases
    (eqb b accepted)
    (λ y. some (sym (if_false _ _ _ x ∙ if_true _ _ _ y) ∙ e))
    (λ y.
    let other = eqb-false b accepted y in
    let both = sym (if_false _ _ _ x ∙ if_false _ _ _ y) ∙ e in
    cases (ltb (rank b) (rank a)) (λ l. other (sym (if_true _ _ _ l) ∙ both)) (λ l. some (sym (if_false _ _ _ l) ∙ both)))))

-- a word that earns none is within the limit, behind fewer than 64
pub earned_none : (n w : ℕ) → earned n w ≡ accepted → (n < 64) × (length_of w ≤ 16777216)
earned_none n w e =
    let (few, _, short) = none_holds _ _ _ _ (sym (earned_number n w) ∙ e) in
    (leb-false 64 n few, ltb-false 16777216 (length_of w) short)

-- ---- the words that are held

-- what holds of words while no number is held
pub record Free (ws : List ℕ) : Type 0 where
  pub few : length ws ≤ 64
  pub some : any is_empty ws ≡ false
  pub short : any is_long ws ≡ false

module _ (ws : List ℕ) (e : (held_after ws).number ≡ accepted) where
  pub free : Free ws
  free =
      let (few, some, short) = none_holds _ _ _ _ (sym (held_number ws) ∙ e) in
      record { few = ltb-false 64 (length ws) few; some = some; short = short }

  pub held_fits : any too_long (phases ws) ≡ false
  held_fits = phases_fit ws free.few free.short

pub held_merged : (ws : List ℕ) → (held_after ws).number ≡ accepted → held_after ws ≡ with_words accepted (merged_words ws)
unfolding held_after passed answer_with with_words merged_words phases merge
held_merged [] e = refl
held_merged (w ∷ ws) e = answer_accepted (pass_number (w ∷ ws)) (merged_words (w ∷ ws)) e

-- merging behind merged words
merged_behind : (ws : List ℕ) (w : ℕ) → Free ws → merged_words (merged_words ws ++ (w ∷ [])) ≡ merged_words (ws ++ (w ∷ []))
unfolding merged_words phases merge
merged_behind [] w f = refl
merged_behind (v ∷ vs) w f =
    let ws = v ∷ vs in
    ap (map word_of)
    (phases_snoc (merged_words ws) w
    ∙ ap (λ (ps : List Phase). add_last ps (phase_of w)) (merged_again v vs f.some (phases_fit ws f.few f.short))
    ∙ sym (phases_snoc ws w))

-- ---- the step

-- a number that is held or earned
pub step_number : (n : ℕ) (held : WordList) (w k : ℕ) → earlier held.number (earned n w) ≡ k → k ≢ accepted → pass_step n held w ≡ with_words k []
unfolding pass_step
step_number n held w k e some = answer_refused _ k _ e (ne_eqb k accepted some)

-- none
step_merges : (n : ℕ) (held : WordList) (w : ℕ) → earlier held.number (earned n w) ≡ accepted
    → pass_step n held w ≡ with_words accepted (merged_words (take held.count held.words ++ (w ∷ [])))
unfolding pass_step
step_merges n held w e = answer_accepted _ _ e

module _ (more : List ℕ) where
  passed_number : (k : ℕ) → pass_number more ≡ k → k ≢ accepted → passed more ≡ with_words k []
  unfolding passed
  passed_number k e some = answer_refused _ k _ e (ne_eqb k accepted some)

  passed_words : pass_number more ≡ accepted → passed more ≡ with_words accepted (merged_words more)
  unfolding passed
  passed_words e = answer_accepted _ _ e

-- the equation at every prefix: one word more takes what is held to what is held then
pub step_holds : (ws : List ℕ) (w : ℕ) → pass_step (length ws) (held_after ws) w ≡ passed (ws ++ (w ∷ []))
step_holds ws w =
    let k = earlier (held_after ws).number (earned (length ws) w) in
    cases
    (eqb k accepted)
    (λ e.
    let none = eqb-true k accepted e in
    let held = (earlier_zero _ _ none).0 in
    let words = ap (λ (m : WordList). take m.count m.words) (held_merged ws held) ∙ words_used accepted (merged_words ws) in
    step_merges (length ws) (held_after ws) w none
    ∙ ap (λ (l : List ℕ). with_words accepted (merged_words (l ++ (w ∷ [])))) words
    ∙ ap (with_words accepted) (merged_behind ws w (free ws held))
    ∙ sym (passed_words (ws ++ (w ∷ [])) (number_more ws w ∙ none)))
    (λ e.
    let some = eqb-false k accepted e in
    step_number (length ws) (held_after ws) w k refl some ∙ sym (passed_number (ws ++ (w ∷ [])) k (number_more ws w) some))

-- and where it leads to no number, to the merged words
pub merges_more : (ws : List ℕ) (w : ℕ) → earlier (held_after ws).number (earned (length ws) w) ≡ accepted
    → passed (ws ++ (w ∷ [])) ≡ with_words accepted (merged_words (ws ++ (w ∷ [])))
merges_more ws w e = passed_words (ws ++ (w ∷ [])) (number_more ws w ∙ e)

-- ---- what a number, a list and a count hold together

module _ (number count : ℕ) (list : List ℕ) where
  pub holding_number : (holding number list count).number ≡ number
  unfolding holding
  holding_number = refl

  pub holding_words : number ≡ accepted → holding number list count ≡ record { number = accepted; words = list; count = count }
  unfolding holding
  holding_words e = λ i. record { number = e i; words = if_true _ list (replicate 64 0) (eq-eqb _ _ e) i; count = count }

  pub holding_refused : number ≢ accepted → count ≡ 0 → holding number list count ≡ with_words number []
  unfolding holding with_words
  holding_refused n z = λ i. record { number = number; words = if_false _ list (replicate 64 0) (ne_eqb _ _ n) i; count = z i }

-- a list that holds merged words is what the pass has at hand while no number is held
module _ (ws list : List ℕ) (number count : ℕ) (h : holding number list count ≡ held_after ws) (e : number ≡ accepted) where
  pub none_held_yet : (held_after ws).number ≡ accepted
  none_held_yet = sym (ap (λ (m : WordList). m.number) h) ∙ holding_number number count list ∙ e

  pub holding_holds : Holds ws list count
  holding_holds = record { holds = sym (held_merged ws none_held_yet) ∙ sym h ∙ holding_words number count list e }

  pub holding_few : count ≤ length ws
  holding_few = holds_few ws list count holding_holds

  -- its last word has the elements of as many calls at most
  pub holding_within : count ≢ 0 → length_of (get_or list (count - 1) 0) ≤ length ws * 16777216
  holding_within some =
      let f = free ws none_held_yet in
      rw (last_held ws list count holding_holds some) (merged_words_within ws f.few f.short (length (merged_words ws) - 1))

-- ---- the pass, word by word

pub begins : holding accepted (replicate 64 0) 0 ≡ held_after []
unfolding holding held_after with_words when◌then◌else◌
begins = refl

held_some : (ws : List ℕ) (w : ℕ) → held_after (ws ++ (w ∷ [])) ≡ passed (ws ++ (w ∷ []))
unfolding held_after
held_some [] w = refl
held_some (v ∷ vs) w = refl

-- one word more of a list
pub next_word : (words : List ℕ) (i : ℕ) → i < length words
    → pass_step i (held_after (take i words)) (get_or words i 0) ≡ held_after (take (i + 1) words)
next_word words i h =
    let w = get_or words i 0 in
    let long : length (take i words) ≡ i = length-take-le i words (omega arith) in
    ap (λ (n : ℕ). pass_step n (held_after (take i words)) w) (sym long)
    ∙ step_holds (take i words) w
    ∙ sym (held_some (take i words) w)
    ∙ ap held_after (sym (take-suc words i 0 h) ∙ ap (λ (n : ℕ). take n words) (sym (add-one i)))

-- over 64 words it is settled
pub held_over : (ws : List ℕ) → 64 < length ws → held_after ws ≡ with_words word_count_out_of_range []
unfolding held_after numbers first_number
held_over [] h = absurd (omega arith)
held_over (v ∷ vs) h =
    passed_number (v ∷ vs) word_count_out_of_range (pass_number_law v vs ∙ if_true _ _ _ (lt-ltb 64 (length (v ∷ vs)) h)) (λ e. omega arith)

-- so the first 65 words tell
pub held_65 : (ws : List ℕ) → held_after (take (min (length ws) 65) ws) ≡ held_after ws
held_65 ws =
    cases
    (leb (length ws) 65)
    (λ e. let l = leb-true (length ws) 65 e in ap held_after (take_all (min (length ws) 65) ws (omega arith)))
    (λ e.
    let l = leb-false (length ws) 65 e in
    let all : min (length ws) 65 ≡ 65 = omega arith in
    ap (λ (n : ℕ). held_after (take n ws)) all
    ∙ held_over (take 65 ws) (omega (arith, length-take-le 65 ws (omega arith)))
    ∙ sym (held_over ws (omega arith)))

-- words one after the other
pub pass_from_law : (ws vs : List ℕ) → pass_from (length ws) (held_after ws) vs ≡ held_after (ws ++ vs)
unfolding pass_from
pass_from_law ws [] = ap held_after (sym (append-nil ws))
pass_from_law ws (v ∷ vs) =
    let longer = length-append ws (v ∷ []) ∙ add-one (length ws) in
    ap₂ (λ (n : ℕ) (m : WordList). pass_from n m vs) (sym longer) (step_holds ws v ∙ sym (held_some ws v))
    ∙ pass_from_law (ws ++ (v ∷ [])) vs
    ∙ ap held_after (append_snoc ws v vs)
