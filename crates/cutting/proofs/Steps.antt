-- Cutting, one call after the other.
-- Assumes nothing.
use mathlib.Core.Path.{◌≡◌, refl, sym, ap, ◌∙◌}
use mathlib.Core.List.{List, [], ◌∷◌, ◌++◌, append-nil, append_assoc}
use Prim.Native.Nat.{ℕ, ◌+◌, ◌-◌, ◌≤◌, ◌<◌}
use native.Mathlib.Numerals.{add-one}
use native.Mathlib.Omega.{arith}
use borrow.Author.Tests.{lt-ltb, le-ltb, leb-true, leb-false}
use lib.Dec.{leb, lit<}
use lib.ListN.{length, get_or, take, drop, length-append}
use lib.Seq.{append_snoc, take-suc}
use Rattle.std.proofs.lemmas.List.{take-append-drop}
use Rattle.std.specs.Prelude.{Ok, Err}
use Rattle.basics.specs.Answers.{number_of}
use Rattle.basics.specs.Numbers.{accepted, word_count_out_of_range}
use Rattle.basics.specs.Refusals.{first_number}
use Rattle.basics.specs.declared.Refusal.{Refusal}
use Rattle.basics.proofs.Cases.{cases, if_true, if_false}
use Rattle.words.specs.Words.{length_of}
use Rattle.pattern.specs.Answers.{words_answer}
use Rattle.pattern.specs.Opening.{with_words}
use Rattle.pattern.specs.declared.list.Words.{Words}
use Rattle.pattern.proofs.Given.{answer_accepted, answer_refused}
use Rattle.cutting.specs.Cutting.{cut_words, cut_number, cut_answer}
use Rattle.cutting.specs.Steps.{HasCalls, calls_of}
use Rattle.cutting.proofs.Words.{calls_short, calls_long}

-- ---- the number

pub number_accepted : (ws : List ℕ) → length (cut_words 16777216 ws) ≤ 64 → cut_number ws ≡ accepted
unfolding cut_number first_number
number_accepted ws h = if_false _ _ _ (le-ltb 64 (length (cut_words 16777216 ws)) h)

pub number_refused : (ws : List ℕ) → 64 < length (cut_words 16777216 ws) → cut_number ws ≡ word_count_out_of_range
unfolding cut_number first_number
number_refused ws h = if_true _ _ _ (lt-ltb 64 (length (cut_words 16777216 ws)) h)

-- ---- the calls of a word, behind others

-- a list that had some calls has the first calls of a word behind them, and so much of the word is left
abbrev pub Begun : Words → Words → ℕ → ℕ → Type 0
Begun before list word left =
    (cs : List ℕ) → HasCalls before cs → (ds : List ℕ) × HasCalls list (cs ++ ds) × (ds ++ calls_of 16777216 left ≡ calls_of 16777216 word)

pub begun : (list : Words) (word : ℕ) → Begun list list word word
begun list word cs h = ([], rw (append-nil cs) h, refl)

module _ (before list : Words) (word left : ℕ) (b : Begun before list word left) (fits : left < 4294967296) where
  -- one call of the limit more
  pub begun_more : (next : Words) → 16777216 < length_of left
      → ((cs : List ℕ) → HasCalls list cs → HasCalls next (cs ++ ((left - (length_of left - 16777216)) ∷ [])))
      → Begun before next word (left - 16777216)
  begun_more next long more cs h =
      let (ds, has, is) = b cs h in
      let call = left - (length_of left - 16777216) in (
        ds ++ (call ∷ []),
        rw (append_assoc cs ds (call ∷ [])) at (more (cs ++ ds) has),
        append_snoc ds call (calls_of 16777216 (left - 16777216)) ∙ sym (ap (λ (l : List ℕ). ds ++ l) (calls_long 16777216 left fits (lit< tt) long)) ∙ is,
      )

  -- the last
  pub begun_last : (next : Words) → length_of left ≤ 16777216
      → ((cs : List ℕ) → HasCalls list cs → HasCalls next (cs ++ (left ∷ [])))
      → (cs : List ℕ) → HasCalls before cs → HasCalls next (cs ++ calls_of 16777216 word)
  begun_last next short more cs h =
      let (ds, has, is) = b cs h in
      let last : calls_of 16777216 word ≡ ds ++ (left ∷ []) = sym is ∙ ap (λ (l : List ℕ). ds ++ l) (calls_short 16777216 left fits short) in
      rw (last, sym (append_assoc cs ds (left ∷ []))) (more (cs ++ ds) has)

  -- there is no room for another
  some_left : (first : ℕ) × (rest : List ℕ) × (calls_of 16777216 left ≡ first ∷ rest)
  some_left =
      cases (leb (length_of left) 16777216)
      (λ e. (_, _, calls_short 16777216 left fits (leb-true _ 16777216 e)))
      λ e. (_, _, calls_long 16777216 left fits (lit< tt) (leb-false _ 16777216 e))

  pub begun_full : list.count ≡ 64 → (cs : List ℕ) → HasCalls before cs → 64 < length (cs ++ calls_of 16777216 word)
  begun_full full cs h =
      let (ds, has, is) = b cs h in
      let (first, rest, e) = some_left in
      let whole = ap (λ (l : List ℕ). length (cs ++ l)) (sym is ∙ ap (λ (l : List ℕ). ds ++ l) e) in
      omega (arith, whole, has.counted, length-append cs (ds ++ (first ∷ rest)), length-append ds (first ∷ rest), length-append cs ds)

-- ---- words, one after the other

cut_append : (limit : ℕ) (vs ws : List ℕ) → cut_words limit (vs ++ ws) ≡ cut_words limit vs ++ cut_words limit ws
unfolding cut_words
cut_append limit [] ws = refl
cut_append limit (v ∷ vs) ws =
    ap (λ (l : List ℕ). calls_of limit v ++ l) (cut_append limit vs ws) ∙ sym (append_assoc (calls_of limit v) (cut_words limit vs) (cut_words limit ws))

-- one word more of a list
pub cut_next : (limit : ℕ) (words : List ℕ) (i : ℕ) → i < length words
    → cut_words limit (take (i + 1) words) ≡ cut_words limit (take i words) ++ calls_of limit (get_or words i 0)
unfolding cut_words
cut_next limit words i h =
    let w = get_or words i 0 in
    ap (cut_words limit) (ap (λ (n : ℕ). take n words) (add-one i) ∙ take-suc words i 0 h)
    ∙ cut_append limit (take i words) (w ∷ [])
    ∙ ap (λ (l : List ℕ). cut_words limit (take i words) ++ l) (append-nil (calls_of limit w))

-- ---- the answer

-- all calls are there
pub cut_whole : (words : List ℕ) (list : Words) → HasCalls list (cut_words 16777216 words) → words_answer (Ok list) ≡ cut_answer words
unfolding words_answer cut_answer with_words
cut_whole words list h =
    let few = list.fits in
    (λ i. record { number = accepted; words = h.places i; count = h.counted i })
    ∙ sym (answer_accepted _ _ (number_accepted words (omega (arith, h.counted))))

-- there is no room for those of the first words
pub cut_over : (words : List ℕ) (i : ℕ) (e : Refusal) → number_of e ≡ 1 → 64 < length (cut_words 16777216 (take i words))
    → words_answer (Err e) ≡ cut_answer words
unfolding words_answer cut_answer
cut_over words i e one more =
    let front = cut_words 16777216 (take i words) in
    let rest = cut_words 16777216 (drop i words) in
    let whole = ap (cut_words 16777216) (sym (take-append-drop i words)) ∙ cut_append 16777216 (take i words) (drop i words) in
    ap (λ (n : ℕ). with_words n []) one
    ∙ sym (answer_refused _ word_count_out_of_range _ (number_refused words (omega (arith, ap length whole, length-append front rest))) refl)
