-- Laws of the answers that hold words.
-- Assumes nothing.
use mathlib.Core.Path.{◌≡◌, refl, sym, ap, ◌∙◌}
use mathlib.Core.Bool.{Bool, true, false}
use mathlib.Core.List.{List, [], ◌∷◌, ◌++◌}
use mathlib.Core.Logic.{◌≢◌}
use Prim.Native.Nat.{ℕ, ◌+◌, ◌-◌, ◌≤◌, ◌<◌}
use native.Mathlib.Omega.{arith}
use lib.ListN.{length, get_or, take, set, replicate, length-append, length-set, get_or-append}
use lib.Seq.{take-append_seam, set-append_left}
use Rattle.basics.specs.Logic.{same, any}
use Rattle.basics.specs.Numbers.{accepted}
use Rattle.basics.proofs.Zeros.{push_number}
use Rattle.words.specs.Words.{is_absorb, length_of}
use Rattle.pattern.specs.Pattern.{phases, merged_words, too_long}
use Rattle.pattern.specs.Opening.{with_words}
use Rattle.pattern.specs.Steps.{Holds}
use Rattle.pattern.specs.Opening.{WordList}
use Rattle.pattern.proofs.MergeStep.{merged_words_length, last_word, step_first, step_other_kind, step_same_kind}

-- an answer with another word at a place, and another count
abbrev changed : WordList → ℕ → ℕ → ℕ → WordList
changed m i w count = record { number = m.number; words = set m.words i w; count = count }

module _ (n : ℕ) (ws : List ℕ) where
  pub count_at : (with_words n ws).count ≡ length ws
  unfolding with_words
  count_at = refl

  pub word_at_law : (i : ℕ) → i < length ws → get_or (with_words n ws).words i 0 ≡ get_or ws i 0
  unfolding with_words
  word_at_law i h = get_or-append ws (replicate (64 - length ws) 0) 0 i h

  pub count_within : (with_words n ws).count ≤ length (with_words n ws).words
  unfolding with_words
  count_within = omega (arith, length-append ws (replicate (64 - length ws) 0))

  pub words_used : take (with_words n ws).count (with_words n ws).words ≡ ws
  unfolding with_words
  words_used = take-append_seam ws (replicate (64 - length ws) 0)

  -- one word more, where there is room for it
  pub push : (w : ℕ) → length ws < 64 → changed (with_words n ws) (length ws) w (length ws + 1) ≡ with_words n (ws ++ (w ∷ []))
  unfolding with_words
  push w h = λ i. record { number = n; words = push_number 64 ws w h i; count = sym (length-append ws (w ∷ [])) i }

  -- another word at a place
  pub replace : (i w : ℕ) → i < length ws → changed (with_words n ws) i w (length ws) ≡ with_words n (set ws i w)
  unfolding with_words
  replace i w h =
      let same_length = length-set ws i w in
      let words =
      set-append_left ws (replicate (64 - length ws) 0) i w h
      ∙ sym (ap (λ (k : ℕ). set ws i w ++ replicate (64 - k) 0) same_length) in
      λ j. record { number = n; words = words j; count = sym same_length j }

-- ---- a list that holds merged words

module _ (ws list : List ℕ) (count : ℕ) (h : Holds ws list count) where
  answer : record { number = accepted; words = list; count = count } ≡ with_words accepted (merged_words ws)
  answer = sym h.holds

  counted : count ≡ length (merged_words ws)
  counted = ap (λ (m : WordList). m.count) answer ∙ count_at accepted (merged_words ws)

  pub holds_few : count ≤ length ws
  holds_few = rw counted (merged_words_length ws)

  -- the last word of the list
  pub last_held : count ≢ 0 → get_or list (count - 1) 0 ≡ last_word ws
  last_held some =
      let l : length (merged_words ws) ≢ 0 = rw counted at some in
      ap (λ (m : WordList). get_or m.words (m.count - 1) 0) answer
      ∙ ap (λ (k : ℕ). get_or (with_words accepted (merged_words ws)).words (k - 1) 0) (count_at accepted (merged_words ws))
      ∙ word_at_law accepted (merged_words ws) (length (merged_words ws) - 1) (omega (arith, l))

-- one step of the pass: a list that holds the merged words of ws, and the word w behind them
module _ (ws list : List ℕ) (count w : ℕ) (bound : w < 4294967296) (fine : any too_long (phases ws) ≡ false) (h : Holds ws list count) where
  abbrev more : List ℕ
  more = ws ++ (w ∷ [])

  abbrev last : ℕ
  last = get_or list (count - 1) 0

  pushed : count < 64 → merged_words more ≡ merged_words ws ++ (w ∷ []) → Holds more (set list count w) (count + 1)
  pushed room e =
      let a = answer ws list count h in
      let c = counted ws list count h in
      let same = (λ i. changed (a i) (c i) w (c i + 1)) ∙ push accepted (merged_words ws) w (rw c at room) in
      record { holds = ap (with_words accepted) e ∙ sym same }

  pub first_word : count < 64 → count ≡ 0 → Holds more (set list count w) (count + 1)
  first_word room z = pushed room (step_first ws w bound (sym (counted ws list count h) ∙ z))

  module _ (some : count ≢ 0) where
    words : 0 < length (merged_words ws)
    words = let l : length (merged_words ws) ≢ 0 = rw (counted ws list count h) at some in omega (arith, l)

    last_word_law : last ≡ last_word ws
    last_word_law = last_held ws list count h some

    kinds : (k : Bool) → same (is_absorb last) (is_absorb w) ≡ k → same (is_absorb (last_word ws)) (is_absorb w) ≡ k
    kinds k s = sym (ap (λ (x : ℕ). same (is_absorb x) (is_absorb w)) last_word_law) ∙ s

    pub other_kind : count < 64 → same (is_absorb last) (is_absorb w) ≡ false → Holds more (set list count w) (count + 1)
    other_kind room s = pushed room (step_other_kind ws w bound fine words (kinds false s))

    pub same_kind : same (is_absorb last) (is_absorb w) ≡ true → Holds more (set list (count - 1) (last + length_of w)) count
    same_kind s =
        let a = answer ws list count h in
        let c = counted ws list count h in
        let longer =
        (λ i. changed (a i) (c i - 1) (last_word_law i + length_of w) (c i))
        ∙ replace accepted (merged_words ws) (length (merged_words ws) - 1) (last_word ws + length_of w) (omega (arith, words)) in
        record { holds = ap (with_words accepted) (step_same_kind ws w bound fine words (kinds true s)) ∙ sym longer }
