-- The cut words merge to the words cut, and each call is within the limit.
-- Assumes nothing.
use mathlib.Core.Path.{◌≡◌, refl, sym, ap, ap₂, ◌∙◌}
use mathlib.Core.Bool.{Bool, true, false}
use mathlib.Core.List.{List, [], ◌∷◌, ◌++◌, map, map-append}
use Prim.Native.Nat.{ℕ, ◌+◌, ◌<◌}
use native.Mathlib.Nat.{add_assoc, add-zero}
use native.Mathlib.Omega.{arith}
use borrow.Author.Tests.{leb-true, le-ltb}
use lib.Dec.{leb, ltb, eqb}
use Rattle.basics.specs.Logic.{◌or◌, same, all, any}
use Rattle.basics.specs.Lists.{total}
use Rattle.basics.proofs.Cases.{cases, if_true, if_false, and_left, and_right, same_self, or_neither, any_append}
use Rattle.words.specs.Words.{is_absorb, length_of, Phase, phase_of, word_of}
use Rattle.words.proofs.WordKinds.{phase_of_word, word_length, length_below}
use Rattle.pattern.specs.Pattern.{join, merge, phases, merged_words}
use Rattle.cutting.specs.Cutting.{cut_length, cut_call, cut_words}
use Rattle.cutting.specs.Steps.{calls_of}
use Rattle.cutting.proofs.Lengths.{cut_total, cut_within, cut_most, cut_empty, cut_some}

-- a call of so many elements
abbrev call : Bool → ℕ → Phase
call k n = record { absorbs = k; elements = n }

-- ---- calls of one kind, one behind the other

join_twice : (k : Bool) (l m : ℕ) (ps : List Phase) → join (call k l) (join (call k m) ps) ≡ join (call k (l + m)) ps
unfolding join
join_twice k l m [] = if_true _ _ _ (same_self k)
join_twice k l m (b ∷ bs) =
    cases (same k b.absorbs)
    (λ e.
    ap (join (call k l)) (if_true _ _ _ e)
    ∙ if_true _ _ _ (same_self k)
    ∙ ap (λ (n : ℕ). call k n ∷ bs) (sym (add_assoc l m b.elements))
    ∙ sym (if_true _ _ _ e))
    λ e. ap (join (call k l)) (if_false _ _ _ e) ∙ if_true _ _ _ (same_self k) ∙ sym (if_false _ _ _ e)

-- calls of one kind merge to one with all their elements
merge_calls : (k : Bool) (n : ℕ) (ns : List ℕ) (ps : List Phase) → merge (map (call k) (n ∷ ns) ++ ps) ≡ join (call k (total (n ∷ ns))) (merge ps)
unfolding merge total
merge_calls k n [] ps = ap (λ (m : ℕ). join (call k m) (merge ps)) (sym (add-zero n))
merge_calls k n (m ∷ ns) ps = ap (join (call k n)) (merge_calls k m ns ps) ∙ join_twice k n (total (m ∷ ns)) (merge ps)

-- ---- lengths of calls

module _ (k : Bool) (b : ℕ) (fits : b < 2147483648) where
  -- calls that are read from their words
  calls_read : (ns : List ℕ) → all (λ m. leb m b) ns ≡ true → map phase_of (map word_of (map (call k) ns)) ≡ map (call k) ns
  unfolding all
  calls_read [] e = refl
  calls_read (m ∷ ns) e =
      let short = leb-true m b (and_left _ _ e) in
      ap₂ (λ (a : Phase) (l : List Phase). a ∷ l) (phase_of_word (call k m) (omega arith)) (calls_read ns (and_right _ _ e))

  -- what is asked of the lengths of words
  lengths_asked : (f : ℕ → Bool) (ns : List ℕ) → all (λ m. leb m b) ns ≡ true → any (λ w. f (length_of w)) (map word_of (map (call k) ns)) ≡ any f ns
  unfolding all any
  lengths_asked f [] e = refl
  lengths_asked f (m ∷ ns) e =
      let short = leb-true m b (and_left _ _ e) in
      ap₂ (λ (x y : Bool). x or y) (ap f (word_length (call k m) (omega arith))) (lengths_asked f ns (and_right _ _ e))

none_over : (limit : ℕ) (ns : List ℕ) → all (λ m. leb m limit) ns ≡ true → any (λ m. ltb limit m) ns ≡ false
unfolding all any
none_over limit [] e = refl
none_over limit (m ∷ ns) e =
    or_neither _ _ (le-ltb limit m (leb-true m limit (and_left _ _ e))) (none_over limit ns (and_right _ _ e))

module _ (limit : ℕ) (some : 0 < limit) where
  -- a call, cut, merges to the call
  merge_cut : (a : Phase) (ps : List Phase) → merge (cut_call limit a ++ ps) ≡ join a (merge ps)
  unfolding cut_call
  merge_cut a ps =
      let (first, others, e) = cut_some limit some a.elements in
      ap (λ (ns : List ℕ). merge (map (call a.absorbs) ns ++ ps)) e
      ∙ merge_calls a.absorbs first others ps
      ∙ ap (λ (n : ℕ). join (call a.absorbs n) (merge ps)) (sym (ap total e) ∙ cut_total limit some a.elements)

  calls_of_word : (w : ℕ) → map phase_of (calls_of limit w) ≡ cut_call limit (phase_of w)
  unfolding cut_call phase_of
  calls_of_word w = calls_read (is_absorb w) (length_of w) (length_below w) (cut_length limit (length_of w)) (cut_most limit some (length_of w))

  -- the cut words merge as the words do
  pub phases_cut : (ws : List ℕ) → phases (cut_words limit ws) ≡ phases ws
  unfolding phases cut_words merge
  phases_cut [] = refl
  phases_cut (w ∷ ws) =
      ap merge (map-append phase_of (calls_of limit w) (cut_words limit ws))
      ∙ ap (λ (ps : List Phase). merge (ps ++ map phase_of (cut_words limit ws))) (calls_of_word w)
      ∙ merge_cut (phase_of w) (map phase_of (cut_words limit ws))
      ∙ ap (join (phase_of w)) (phases_cut ws)

  pub merged_cut : (ws : List ℕ) → merged_words (cut_words limit ws) ≡ merged_words ws
  unfolding merged_words
  merged_cut ws = ap (map word_of) (phases_cut ws)

  -- what is asked of the lengths of a word's calls
  word_asked : (f : ℕ → Bool) (w : ℕ) → any (λ v. f (length_of v)) (calls_of limit w) ≡ any f (cut_length limit (length_of w))
  unfolding cut_call phase_of
  word_asked f w = lengths_asked (is_absorb w) (length_of w) (length_below w) f (cut_length limit (length_of w)) (cut_most limit some (length_of w))

  -- no call is over the limit
  pub cut_words_within : (ws : List ℕ) → any (λ w. ltb limit (length_of w)) (cut_words limit ws) ≡ false
  unfolding cut_words any
  cut_words_within [] = refl
  cut_words_within (w ∷ ws) =
      any_append (λ v. ltb limit (length_of v)) (calls_of limit w) (cut_words limit ws)
      ∙ or_neither _ _
      (word_asked (λ m. ltb limit m) w ∙ none_over limit (cut_length limit (length_of w)) (cut_within limit some (length_of w)))
      (cut_words_within ws)

  -- a call is empty where a word is
  pub cut_words_empty : (ws : List ℕ) → any (λ w. eqb (length_of w) 0) (cut_words limit ws) ≡ any (λ w. eqb (length_of w) 0) ws
  unfolding cut_words any
  cut_words_empty [] = refl
  cut_words_empty (w ∷ ws) =
      any_append (λ v. eqb (length_of v) 0) (calls_of limit w) (cut_words limit ws)
      ∙ ap₂ (λ (x y : Bool). x or y) (word_asked (λ m. eqb m 0) w ∙ cut_empty limit some (length_of w)) (cut_words_empty ws)
