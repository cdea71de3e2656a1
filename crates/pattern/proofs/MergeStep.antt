-- Merging from the first word on: the merged pattern with one word more.
-- Assumes nothing.
use mathlib.Core.Path.{◌≡◌, refl, sym, ap, ◌∙◌}
use mathlib.Core.Bool.{Bool, true, false}
use mathlib.Core.List.{List, [], ◌∷◌, ◌++◌, map, map-append, append_assoc}
use Prim.Native.Nat.{ℕ, suc, ◌+◌, ◌-◌, ◌≤◌, ◌<◌}
use native.Mathlib.Nat.{add_assoc, not-suc-le-zero}
use native.Mathlib.Omega.{arith}
use borrow.Author.Tests.{ltb-false}
use lib.ListN.{length, get_or, set, length-append, length-map}
use lib.Seq.{take_all, get_or_at, set_at}
use Rattle.basics.specs.Logic.{when◌then◌else◌, same, any}
use Rattle.basics.proofs.Cases.{by, if_true, if_false, or_false, any_append}
use Rattle.words.specs.Words.{is_absorb, length_of, Phase, phase_of, word_of}
use Rattle.pattern.specs.Pattern.{join, merge, phases, merged_words, too_long}
use Rattle.words.proofs.WordKinds.{word_kind, word_longer, word_of_phase}

-- two calls of one kind, added
abbrev both : Phase → Phase → Phase
both a b = record { absorbs = a.absorbs; elements = a.elements + b.elements }

-- two calls, merged
unfoldable pub pair : Phase → Phase → List Phase
pair a b = when same a.absorbs b.absorbs then both a b ∷ [] else a ∷ b ∷ []

-- a call behind a merged pattern
unfoldable pub add_last : List Phase → Phase → List Phase
add_last [] a = a ∷ []
add_last (b ∷ []) a = pair b a
add_last (b ∷ c ∷ cs) a = b ∷ add_last (c ∷ cs) a

-- a call of so many elements
abbrev call : Bool → ℕ → Phase
call k n = record { absorbs = k; elements = n }

join_pair : (i j k : Bool) (l m n : ℕ) → join (call i l) (pair (call j m) (call k n)) ≡ add_last (join (call i l) (call j m ∷ [])) (call k n)
unfolding join pair add_last same when◌then◌else◌
join_pair true true true l m n = ap (λ (s : ℕ). call true s ∷ []) (sym (add_assoc l m n))
join_pair true true false l m n = refl
join_pair true false true l m n = refl
join_pair true false false l m n = refl
join_pair false true true l m n = refl
join_pair false true false l m n = refl
join_pair false false true l m n = refl
join_pair false false false l m n = ap (λ (s : ℕ). call false s ∷ []) (sym (add_assoc l m n))

-- a call before, and a call behind
join_add_last : (a : Phase) (ps : List Phase) (c : Phase) → join a (add_last ps c) ≡ add_last (join a ps) c
unfolding join pair add_last
join_add_last a [] c = refl
join_add_last a (b ∷ []) c = join_pair a.absorbs b.absorbs c.absorbs a.elements b.elements c.elements
join_add_last a (b ∷ d ∷ ps) c =
    by (λ (l : List Phase). l ≡ add_last (when same a.absorbs b.absorbs then both a b ∷ d ∷ ps else a ∷ b ∷ d ∷ ps) c) _ _ _
    (λ e. sym (ap (λ (l : List Phase). add_last l c) (if_true _ _ _ e)))
    λ e. sym (ap (λ (l : List Phase). add_last l c) (if_false _ _ _ e))

merge_snoc : (ps : List Phase) (a : Phase) → merge (ps ++ (a ∷ [])) ≡ add_last (merge ps) a
unfolding merge join add_last
merge_snoc [] a = refl
merge_snoc (b ∷ ps) a = ap (join b) (merge_snoc ps a) ∙ join_add_last b (merge ps) a

pub phases_snoc : (ws : List ℕ) (w : ℕ) → phases (ws ++ (w ∷ [])) ≡ add_last (phases ws) (phase_of w)
unfolding phases
phases_snoc ws w = ap merge (map-append phase_of ws (w ∷ [])) ∙ merge_snoc (map phase_of ws) (phase_of w)

pub add_last_snoc : (front : List Phase) (b a : Phase) → add_last (front ++ (b ∷ [])) a ≡ front ++ pair b a
unfolding add_last
add_last_snoc [] b a = refl
add_last_snoc (c ∷ []) b a = refl
add_last_snoc (c ∷ d ∷ front) b a = ap (λ (l : List Phase). c ∷ l) (add_last_snoc (d ∷ front) b a)

-- a list that is not empty, its last element apart
pub record Last (ps : List Phase) : Type 0 where
  pub front : List Phase
  pub last : Phase
  pub split : ps ≡ front ++ (last ∷ [])

pub last_of : (ps : List Phase) → 0 < length ps → Last ps
last_of [] h = absurd (not-suc-le-zero h)
last_of (a ∷ []) h = record { front = []; last = a; split = refl }
last_of (a ∷ b ∷ ps) h =
    let l = last_of (b ∷ ps) (omega arith) in
    record { front = a ∷ l.front; last = l.last; split = ap (λ (r : List Phase). a ∷ r) l.split }

-- merging makes no list longer
join_length : (a : Phase) (ps : List Phase) → length (join a ps) ≤ suc (length ps)
unfolding join
join_length a [] = omega arith
join_length a (b ∷ bs) = by (λ (l : List Phase). length l ≤ suc (suc (length bs))) _ _ _ (λ _. omega arith) λ _. omega arith

merge_length : (ps : List Phase) → length (merge ps) ≤ length ps
unfolding merge
merge_length [] = omega arith
merge_length (a ∷ ps) = omega (arith, join_length a (merge ps), merge_length ps)

pub merged_words_length : (ws : List ℕ) → length (merged_words ws) ≤ length ws
unfolding merged_words phases
merged_words_length ws = rw (length-map (merge (map phase_of ws)) word_of) (rw (length-map ws phase_of) at (merge_length (map phase_of ws)))

-- ---- the merged words, one word more

-- the last merged word
abbrev pub last_word : List ℕ → ℕ
last_word ws = get_or (merged_words ws) (length (merged_words ws) - 1) 0

module _ (ws : List ℕ) (w : ℕ) where
  abbrev more : List ℕ
  more = ws ++ (w ∷ [])

  -- the word stands behind the merged words
  appended : w < 4294967296 → phases more ≡ phases ws ++ (phase_of w ∷ []) → merged_words more ≡ merged_words ws ++ (w ∷ [])
  unfolding merged_words
  appended bound e = ap (map word_of) e ∙ map-append word_of (phases ws) (phase_of w ∷ []) ∙ rw (word_of_phase w bound)

  -- ABSORB or SQUEEZE behind no words
  pub step_first : w < 4294967296 → length (merged_words ws) ≡ 0 → merged_words more ≡ merged_words ws ++ (w ∷ [])
  unfolding merged_words add_last
  step_first bound e =
      let none : phases ws ≡ [] = sym (take_all 0 (phases ws) (omega (arith, e, length-map (phases ws) word_of))) in
      appended bound
      (phases_snoc ws w
      ∙ ap (λ (ps : List Phase). add_last ps (phase_of w)) none
      ∙ sym (ap (λ (ps : List Phase). ps ++ (phase_of w ∷ [])) none))

  module _ (bound : w < 4294967296) (fine : any too_long (phases ws) ≡ false) (some : 0 < length (merged_words ws)) where
    last : Last (phases ws)
    unfolding merged_words
    last = last_of (phases ws) (rw (length-map (phases ws) word_of) at some)

    abbrev b : Phase
    b = last.last

    abbrev front : List Phase
    front = last.front

    fits : b.elements < 2147483648
    unfolding any too_long
    fits =
        let apart = or_false _ _ (sym (any_append too_long front (b ∷ [])) ∙ sym (ap (any too_long) last.split) ∙ fine) in
        omega (arith, ltb-false 2147483647 b.elements (or_false _ _ apart.1).0)

    words_split : merged_words ws ≡ map word_of front ++ (word_of b ∷ [])
    unfolding merged_words
    words_split = ap (map word_of) last.split ∙ map-append word_of front (b ∷ [])

    place : length (map word_of front) ≡ length (merged_words ws) - 1
    place = rw words_split (omega (arith, length-append (map word_of front) (word_of b ∷ [])))

    last_word_law : last_word ws ≡ word_of b
    last_word_law = ap (λ (l : List ℕ). get_or l (length (merged_words ws) - 1) 0) words_split ∙ get_or_at (map word_of front) (word_of b) [] 0 _ place

    kinds : (k : Bool) → same (is_absorb (last_word ws)) (is_absorb w) ≡ k → same b.absorbs (is_absorb w) ≡ k
    kinds k e = sym (ap (λ (j : Bool). same j (is_absorb w)) (ap is_absorb last_word_law ∙ word_kind b fits)) ∙ e

    phases_more : phases more ≡ front ++ pair b (phase_of w)
    phases_more = phases_snoc ws w ∙ ap (λ (ps : List Phase). add_last ps (phase_of w)) last.split ∙ add_last_snoc front b (phase_of w)

    pub step_other_kind : same (is_absorb (last_word ws)) (is_absorb w) ≡ false → merged_words more ≡ merged_words ws ++ (w ∷ [])
    unfolding pair phase_of
    step_other_kind e =
        appended bound
        (phases_more
        ∙ ap (λ (ps : List Phase). front ++ ps) (if_false _ _ _ (kinds false e))
        ∙ sym (append_assoc front (b ∷ []) (phase_of w ∷ []))
        ∙ sym (ap (λ (ps : List Phase). ps ++ (phase_of w ∷ [])) last.split))

    lengthened : same (is_absorb (last_word ws)) (is_absorb w) ≡ true → phases more ≡ front ++ (both b (phase_of w) ∷ [])
    unfolding pair phase_of
    lengthened e = phases_more ∙ ap (λ (ps : List Phase). front ++ ps) (if_true _ _ _ (kinds true e))

    pub step_same_kind : same (is_absorb (last_word ws)) (is_absorb w) ≡ true
        → merged_words more ≡ set (merged_words ws) (length (merged_words ws) - 1) (last_word ws + length_of w)
    unfolding merged_words phase_of
    step_same_kind e =
        let before = map word_of front in
        let v : word_of (both b (phase_of w)) ≡ last_word ws + length_of w =
        sym (word_longer b (length_of w)) ∙ sym (ap (λ (x : ℕ). x + length_of w) last_word_law) in
        ap (map word_of) (lengthened e)
        ∙ map-append word_of front (both b (phase_of w) ∷ [])
        ∙ ap (λ (x : ℕ). before ++ (x ∷ [])) v
        ∙ sym (set_at before (word_of b) [] (last_word ws + length_of w) _ place)
        ∙ sym (ap (λ (l : List ℕ). set l (length (merged_words ws) - 1) (last_word ws + length_of w)) words_split)
