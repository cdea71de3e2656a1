-- Merging adds: n calls that are within a limit merge to calls within n times the limit. So 64 declared calls fit a word of 31 bits, merged.
-- Assumes nothing.
use mathlib.Core.Path.{◌≡◌, refl}
use mathlib.Core.Bool.{false}
use mathlib.Core.List.{List, [], ◌∷◌, map}
use Prim.Native.Nat.{ℕ, zero, suc, ◌+◌, ◌*◌, ◌≤◌}
use native.Mathlib.Nat.{suc-mul}
use native.Mathlib.Omega.{arith}
use borrow.Author.Tests.{ltb-false, le-ltb}
use lib.Dec.{ltb}
use lib.ListN.{length, get_or, length-map}
use Rattle.basics.specs.Logic.{any}
use Rattle.basics.proofs.Cases.{by, or_false, or_neither}
use Rattle.words.specs.Words.{length_of, Phase, phase_of, word_of}
use Rattle.words.proofs.WordKinds.{word_length}
use Rattle.pattern.specs.Pattern.{max_words, join, merge, phases, merged_words, too_long}
use Rattle.pattern.specs.Opening.{max_call}

-- each call is within a bound
abbrev pub Within : ℕ → List Phase → Type 0
Within bound ps = any (λ a. ltb bound a.elements) ps ≡ false

-- each word's length is
abbrev pub WordsWithin : ℕ → List ℕ → Type 0
WordsWithin bound ws = any (λ w. ltb bound (length_of w)) ws ≡ false

pub within_more : (b c : ℕ) (ps : List Phase) → b ≤ c → Within b ps → Within c ps
unfolding any
within_more b c [] h e = refl
within_more b c (a ∷ ps) h e =
    let o = or_false _ _ e in
    or_neither _ _ (le-ltb c a.elements (omega (arith, ltb-false b a.elements o.0))) (within_more b c ps h o.1)

join_within : (l b : ℕ) (a : Phase) (ps : List Phase) → a.elements ≤ l → Within b ps → Within (b + l) (join a ps)
unfolding join any
join_within l b a [] h e = or_neither _ _ (le-ltb (b + l) a.elements (omega arith)) refl
join_within l b a (c ∷ cs) h e =
    let o = or_false _ _ e in
    by (Within (b + l)) _ _ _
    (λ _.
    or_neither _ _ (le-ltb (b + l) (a.elements + c.elements) (omega (arith, ltb-false b c.elements o.0)))
    (within_more b (b + l) cs (omega arith) o.1))
    λ _. or_neither _ _ (le-ltb (b + l) a.elements (omega arith)) (within_more b (b + l) (c ∷ cs) (omega arith) e)

merge_within : (l : ℕ) (ps : List Phase) → Within l ps → Within (length ps * l) (merge ps)
unfolding merge any
merge_within l [] e = refl
merge_within l (a ∷ ps) e =
    let o = or_false _ _ e in
    rw (suc-mul (length ps) l) (join_within l (length ps * l) a (merge ps) (ltb-false l a.elements o.0) (merge_within l ps o.1))

calls_within : (l : ℕ) (ws : List ℕ) → WordsWithin l ws → Within l (map phase_of ws)
unfolding any phase_of
calls_within l [] e = refl
calls_within l (w ∷ ws) e = let o = or_false _ _ e in or_neither _ _ o.0 (calls_within l ws o.1)

-- for any limit, and any number of words
pub phases_within : (limit : ℕ) (ws : List ℕ) → WordsWithin limit ws → Within (length ws * limit) (phases ws)
unfolding phases
phases_within limit ws e =
    rw (length-map ws phase_of) at (merge_within limit (map phase_of ws) (calls_within limit ws e))

-- for 64 words and the limit of a declared call
pub phases_fit : (ws : List ℕ) → length ws ≤ max_words → WordsWithin max_call ws → any too_long (phases ws) ≡ false
unfolding too_long
phases_fit ws few e = within_more _ 2147483647 (phases ws) (omega arith) (phases_within max_call ws e)

-- the same of merged words
words_within : (b : ℕ) (ps : List Phase) → Within b ps → any too_long ps ≡ false → (i : ℕ) → length_of (get_or (map word_of ps) i 0) ≤ b
unfolding any too_long length_of
words_within b [] e fine i = omega arith
words_within b (a ∷ ps) e fine zero =
    let short = ltb-false 2147483647 a.elements (or_false _ _ fine).0 in
    rw (word_length a (omega arith)) (ltb-false b a.elements (or_false _ _ e).0)
words_within b (a ∷ ps) e fine (suc i) = words_within b ps (or_false _ _ e).1 (or_false _ _ fine).1 i

pub merged_words_within : (ws : List ℕ) → length ws ≤ max_words → WordsWithin max_call ws → (i : ℕ) → length_of (get_or (merged_words ws) i 0) ≤ length ws * max_call
unfolding merged_words
merged_words_within ws few e = words_within (length ws * max_call) (phases ws) (phases_within max_call ws e) (phases_fit ws few e)
