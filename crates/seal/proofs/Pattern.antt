-- The words of a note are a merged pattern that START accepts.
-- Assumes nothing.
use mathlib.Core.Path.{◌≡◌, refl, ap, ◌∙◌}
use mathlib.Core.Bool.{Bool, true, false, not}
use mathlib.Core.List.{List, [], ◌∷◌}
use Prim.Native.Nat.{ℕ, ◌+◌, ◌*◌, ◌≤◌, ◌<◌}
use native.Mathlib.Omega.{arith}
use borrow.Author.Tests.{le-leb, le-ltb}
use lib.Dec.{ltb}
use lib.ListN.{length}
use Rattle.basics.specs.Logic.{same, all, any}
use Rattle.basics.specs.Lists.{Below}
use Rattle.basics.specs.Numbers.{accepted}
use Rattle.basics.proofs.Below.{below_nil, below_cons}
use Rattle.basics.proofs.Cases.{and_left, and_right, and_both, or_neither, same_self}
use Rattle.words.specs.Words.{Phase, length_of, word_of}
use Rattle.words.proofs.WordKinds.{word_kind, word_length, word_below}
use Rattle.pattern.specs.Pattern.{alternate, sound_words, merged_words}
use Rattle.pattern.specs.Opening.{opening, opening_number, max_call}
use Rattle.pattern.proofs.MergedWords.{sound_merged, none_empty, accepts}
use Rattle.pattern.proofs.Soundness.{long}
use Rattle.seal.specs.Seal.{block_words, seal_words}
use Rattle.seal.proofs.Lengths.{declarable, Declarable, length_bounds}

-- words whose kinds alternate, none of them empty or above the limit
record Good (first : Bool) (ws : List ℕ) : Type 0 where
  turns : alternate first ws ≡ true
  longs : all long ws ≡ true
  within : any (λ w. ltb max_call (length_of w)) ws ≡ false
  below : Below 4294967296 ws

good_nil : (first : Bool) → Good first []
unfolding alternate all any
good_nil first = record { turns = refl; longs = refl; within = refl; below = below_nil 4294967296 }

good_cons : (k : Bool) (n : ℕ) (ws : List ℕ) → 1 ≤ n → n ≤ 16777216 → Good (not k) ws → Good k (word_of (record { absorbs = k; elements = n }) ∷ ws)
unfolding alternate all any
good_cons k n ws some few g =
    let a : Phase = record { absorbs = k; elements = n } in
    let fits : n < 2147483648 = omega arith in
    let size : length_of (word_of a) ≡ n = word_length a fits in
    record {
      turns = and_both _ _ (ap (same k) (word_kind a fits) ∙ same_self k) g.turns;
      longs = and_both _ _ (le-leb 1 (length_of (word_of a)) (omega arith)) g.longs;
      within = or_neither _ _ (le-ltb 16777216 (length_of (word_of a)) (omega arith)) g.within;
      below = below_cons _ (word_of a) ws (word_below a fits) g.below;
    }

good_blocks : (ns : List ℕ) → all declarable ns ≡ true → Good false (block_words ns)
unfolding block_words all
good_blocks [] e = good_cons false 8 [] (omega arith) (omega arith) (good_nil true)
good_blocks (n ∷ ns) e =
    let bounds = length_bounds n (and_left _ _ e) in
    good_cons false n _ bounds.0 bounds.1 (good_cons true n _ bounds.0 bounds.1 (good_blocks ns (and_right _ _ e)))

good_words : (ns : List ℕ) → all declarable ns ≡ true → Good true (seal_words ns)
unfolding seal_words
good_words ns e = good_cons true 16 _ (omega arith) (omega arith) (good_blocks ns e)

block_words_count : (ns : List ℕ) → length (block_words ns) ≡ 2 * length ns + 1
unfolding block_words
block_words_count [] = refl
block_words_count (n ∷ ns) = omega (arith, block_words_count ns)

-- "START(IO[2b+2], D)"
pub words_count : (ns : List ℕ) → length (seal_words ns) ≡ 2 * length ns + 2
unfolding seal_words
words_count ns = omega (arith, block_words_count ns)

module _ (ns : List ℕ) (d : Declarable ns) where
  words_sound : sound_words (seal_words ns) ≡ true
  unfolding sound_words
  words_sound =
      let g = good_words ns d.each in
      let count = words_count ns in
      let few = d.few in
      and_both _ _ (le-leb 1 (length (seal_words ns)) (omega arith))
      (and_both _ _ (le-leb (length (seal_words ns)) 64 (omega arith)) (and_both _ _ g.turns g.longs))

  pub words_merged : merged_words (seal_words ns) ≡ seal_words ns
  words_merged = sound_merged (seal_words ns) words_sound (good_words ns d.each).below

  pub words_accepted : (separator : List ℕ) → length separator ≤ 256 → opening_number (opening (seal_words ns) separator) ≡ accepted
  words_accepted separator short =
      let g = good_words ns d.each in
      let few = d.few in
      accepts (opening (seal_words ns) separator) (omega (arith, words_count ns)) (none_empty (seal_words ns) g.longs) g.within (rw words_merged words_sound) short
