-- The tests of sound words, one word after the other.
-- Assumes nothing.
use mathlib.Core.Path.{◌≡◌}
use mathlib.Core.Bool.{Bool, true, false, not}
use mathlib.Core.List.{List, ◌∷◌}
use Prim.Native.Nat.{ℕ, ◌≤◌, ◌<◌}
use borrow.Author.Tests.{leb-true, le-leb, lt-leb}
use lib.Dec.{leb}
use lib.ListN.{length}
use Rattle.basics.specs.Logic.{◌and◌, same, all}
use Rattle.basics.proofs.Cases.{and_left, and_right, and_false}
use Rattle.words.specs.Words.{is_absorb, length_of}
use Rattle.pattern.specs.Pattern.{alternate, sound_words}

-- lengths are at least 1
abbrev pub long : ℕ → Bool
long w = leb 1 (length_of w)

-- kinds alternate, and lengths are at least 1
abbrev pub tests : Bool → List ℕ → Bool
tests first ws = alternate first ws and all long ws

module _ (first : Bool) (w : ℕ) (ws : List ℕ) where
  pub tests_pass : same first (is_absorb w) ≡ true → long w ≡ true → tests first (w ∷ ws) ≡ tests (not first) ws
  unfolding alternate all ◌and◌
  tests_pass e l = rw (e, l)

  pub tests_kind : same first (is_absorb w) ≡ false → tests first (w ∷ ws) ≡ false
  unfolding alternate all ◌and◌
  tests_kind e = rw e

  pub tests_length : long w ≡ false → tests first (w ∷ ws) ≡ false
  unfolding alternate all ◌and◌
  tests_length l = rw l (and_false (alternate first (w ∷ ws)))

module _ (ws : List ℕ) where
  pub too_few : length ws < 1 → sound_words ws ≡ false
  unfolding sound_words ◌and◌
  too_few h = rw (lt-leb 1 (length ws) h)

  pub too_many : 64 < length ws → sound_words ws ≡ false
  unfolding sound_words ◌and◌
  too_many h = rw (lt-leb (length ws) 64 h, and_false)

  pub right_count : 1 ≤ length ws → length ws ≤ 64 → sound_words ws ≡ tests true ws
  unfolding sound_words ◌and◌
  right_count few many = rw (le-leb 1 (length ws) few, le-leb (length ws) 64 many)

  -- what sound words are
  pub record Sound : Type 0 where
    pub few : 1 ≤ length ws
    pub many : length ws ≤ 64
    pub turns : alternate true ws ≡ true
    pub longs : all long ws ≡ true

  pub sound : sound_words ws ≡ true → Sound
  unfolding sound_words
  sound e =
      let r2 = and_right _ _ e in
      let r3 = and_right _ _ r2 in
      record {
        few = leb-true 1 (length ws) (and_left _ _ e);
        many = leb-true (length ws) 64 (and_left _ _ r2);
        turns = and_left _ _ r3;
        longs = and_right _ _ r3;
      }
