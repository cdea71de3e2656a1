-- A word is its kind and its length, and the other way round.
-- Assumes nothing.
use mathlib.Core.Path.{◌≡◌, refl}
use mathlib.Core.Bool.{Bool, true, false}
use Prim.Native.Nat.{ℕ, ◌+◌, ◌<◌}
use native.Mathlib.Omega.{arith}
use borrow.Author.Tests.{le-leb, lt-leb, leb-true, leb-false}
use Rattle.basics.specs.Logic.{when◌then◌else◌}
use Rattle.basics.proofs.Cases.{by}
use Rattle.words.specs.Words.{is_absorb, length_of, Phase, phase_of, word_of}

-- the two kinds apart
if_kind : (k : Bool) (n : ℕ) → n < 2147483648 → is_absorb (when k then 2147483648 + n else n) ≡ k
unfolding is_absorb when◌then◌else◌
if_kind true n h = le-leb 2147483648 (2147483648 + n) (omega arith)
if_kind false n h = lt-leb 2147483648 n h

if_length : (k : Bool) (n : ℕ) → n < 2147483648 → length_of (when k then 2147483648 + n else n) ≡ n
unfolding length_of when◌then◌else◌
if_length true n h = omega arith
if_length false n h = omega arith

if_below : (k : Bool) (n : ℕ) → n < 2147483648 → (when k then 2147483648 + n else n) < 4294967296
unfolding when◌then◌else◌
if_below true n h = omega arith
if_below false n h = omega arith

if_longer : (k : Bool) (n m : ℕ) → (when k then 2147483648 + n else n) + m ≡ (when k then 2147483648 + (n + m) else n + m)
unfolding when◌then◌else◌
if_longer true n m = omega arith
if_longer false n m = refl

module _ (a : Phase) (h : a.elements < 2147483648) where
  pub word_kind : is_absorb (word_of a) ≡ a.absorbs
  unfolding word_of
  word_kind = if_kind a.absorbs a.elements h

  pub word_length : length_of (word_of a) ≡ a.elements
  unfolding word_of
  word_length = if_length a.absorbs a.elements h

  pub word_below : word_of a < 4294967296
  unfolding word_of
  word_below = if_below a.absorbs a.elements h

  pub phase_of_word : phase_of (word_of a) ≡ a
  unfolding phase_of
  phase_of_word = λ i. record { absorbs = word_kind i; elements = word_length i }

pub word_longer : (a : Phase) (m : ℕ) → word_of a + m ≡ word_of (record { absorbs = a.absorbs; elements = a.elements + m })
unfolding word_of
word_longer a m = if_longer a.absorbs a.elements m

pub word_of_phase : (w : ℕ) → w < 4294967296 → word_of (phase_of w) ≡ w
unfolding word_of phase_of is_absorb length_of
word_of_phase w h =
    by (λ (v : ℕ). v ≡ w) _ _ _ (λ e. omega (arith, leb-true 2147483648 w e)) λ e. omega (arith, leb-false 2147483648 w e)

pub length_below : (w : ℕ) → length_of w < 2147483648
unfolding length_of
length_below w = omega arith
