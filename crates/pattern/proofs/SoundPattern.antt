-- The words that a sound record uses: kinds alternate from ABSORB, and lengths are at least 1.
-- Assumes nothing.
use mathlib.Core.Path.{◌≡◌, refl, sym, ap, ◌∙◌}
use mathlib.Core.Bool.{Bool, true, false, not}
use mathlib.Core.List.{List, [], ◌∷◌}
use mathlib.Core.Logic.{◌↔◌}
use Prim.Native.Nat.{ℕ, zero, suc, ◌%◌, ◌≤◌, ◌<◌}
use native.Mathlib.Nat.{le_of_suc-le-suc, not-suc-le-zero}
use native.Mathlib.Omega.{arith}
use borrow.Author.Tests.{leb-true, le-leb}
use lib.Dec.{eqb}
use lib.ListN.{length, get_or, take}
use lib.Seq.{get_or-take, length-take-le}
use Rattle.basics.specs.Logic.{when◌then◌else◌, same, all}
use Rattle.basics.proofs.Cases.{cases, and_left, and_right, and_both, same_self, same_true, all_at}
use Rattle.words.specs.Words.{is_absorb, length_of}
use Rattle.pattern.specs.Pattern.{alternate, sound_words}
use Rattle.pattern.proofs.Soundness.{long, right_count, sound}
use Rattle.pattern.proofs.MergedWords.{first_kind_law}

next_kind : (k : Bool) (ws : List ℕ) (i : ℕ) → alternate k ws ≡ true → suc i < length ws → is_absorb (get_or ws (suc i) 0) ≡ not (is_absorb (get_or ws i 0))
unfolding alternate
next_kind k [] i e h = absurd (not-suc-le-zero h)
next_kind k (w ∷ ws) zero e h =
    first_kind_law (not k) ws (and_right _ _ e) (le_of_suc-le-suc h) ∙ ap not (same_true k (is_absorb w) (and_left _ _ e))
next_kind k (w ∷ ws) (suc i) e h = next_kind (not k) ws i (and_right _ _ e) (le_of_suc-le-suc h)

module _ (words : List ℕ) (count : ℕ) (fits : count ≤ length words) (pattern : sound_words (take count words) ≡ true) where
  used : length (take count words) ≡ count
  used = length-take-le count words fits

  pub word_long : (i : ℕ) → i < count → 0 < length_of (get_or words i 0)
  word_long i h =
      let l = all_at long (take count words) 0 i (sound _ pattern).longs (λ past. absurd (omega (arith, used))) in
      leb-true 1 _ (sym (ap long (get_or-take count words i 0 h)) ∙ l)

  pub begins_absorbing : 0 < count → is_absorb (get_or words 0 0) ≡ true
  begins_absorbing h =
      sym (ap is_absorb (get_or-take count words 0 0 h)) ∙ first_kind_law true (take count words) (sound _ pattern).turns (omega (arith, used))

  pub turns : (i : ℕ) → suc i < count → is_absorb (get_or words (suc i) 0) ≡ not (is_absorb (get_or words i 0))
  turns i h =
      sym (ap is_absorb (get_or-take count words (suc i) 0 h))
      ∙ next_kind true (take count words) i (sound _ pattern).turns (omega (arith, used))
      ∙ ap (λ (w : ℕ). not (is_absorb w)) (get_or-take count words i 0 (omega arith))

-- ---- sound words, place by place

-- the kind at a place, where the first is k
kind_at : Bool → ℕ → Bool
kind_at k zero = k
kind_at k (suc i) = kind_at (not k) i

kind_at_even : (k : Bool) (i : ℕ) → kind_at k i ≡ (when eqb (i % 2) 0 then k else not k)
unfolding kind_at when◌then◌else◌
kind_at_even k zero = refl
kind_at_even true (suc zero) = refl
kind_at_even false (suc zero) = refl
kind_at_even true (suc (suc i)) = let e : suc (suc i) % 2 ≡ i % 2 = omega arith in kind_at_even true i ∙ sym (ap (λ (n : ℕ). when eqb n 0 then true else false) e)
kind_at_even false (suc (suc i)) = let e : suc (suc i) % 2 ≡ i % 2 = omega arith in kind_at_even false i ∙ sym (ap (λ (n : ℕ). when eqb n 0 then false else true) e)

alternate_at : (k : Bool) (ws : List ℕ) → alternate k ws ≡ true → (i : ℕ) → i < length ws → is_absorb (get_or ws i 0) ≡ kind_at k i
unfolding alternate kind_at
alternate_at k [] e i h = absurd (not-suc-le-zero h)
alternate_at k (w ∷ ws) e zero h = sym (same_true k (is_absorb w) (and_left _ _ e))
alternate_at k (w ∷ ws) e (suc i) h = alternate_at (not k) ws (and_right _ _ e) i (le_of_suc-le-suc h)

at_alternate : (k : Bool) (ws : List ℕ) → ((i : ℕ) → i < length ws → is_absorb (get_or ws i 0) ≡ kind_at k i) → alternate k ws ≡ true
unfolding alternate kind_at
at_alternate k [] h = refl
at_alternate k (w ∷ ws) h =
    and_both _ _ (ap (same k) (h zero (omega arith)) ∙ same_self k) (at_alternate (not k) ws (λ i l. h (suc i) (omega arith)))

all_long : (ws : List ℕ) → ((i : ℕ) → i < length ws → 1 ≤ length_of (get_or ws i 0)) → all long ws ≡ true
unfolding all
all_long [] h = refl
all_long (w ∷ ws) h = and_both _ _ (le-leb 1 (length_of w) (h zero (omega arith))) (all_long ws (λ i l. h (suc i) (omega arith)))

even_kind : (i : ℕ) → kind_at true i ≡ eqb (i % 2) 0
unfolding when◌then◌else◌
even_kind i = kind_at_even true i ∙ cases (eqb (i % 2) 0) (λ e. rw e) (λ e. rw e)

pub sound_words_law : (ws : List ℕ)
    → (sound_words ws ≡ true)
    ↔ ((1 ≤ length ws) × (length ws ≤ 64)
    × ((i : ℕ) → i < length ws → (is_absorb (get_or ws i 0) ≡ eqb (i % 2) 0) × (1 ≤ length_of (get_or ws i 0))))
sound_words_law ws = (
  λ e.
      let s = sound ws e in (
        s.few,
        s.many,
        λ i h. (
          alternate_at true ws s.turns i h ∙ even_kind i,
          leb-true 1 _ (all_at long ws 0 i s.longs (λ past. absurd (omega arith))),
        ),
      ),
  λ p.
      right_count ws p.0 p.1
      ∙ and_both _ _ (at_alternate true ws (λ i h. (p.2 i h).0 ∙ sym (even_kind i))) (all_long ws (λ i h. (p.2 i h).1)),
)
