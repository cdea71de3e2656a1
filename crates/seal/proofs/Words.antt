-- The words of a note, written two at a time.
-- Assumes nothing.
use mathlib.Core.Path.{◌≡◌, refl, sym, ap, ap₂, ◌∙◌}
use mathlib.Core.List.{List, [], ◌∷◌, ◌++◌, append_assoc}
use Prim.Native.Nat.{ℕ, suc, ◌+◌, ◌*◌, ◌≤◌, ◌<◌}
use native.Mathlib.Numerals.{add-one}
use native.Mathlib.Omega.{arith}
use lib.ListN.{length, get_or, take, drop, set, length-set, drop_of_length-le}
use lib.Seq.{drop-cons, take-suc-set}
use Rattle.basics.specs.Logic.{when◌then◌else◌}
use Rattle.words.specs.Words.{word_of}
use Rattle.seal.specs.Seal.{absorb_word, squeeze_word, block_words, seal_words}

pub absorb_word_law : (n : ℕ) → absorb_word n ≡ 2147483648 + n
unfolding word_of when◌then◌else◌
absorb_word_law n = refl

pub squeeze_word_law : (n : ℕ) → squeeze_word n ≡ n
unfolding word_of when◌then◌else◌
squeeze_word_law n = refl

-- two elements behind the first k
write_two : (words : List ℕ) (k a b : ℕ) → suc k < length words → take (suc (suc k)) (set (set words k a) (suc k) b) ≡ take k words ++ a ∷ b ∷ []
write_two words k a b h =
    take-suc-set (set words k a) (suc k) b (omega (arith, length-set words k a))
    ∙ ap (λ (l : List ℕ). l ++ (b ∷ [])) (take-suc-set words k a (omega arith))
    ∙ append_assoc (take k words) (a ∷ []) (b ∷ [])

module _ (ns words : List ℕ) (i : ℕ) (long : length words ≡ 64) where
  -- the calls of the first i blocks are declared
  abbrev pub Declared : Type 0
  Declared = take (2 * i + 1) words ++ block_words (drop i ns) ≡ seal_words ns

  pub declare_more : Declared → i < length ns → length ns ≤ 31
      → take (2 * (i + 1) + 1) (set (set words (2 * i + 1) (get_or ns i 0)) (2 * i + 2) (2147483648 + get_or ns i 0)) ++ block_words (drop (i + 1) ns) ≡ seal_words ns
  unfolding block_words word_of when◌then◌else◌
  declare_more d h few =
      let n = get_or ns i 0 in
      let k = 2 * i + 1 in
      let next : 2 * (i + 1) + 1 ≡ suc (suc k) = omega arith in
      let at : 2 * i + 2 ≡ suc k = omega arith in
      let left : drop i ns ≡ n ∷ drop (i + 1) ns = rw add-one (drop-cons ns i 0 h) in
      ap₂ (λ (m : ℕ) (p : ℕ). take m (set (set words k n) p (2147483648 + n)) ++ block_words (drop (i + 1) ns)) next at
      ∙ ap (λ (l : List ℕ). l ++ block_words (drop (i + 1) ns)) (write_two words k n (2147483648 + n) (omega arith))
      ∙ append_assoc (take k words) (n ∷ (2147483648 + n) ∷ []) (block_words (drop (i + 1) ns))
      ∙ ap (λ (l : List ℕ). take k words ++ block_words l) (sym left)
      ∙ d

  pub declare_last : Declared → length ns ≤ i → i ≤ 31 → take (2 * i + 2) (set words (2 * i + 1) 8) ≡ seal_words ns
  unfolding block_words word_of when◌then◌else◌
  declare_last d h few =
      let next : 2 * i + 2 ≡ suc (2 * i + 1) = omega arith in
      ap (λ (m : ℕ). take m (set words (2 * i + 1) 8)) next
      ∙ take-suc-set words (2 * i + 1) 8 (omega arith)
      ∙ ap (λ (l : List ℕ). take (2 * i + 1) words ++ block_words l) (sym (drop_of_length-le ns h))
      ∙ d
