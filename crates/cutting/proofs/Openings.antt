-- Which sound words START takes, cut.
-- Assumes nothing.
use mathlib.Core.Path.{◌≡◌, sym, ap, ◌∙◌}
use mathlib.Core.Bool.{true}
use mathlib.Core.List.{List, ◌∷◌, ◌++◌}
use Prim.Native.Nat.{ℕ, ◌-◌, ◌≤◌, ◌<◌}
use native.Mathlib.Omega.{arith}
use borrow.Author.Tests.{leb-true, leb-false}
use lib.Dec.{leb, lit<}
use lib.ListN.{length}
use Rattle.basics.specs.Lists.{Below}
use Rattle.basics.specs.Numbers.{accepted}
use Rattle.basics.proofs.Cases.{cases}
use Rattle.words.specs.Words.{length_of}
use Rattle.cutting.proofs.Words.{calls_short, calls_long}
use Rattle.pattern.specs.Pattern.{phases, merged_words, sound_words}
use Rattle.pattern.specs.Opening.{Opening, opening, max_separator, opening_number}
use Rattle.pattern.proofs.Soundness.{sound}
use Rattle.pattern.proofs.StartCheck.{passed_rows, few_declared, fit}
use Rattle.pattern.proofs.MergedWords.{phases_of_sound, phases_of_words, merged_sound, sound_merged, none_empty, accepts}
use Rattle.cutting.specs.Cutting.{cut_words, cut_number}
use Rattle.cutting.proofs.Steps.{number_accepted, number_refused}
use Rattle.cutting.proofs.Merging.{merged_cut, cut_words_within, cut_words_empty}
use Rattle.cutting.proofs.Fewest.{fewest}

module _ (ws : List ℕ) where
  -- the number tells whether 64 calls suffice
  pub suffices : cut_number ws ≡ accepted → length (cut_words 16777216 ws) ≤ 64
  suffices e =
      cases (leb (length (cut_words 16777216 ws)) 64) (leb-true _ 64)
      λ l. absurd (omega (arith, e, number_refused ws (leb-false _ 64 l)))

  module _ (e : sound_words ws ≡ true) where
    pub cut_merges : Below 4294967296 ws → merged_words (cut_words 16777216 ws) ≡ ws
    cut_merges bits = merged_cut 16777216 (lit< tt) ws ∙ sound_merged ws e bits

    -- where they do, the cut words are accepted
    pub cut_accepted : Below 4294967296 ws → cut_number ws ≡ accepted → (separator : List ℕ) → length separator ≤ max_separator
        → opening_number (opening (cut_words 16777216 ws) separator) ≡ accepted
    cut_accepted bits n separator short =
        accepts (opening (cut_words 16777216 ws) separator) (suffices n)
        (cut_words_empty 16777216 (lit< tt) ws ∙ none_empty ws (sound ws e).longs)
        (cut_words_within 16777216 (lit< tt) ws)
        (ap sound_words (cut_merges bits) ∙ e)
        short

    -- and if words that merge to them are accepted, they do
    pub accepted_suffices : (o : Opening) → opening_number o ≡ accepted → phases o.words ≡ phases ws → cut_number ws ≡ accepted
    accepted_suffices o a same =
        let passed = (passed_rows o a).of_words in
        number_accepted ws
        (omega (arith, fewest 16777216 (lit< tt) ws o.words (phases_of_sound ws e) same passed.e19, few_declared o.words passed.e1))

pub merged_suffices : (o : Opening) → opening_number o ≡ accepted → cut_number (merged_words o.words) ≡ accepted
unfolding merged_words
merged_suffices o a =
    accepted_suffices (merged_words o.words) (merged_sound o a) o a
    (sym (phases_of_sound (merged_words o.words) (merged_sound o a) ∙ (phases_of_words (phases o.words) (fit o a)).0))

-- ---- one word after the other, one call after the other

pub cut_next_short : (limit w : ℕ) (ws : List ℕ) → w < 4294967296 → length_of w ≤ limit → cut_words limit (w ∷ ws) ≡ w ∷ cut_words limit ws
unfolding cut_words
cut_next_short limit w ws fits h = ap (λ (l : List ℕ). l ++ cut_words limit ws) (calls_short limit w fits h)

pub cut_next_long : (limit w : ℕ) (ws : List ℕ) → 0 < limit → w < 4294967296 → limit < length_of w
    → cut_words limit (w ∷ ws) ≡ (w - (length_of w - limit)) ∷ cut_words limit ((w - limit) ∷ ws)
unfolding cut_words
cut_next_long limit w ws some fits h =
    ap (λ (l : List ℕ). l ++ cut_words limit ws) (calls_long limit w fits some h)
