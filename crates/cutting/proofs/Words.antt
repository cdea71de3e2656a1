-- The calls of a word: the first, and what is left behind it.
-- Assumes nothing.
use mathlib.Core.Path.{◌≡◌, sym, ap, ◌∙◌}
use mathlib.Core.List.{List, [], ◌∷◌, map}
use Prim.Native.Nat.{ℕ, ◌-◌, ◌≤◌, ◌<◌}
use native.Mathlib.Omega.{arith}
use borrow.Author.Tests.{le-leb, lt-leb, leb-true, leb-false}
use lib.Dec.{leb}
use Rattle.basics.proofs.Cases.{cases}
use Rattle.words.specs.Words.{is_absorb, length_of, Phase, phase_of, word_of}
use Rattle.words.proofs.WordKinds.{word_of_phase}
use Rattle.cutting.specs.Cutting.{cut_length, cut_call}
use Rattle.cutting.specs.Steps.{calls_of}
use Rattle.cutting.proofs.Lengths.{cut_short_law, cut_long}

-- a word with fewer elements
module _ (w m : ℕ) (fits : w < 4294967296) (h : m ≤ length_of w) where
  kind_less : is_absorb (w - m) ≡ is_absorb w
  unfolding is_absorb length_of
  kind_less =
      let top : ℕ = 2147483648 in
      cases (leb top w)
      (λ e. le-leb top (w - m) (omega (arith, leb-true top w e)) ∙ sym e)
      λ e. lt-leb top (w - m) (omega (arith, leb-false top w e)) ∙ sym e

  length_less : length_of (w - m) ≡ length_of w - m
  unfolding length_of
  length_less = omega arith

  pub phase_less : phase_of (w - m) ≡ record { absorbs = is_absorb w; elements = length_of w - m }
  unfolding phase_of
  phase_less = λ i. record { absorbs = kind_less i; elements = length_less i }

  word_less : word_of (record { absorbs = is_absorb w; elements = length_of w - m }) ≡ w - m
  word_less = ap word_of (sym phase_less) ∙ word_of_phase (w - m) (omega arith)

module _ (limit w : ℕ) (fits : w < 4294967296) where
  pub calls_short : length_of w ≤ limit → calls_of limit w ≡ w ∷ []
  unfolding cut_call phase_of
  calls_short h =
      ap (λ (ns : List ℕ). map word_of (map (λ n. record { absorbs = is_absorb w; elements = n }) ns)) (cut_short_law limit (length_of w) h)
      ∙ ap (λ (x : ℕ). x ∷ []) (word_of_phase w fits)

  module _ (some : 0 < limit) (h : limit < length_of w) where
    first_word : word_of (record { absorbs = is_absorb w; elements = limit }) ≡ w - (length_of w - limit)
    first_word =
        let same : length_of w - (length_of w - limit) ≡ limit = omega arith in
        sym (ap (λ (n : ℕ). word_of (record { absorbs = is_absorb w; elements = n })) same)
        ∙ word_less w (length_of w - limit) fits (omega arith)

    pub calls_long : calls_of limit w ≡ (w - (length_of w - limit)) ∷ calls_of limit (w - limit)
    unfolding cut_call phase_of
    calls_long =
        let rest = phase_less w limit fits (omega arith) in
        let first = w - (length_of w - limit) in
        ap (λ (ns : List ℕ). map word_of (map (λ n. record { absorbs = is_absorb w; elements = n }) ns)) (cut_long limit some (length_of w) h)
        ∙ ap (λ (x : ℕ). x ∷ map word_of (map (λ n. record { absorbs = is_absorb w; elements = n }) (cut_length limit (length_of w - limit)))) first_word
        ∙ sym (ap (λ (a : Phase). first ∷ map word_of (cut_call limit a)) rest)
