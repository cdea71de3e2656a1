-- No other calls within the limit that merge to the same words are fewer.
-- Assumes nothing.
use mathlib.Core.Path.{◌≡◌, refl, sym, ap, ap₂, ◌∙◌}
use mathlib.Core.Bool.{false}
use mathlib.Core.List.{List, [], ◌∷◌, map}
use Prim.Native.Nat.{ℕ, suc, ◌+◌, ◌≤◌, ◌<◌}
use native.Mathlib.Nat.{suc-mul}
use native.Mathlib.Omega.{arith}
use borrow.Author.Tests.{ltb-false}
use lib.Dec.{ltb}
use lib.ListN.{length, length-append, length-map}
use Rattle.basics.specs.Logic.{any}
use Rattle.basics.proofs.Cases.{by, or_false}
use Rattle.words.specs.Words.{is_absorb, length_of, Phase, phase_of, word_of}
use Rattle.pattern.specs.Pattern.{join, merge, phases}
use Rattle.cutting.specs.Cutting.{cut_length, cut_call, cut_words}
use Rattle.cutting.specs.Steps.{calls_of}
use Rattle.cutting.proofs.Lengths.{cut_short_law, parts_suffice, parts_few}

module _ (limit : ℕ) where
  -- how many calls a pattern takes
  unfoldable needed : List Phase → ℕ
  needed [] = 0
  needed (a ∷ ps) = length (cut_length limit a.elements) + needed ps

  -- as many are cut
  cut_needed : (ws : List ℕ) → length (cut_words limit ws) ≡ needed (map phase_of ws)
  unfolding cut_words needed cut_call phase_of
  cut_needed [] = refl
  cut_needed (w ∷ ws) =
      length-append (calls_of limit w) (cut_words limit ws)
      ∙ ap₂ (λ (a b : ℕ). a + b)
      (length-map (cut_call limit (phase_of w)) word_of
      ∙ length-map (cut_length limit (length_of w)) (λ n. record { absorbs = is_absorb w; elements = n }))
      (cut_needed ws)

  module _ (some : 0 < limit) where
    -- one call within the limit more needs one more at most
    join_needed : (a : Phase) (ps : List Phase) → a.elements ≤ limit → needed (join a ps) ≤ suc (needed ps)
    unfolding join needed
    join_needed a [] h = omega (arith, ap length (cut_short_law limit a.elements h))
    join_needed a (b ∷ bs) h =
        by (λ (ps : List Phase). needed ps ≤ suc (length (cut_length limit b.elements) + needed bs)) _ _ _
        (λ _.
        let k = length (cut_length limit b.elements) in
        let few : length (cut_length limit (a.elements + b.elements)) ≤ suc k =
        parts_few limit some (a.elements + b.elements) (suc k) (omega arith)
        (omega (arith, parts_suffice limit some b.elements, suc-mul k limit)) in
        omega arith)
        λ _. omega (arith, ap length (cut_short_law limit a.elements h))

    declared_suffice : (vs : List ℕ) → any (λ w. ltb limit (length_of w)) vs ≡ false → needed (merge (map phase_of vs)) ≤ length vs
    unfolding merge any needed phase_of
    declared_suffice [] e = omega arith
    declared_suffice (v ∷ vs) e =
        let o = or_false _ _ e in
        omega (arith, join_needed (phase_of v) (merge (map phase_of vs)) (ltb-false limit (length_of v) o.0), declared_suffice vs o.1)

    -- of words that are merged
    pub fewest : (ws vs : List ℕ) → phases ws ≡ map phase_of ws → phases vs ≡ phases ws → any (λ w. ltb limit (length_of w)) vs ≡ false
        → length (cut_words limit ws) ≤ length vs
    unfolding phases
    fewest ws vs merged same within = rw (cut_needed ws ∙ ap needed (sym merged ∙ sym same)) (declared_suffice vs within)
