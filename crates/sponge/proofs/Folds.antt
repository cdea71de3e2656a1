-- Elements one after the other: a fold with one element more, the buffer that is written, and how many permutations are counted, for any
-- parameters of the permutation.
-- Assumes nothing.
use mathlib.Core.Path.{◌≡◌, refl, sym, ap, ap₂, ◌∙◌}
use mathlib.Core.List.{List, [], ◌∷◌, ◌++◌, append-nil}
use Prim.Native.Nat.{ℕ, zero, suc, ◌+◌, ◌≤◌, ◌<◌}
use native.Mathlib.Nat.{add_assoc, add-zero}
use native.Mathlib.Omega.{arith}
use lib.ListN.{length, set, drop_of_length-le}
use Rattle.basics.specs.Lists.{placed}
use Rattle.basics.specs.Figures.{rate}
use Rattle.basics.proofs.Placed.{placed_length, placed_set, placed_start}
use Rattle.poseidon.specs.Permutation.{Parameters}
use Rattle.sponge.specs.Sponge.{sponge, outer, absorb_element, squeeze_element, squeezed_element, absorb_elements, squeeze_elements, squeezed_elements}
use Rattle.sponge.specs.Steps.{state_for, permutations_for, state_with, absorb_for}
use Rattle.sponge.specs.Sponge.{Sponge}
use Rattle.sponge.specs.Counted as kept
use Rattle.sponge.specs.declared.SpongeState.{SpongeState}
use Rattle.sponge.proofs.Elements.{at_most_one, absorb_parts, squeeze_parts, squeezed_parts}

module _ (F : Parameters) where
  pub absorb_snoc : (xs : List ℕ) (s : Sponge) (x : ℕ) → absorb_elements F s (xs ++ (x ∷ [])) ≡ absorb_element F (absorb_elements F s xs) x
  unfolding absorb_elements
  absorb_snoc [] s x = refl
  absorb_snoc (y ∷ xs) s x = absorb_snoc xs (absorb_element F s y) x

  pub squeeze_snoc : (n : ℕ) (s : Sponge) → squeeze_elements F s (suc n) ≡ squeeze_element F (squeeze_elements F s n)
  unfolding squeeze_elements
  squeeze_snoc zero s = refl
  squeeze_snoc (suc n) s = squeeze_snoc n (squeeze_element F s)

  squeezed_snoc : (n : ℕ) (s : Sponge) → squeezed_elements F s (suc n) ≡ squeezed_elements F s n ++ (squeezed_element F (squeeze_elements F s n) ∷ [])
  unfolding squeezed_elements squeeze_elements
  squeezed_snoc zero s = refl
  squeezed_snoc (suc n) s = ap (λ (l : List ℕ). squeezed_element F s ∷ l) (squeezed_snoc n (squeeze_element F s))

  length_squeezed : (n : ℕ) (s : Sponge) → length (squeezed_elements F s n) ≡ n
  unfolding squeezed_elements
  length_squeezed zero s = refl
  length_squeezed (suc n) s = ap suc (length_squeezed n (squeeze_element F s))

  -- a buffer whose first n elements are written

  pub length_written : (s : Sponge) (n : ℕ) (buffer : List ℕ) → n ≤ length buffer → length (placed buffer 0 (squeezed_elements F s n)) ≡ length buffer
  length_written s n buffer h = placed_length buffer 0 (squeezed_elements F s n) (omega (arith, length_squeezed n s))

  pub write_next : (s : Sponge) (n : ℕ) (buffer : List ℕ) (x : ℕ) → n < length buffer → x ≡ squeezed_element F (squeeze_elements F s n)
      → set (placed buffer 0 (squeezed_elements F s n)) n x ≡ placed buffer 0 (squeezed_elements F s (suc n))
  write_next s n buffer x h e =
      let front = squeezed_elements F s n in
      let long = length_squeezed n s in
      let place : n ≡ 0 + length front = omega arith in
      ap (λ (k : ℕ). set (placed buffer 0 front) k x) place
      ∙ placed_set buffer 0 front x (omega arith)
      ∙ ap (λ (v : ℕ). placed buffer 0 (front ++ (v ∷ []))) e
      ∙ ap (placed buffer 0) (sym (squeezed_snoc n s))

  pub all_written : (s : Sponge) (n : ℕ) (buffer : List ℕ) → n ≡ length buffer → placed buffer 0 (squeezed_elements F s n) ≡ squeezed_elements F s (length buffer)
  all_written s n buffer e =
      let front = squeezed_elements F s n in
      let long = length_squeezed n s in
      let end : length buffer ≤ length front = omega arith in
      placed_start buffer front
      ∙ ap (λ (l : List ℕ). front ++ l) (drop_of_length-le buffer end)
      ∙ append-nil _
      ∙ ap (squeezed_elements F s) e

  -- ---- permutations that were counted before

  -- a sponge with n permutations more counted
  abbrev pub counted : ℕ → Sponge → Sponge
  counted n s = sponge s.state s.absorb_position s.squeeze_position (n + s.permutations)

  absorb_counted : (n : ℕ) (s : Sponge) (x : ℕ) → absorb_element F (counted n s) x ≡ counted n (absorb_element F s x)
  absorb_counted n s x =
      let a = s.absorb_position in
      let q = s.squeeze_position in
      absorb_parts F s.state a q (n + s.permutations) x
      ∙ ap (sponge (state_with F a s.state x) (outer a + 1) rate) (add_assoc n s.permutations (permutations_for a))
      ∙ sym (ap (counted n) (absorb_parts F s.state a q s.permutations x))

  squeeze_counted : (n : ℕ) (s : Sponge) → squeeze_element F (counted n s) ≡ counted n (squeeze_element F s)
  squeeze_counted n s =
      let a = s.absorb_position in
      let q = s.squeeze_position in
      squeeze_parts F s.state a q (n + s.permutations)
      ∙ ap (sponge (state_for F q s.state) (absorb_for q a) (outer q + 1)) (add_assoc n s.permutations (permutations_for q))
      ∙ sym (ap (counted n) (squeeze_parts F s.state a q s.permutations))

  squeezed_counted : (n : ℕ) (s : Sponge) → squeezed_element F (counted n s) ≡ squeezed_element F s
  squeezed_counted n s =
      let a = s.absorb_position in
      let q = s.squeeze_position in
      squeezed_parts F s.state a q (n + s.permutations) ∙ sym (squeezed_parts F s.state a q s.permutations)

  pub absorbed_counted : (xs : List ℕ) (n : ℕ) (s : Sponge) → absorb_elements F (counted n s) xs ≡ counted n (absorb_elements F s xs)
  unfolding absorb_elements
  absorbed_counted [] n s = refl
  absorbed_counted (x ∷ xs) n s =
      ap (λ (t : Sponge). absorb_elements F t xs) (absorb_counted n s x) ∙ absorbed_counted xs n (absorb_element F s x)

  pub squeezes_counted : (k n : ℕ) (s : Sponge) → squeeze_elements F (counted n s) k ≡ counted n (squeeze_elements F s k)
  unfolding squeeze_elements
  squeezes_counted zero n s = refl
  squeezes_counted (suc k) n s =
      ap (λ (t : Sponge). squeeze_elements F t k) (squeeze_counted n s) ∙ squeezes_counted k n (squeeze_element F s)

  pub elements_counted : (k n : ℕ) (s : Sponge) → squeezed_elements F (counted n s) k ≡ squeezed_elements F s k
  unfolding squeezed_elements
  elements_counted zero n s = refl
  elements_counted (suc k) n s =
      ap₂ (λ (y : ℕ) (ys : List ℕ). y ∷ ys) (squeezed_counted n s)
      (ap (λ (t : Sponge). squeezed_elements F t k) (squeeze_counted n s) ∙ elements_counted k n (squeeze_element F s))

  -- one element more, where a call counts the permutations of that element alone

  pub absorb_more : (n m : ℕ) (s t : SpongeState) (x : ℕ) → kept.counted t m ≡ absorb_element F (kept.counted s 0) x
      → absorb_element F (kept.counted s n) x ≡ kept.counted t (n + m)
  absorb_more n m s t x e =
      let from : kept.counted s n ≡ counted n (kept.counted s 0) = ap (kept.counted s) (sym (add-zero n)) in
      ap (λ (u : Sponge). absorb_element F u x) from ∙ absorb_counted n (kept.counted s 0) x ∙ ap (counted n) (sym e)

  pub squeeze_more : (n m : ℕ) (s t : SpongeState) → kept.counted t m ≡ squeeze_element F (kept.counted s 0)
      → squeeze_element F (kept.counted s n) ≡ kept.counted t (n + m)
  squeeze_more n m s t e =
      let from : kept.counted s n ≡ counted n (kept.counted s 0) = ap (kept.counted s) (sym (add-zero n)) in
      ap (squeeze_element F) from ∙ squeeze_counted n (kept.counted s 0) ∙ ap (counted n) (sym e)

  pub squeezed_more : (n : ℕ) (s : SpongeState) → squeezed_element F (kept.counted s 0) ≡ squeezed_element F (kept.counted s n)
  squeezed_more n s =
      let from : kept.counted s n ≡ counted n (kept.counted s 0) = ap (kept.counted s) (sym (add-zero n)) in
      sym (ap (squeezed_element F) from ∙ squeezed_counted n (kept.counted s 0))

  -- ---- at most one permutation an element

  one_absorbed : (s : Sponge) (x : ℕ) → (absorb_element F s x).permutations ≤ s.permutations + 1
  one_absorbed s x =
      let parts = absorb_parts F s.state s.absorb_position s.squeeze_position s.permutations x in
      rw parts (omega (arith, at_most_one s.absorb_position))

  one_squeezed : (s : Sponge) → (squeeze_element F s).permutations ≤ s.permutations + 1
  one_squeezed s =
      let parts = squeeze_parts F s.state s.absorb_position s.squeeze_position s.permutations in
      rw parts (omega (arith, at_most_one s.squeeze_position))

  pub absorb_at_most_one : (m : ℕ) (s t : SpongeState) (x : ℕ) → kept.counted t m ≡ absorb_element F (kept.counted s 0) x → m ≤ 1
  absorb_at_most_one m s t x e = let count = ap (λ (u : Sponge). u.permutations) e in omega (arith, one_absorbed (kept.counted s 0) x)

  pub squeeze_at_most_one : (m : ℕ) (s t : SpongeState) → kept.counted t m ≡ squeeze_element F (kept.counted s 0) → m ≤ 1
  squeeze_at_most_one m s t e = let count = ap (λ (u : Sponge). u.permutations) e in omega (arith, one_squeezed (kept.counted s 0))

  pub absorb_bound : (xs : List ℕ) (s : Sponge) → (absorb_elements F s xs).permutations ≤ s.permutations + length xs
  unfolding absorb_elements
  absorb_bound [] s = omega arith
  absorb_bound (x ∷ xs) s = omega (arith, absorb_bound xs (absorb_element F s x), one_absorbed s x)

  pub squeeze_bound : (n : ℕ) (s : Sponge) → (squeeze_elements F s n).permutations ≤ s.permutations + n
  unfolding squeeze_elements
  squeeze_bound zero s = omega arith
  squeeze_bound (suc n) s = omega (arith, squeeze_bound n (squeeze_element F s), one_squeezed s)
