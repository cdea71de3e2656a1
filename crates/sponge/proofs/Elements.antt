-- One element absorbed or squeezed, by the parts of the sponge, for any parameters of the permutation.
-- Assumes nothing.
use mathlib.Core.Path.{◌≡◌, refl, sym, ap, ◌∙◌}
use mathlib.Core.Bool.{true, false}
use mathlib.Core.List.{List}
use Prim.Native.Nat.{ℕ, ◌+◌, ◌%◌, ◌≤◌, ◌<◌}
use native.Mathlib.Nat.{mod-lt, add-zero}
use native.Mathlib.Omega.{arith}
use borrow.Author.Tests.{eqb-true, lt-ltb}
use lib.Dec.{eqb}
use lib.ListN.{get_or, set}
use Rattle.basics.specs.Logic.{when◌then◌else◌, all}
use Rattle.basics.specs.Lists.{is_below, Below}
use Rattle.basics.specs.Figures.{rate}
use Rattle.basics.proofs.Below.{below_at}
use Rattle.basics.proofs.Cases.{by, cases, all_set, if_true, if_false}
use Rattle.poseidon.specs.Permutation.{Parameters}
use Rattle.poseidon.proofs.Bounds.{permutation_reduced}
use Rattle.sponge.specs.Sponge.{sponge, outer, ready_to_absorb, absorb_element, ready_to_squeeze, squeezed_element, squeeze_element}
use Rattle.sponge.specs.Steps.{state_for, permutations_for, state_with, absorb_for}
use Rattle.sponge.specs.Sponge.{Sponge}

pub at_most_one : (n : ℕ) → permutations_for n ≤ 1
unfolding permutations_for
at_most_one n = by (λ (k : ℕ). k ≤ 1) _ _ _ (λ _. omega arith) λ _. omega arith

-- ---- the state stays reduced

module _ (F : Parameters) (pos : 0 < F.modulus) where
  pub state_reduced : (n : ℕ) (s : List ℕ) → Below F.modulus s → Below F.modulus (state_for F n s)
  unfolding state_for
  state_reduced n s e = by (Below F.modulus) _ _ _ (λ _. permutation_reduced F pos s) λ _. e

  pub sum_reduced : (s : List ℕ) (i n : ℕ) → Below F.modulus s → Below F.modulus (set s i (n % F.modulus))
  sum_reduced s i n e = all_set (is_below F.modulus) s i (n % F.modulus) e (lt-ltb (n % F.modulus) F.modulus (mod-lt n pos))

-- ---- the definitions, by parts

module _ (F : Parameters) (s : List ℕ) (a q n : ℕ) where
  pub absorb_parts : (x : ℕ) → absorb_element F (sponge s a q n) x ≡ sponge (state_with F a s x) (outer a + 1) rate (n + permutations_for a)
  unfolding absorb_element ready_to_absorb state_with state_for permutations_for when◌then◌else◌
  absorb_parts x =
      cases (eqb a rate)
      (λ e. let at-0 : a % rate ≡ 0 = omega (arith, eqb-true a rate e) in rw (e, at-0) refl)
      λ e. rw (e, add-zero n) refl

  pub squeeze_parts : squeeze_element F (sponge s a q n) ≡ sponge (state_for F q s) (absorb_for q a) (outer q + 1) (n + permutations_for q)
  unfolding squeeze_element ready_to_squeeze state_for permutations_for absorb_for when◌then◌else◌
  squeeze_parts =
      cases (eqb q rate)
      (λ e. let at-0 : q % rate ≡ 0 = omega (arith, eqb-true q rate e) in rw (e, at-0) refl)
      λ e. rw (e, add-zero n) refl

  pub squeezed_parts : squeezed_element F (sponge s a q n) ≡ get_or (state_for F q s) (outer q) 0
  unfolding squeezed_element ready_to_squeeze state_for when◌then◌else◌
  squeezed_parts =
      cases (eqb q rate)
      (λ e. let at-0 : q % rate ≡ 0 = omega (arith, eqb-true q rate e) in rw (e, at-0) refl)
      λ e. rw e refl

-- ---- the code's steps: the state is permuted where it has to be, and then an element goes in or comes out

module _ (F : Parameters) (s t : List ℕ) (a q n : ℕ) where
  pub absorbed : (x y : ℕ) → n ≡ permutations_for a → t ≡ state_for F a s → y ≡ (get_or t (outer a) 0 + x) % F.modulus
      → sponge (set t (outer a) y) (outer a + 1) rate n ≡ absorb_element F (sponge s a q 0) x
  unfolding state_with
  absorbed x y counted permuted added =
      let none : 0 + permutations_for a ≡ permutations_for a = omega arith in
      rw (added, permuted, counted) (sym (rw none at (absorb_parts F s a q 0 x)))

  pub squeezed : (a' q' : ℕ) → n ≡ permutations_for q → t ≡ state_for F q s → a' ≡ absorb_for q a → q' ≡ q
      → (sponge t a' (outer q' + 1) n ≡ squeeze_element F (sponge s a q 0)) × (get_or t (outer q') 0 ≡ squeezed_element F (sponge s a q 0))
  squeezed a' q' counted permuted moved same =
      let none : 0 + permutations_for q ≡ permutations_for q = omega arith in
      rw (permuted, counted, moved, same) (sym (rw none at (squeeze_parts F s a q 0)), sym (squeezed_parts F s a q 0))

pub moved_on : (q a : ℕ) → eqb q rate ≡ true → 0 ≡ absorb_for q a
unfolding absorb_for
moved_on q a e = sym (if_true _ _ _ e)

pub stays : (q a : ℕ) → eqb q rate ≡ false → a ≡ absorb_for q a
unfolding absorb_for
stays q a e = sym (if_false _ _ _ e)

-- ---- what is squeezed is reduced

module _ (F : Parameters) (pos : 0 < F.modulus) (s : Sponge) (e : Below F.modulus s.state) where
  abbrev position : ℕ
  position = s.squeeze_position

  pub element_reduced : is_below F.modulus (squeezed_element F s) ≡ true
  element_reduced =
      let small = below_at F.modulus pos _ (state_reduced F pos position s.state e) (outer position) in
      ap (is_below F.modulus) (squeezed_parts F s.state s.absorb_position position s.permutations)
      ∙ lt-ltb _ F.modulus small

  pub left_reduced : Below F.modulus (squeeze_element F s).state
  left_reduced =
      ap (λ (t : Sponge). all (is_below F.modulus) t.state) (squeeze_parts F s.state s.absorb_position position s.permutations)
      ∙ state_reduced F pos position s.state e
