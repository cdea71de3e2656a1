-- Sound block lengths: what is known of each, and their sum.
-- Assumes nothing.
use mathlib.Core.Path.{◌≡◌, refl, sym, ap, ◌∙◌}
use mathlib.Core.Bool.{Bool, true, false}
use mathlib.Core.Logic.{◌⊎◌, inl, inr}
use mathlib.Core.List.{List, [], ◌∷◌}
use Prim.Native.Nat.{ℕ, zero, suc, ◌+◌, ◌*◌, ◌≤◌, ◌<◌}
use native.Mathlib.Numerals.{add-one}
use native.Mathlib.Omega.{arith}
use borrow.Author.Tests.{leb-true, le-leb, lt-leb}
use Rattle.std.specs.Bool.{MatchBool}
use Rattle.std.specs.List.{AllWithin, HoldsAt, sum_by}
use Rattle.std.proofs.lemmas.List.Recursion.{is_sum_by}
use lib.Dec.{leb}
use lib.ListN.{length, get_or, drop, drop_of_length-le}
use lib.Seq.{drop-cons}
use Rattle.basics.specs.Logic.{◌and◌, all}
use Rattle.basics.specs.Lists.{total}
use Rattle.basics.proofs.Cases.{and_left, and_right, and_both, and_stop, and_false, all_at}
use Rattle.seal.specs.Seal.{sound_lengths}

-- a length that a pattern may declare
abbrev pub declarable : ℕ → Bool
declarable n = leb 1 n and leb n 16777216

pub record Declarable (ns : List ℕ) : Type 0 where
  pub some : 1 ≤ length ns
  pub few : length ns ≤ 31
  pub each : all declarable ns ≡ true

pub lengths_sound : (ns : List ℕ) → sound_lengths ns ≡ true → Declarable ns
unfolding sound_lengths
lengths_sound ns e =
    let e1 = and_right _ _ e in
    record { some = leb-true _ _ (and_left _ _ e); few = leb-true _ _ (and_left _ _ e1); each = and_right _ _ e1 }

pub length_bounds : (n : ℕ) → declarable n ≡ true → (1 ≤ n) × (n ≤ 16777216)
length_bounds n e = (leb-true _ _ (and_left _ _ e), leb-true _ _ (and_right _ _ e))

pub length_at : (ns : List ℕ) → all declarable ns ≡ true → (i : ℕ) → i < length ns → (1 ≤ get_or ns i 0) × (get_or ns i 0 ≤ 16777216)
length_at ns e i h = length_bounds _ (all_at declarable ns 0 i e (λ l. absurd (omega arith)))

-- the sum, one length after the other
pub total_step : (ns : List ℕ) (i : ℕ) → i < length ns → total (drop i ns) ≡ get_or ns i 0 + total (drop (i + 1) ns)
unfolding total
total_step ns i h = rw (add-one, drop-cons ns i 0)

pub total_end : (ns : List ℕ) (i : ℕ) → length ns ≤ i → total (drop i ns) ≡ 0
unfolding total
total_end ns i h = rw (drop_of_length-le ns h)

pub total_is_sum : (ns : List ℕ) → total ns ≡ sum_by (λ n. n) ns
unfolding total
total_is_sum ns = is_sum_by total (λ n. n) refl (λ n ns. refl) ns

-- it is small
total_most : (ns : List ℕ) → all declarable ns ≡ true → total ns ≤ 16777216 * length ns
unfolding total all
total_most [] e = omega arith
total_most (n ∷ ns) e = omega (arith, length_bounds n (and_left _ _ e), total_most ns (and_right _ _ e))

pub total_fits : (ns : List ℕ) → Declarable ns → total ns ≤ 520093696
total_fits ns d = omega (arith, total_most ns d.each, d.few)

-- ---- each of them looked at

all_each : (ns : List ℕ) → ((k : ℕ) → k < length ns → declarable (get_or ns k 0) ≡ true) → all declarable ns ≡ true
unfolding all
all_each [] h = refl
all_each (n ∷ ns) h = and_both _ _ (h 0 (omega arith)) (all_each ns (λ k l. h (suc k) (omega arith)))

all_but : (ns : List ℕ) (k : ℕ) → k < length ns → declarable (get_or ns k 0) ≡ false → all declarable ns ≡ false
unfolding all
all_but [] k h e = absurd (omega arith)
all_but (n ∷ ns) zero h e = and_stop _ _ e
all_but (n ∷ ns) (suc k) h e = ap (λ (b : Bool). declarable n and b) (all_but ns k (omega arith) e) ∙ and_false _

pub each_declarable : (r : Bool) (ns : List ℕ)
    → MatchBool r (AllWithin (λ n. (1 ≤ n) × (n ≤ 16777216)) ns 0 (length ns)) ((k : ℕ) × (k < length ns) × HoldsAt (λ n. (n < 1) ⊎ (16777216 < n)) ns k)
    → r ≡ all declarable ns
each_declarable true ns h =
    sym (all_each ns (λ k l. let b = h k 0 (omega arith) l in and_both _ _ (le-leb 1 _ b.0) (le-leb _ 16777216 b.1)))
each_declarable false ns w = sym (all_but ns w.0 w.1 (outside _ (w.2 0)))
  where
    outside : (n : ℕ) → (n < 1) ⊎ (16777216 < n) → declarable n ≡ false
    outside n (inl h) = and_stop _ _ (lt-leb 1 n h)
    outside n (inr h) = ap (λ (b : Bool). leb 1 n and b) (lt-leb n 16777216 h) ∙ and_false _
