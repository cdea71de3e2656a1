-- How large counts of permutations can be, so that code can hold them; and places behind the last word count 0.
-- Assumes nothing.
use mathlib.Core.Path.{◌≡◌, refl, ap, ◌∙◌}
use mathlib.Core.List.{List}
use Prim.Native.Nat.{ℕ, zero, suc, ◌+◌, ◌*◌, ◌/◌, ◌≤◌, min}
use native.Mathlib.Omega.{arith}
use borrow.Author.Tests.{leb-true, leb-false}
use lib.Dec.{leb}
use lib.ListN.{length, get_or, take, get_or-eq_default}
use lib.Seq.{get_or-take}
use Rattle.basics.specs.Logic.{when◌then◌else◌}
use Rattle.basics.specs.Lists.{sum}
use Rattle.basics.proofs.Cases.{by, cases}
use Rattle.basics.proofs.Sums.{sum_same}
use Rattle.words.specs.Words.{is_absorb, length_of}
use Rattle.counters.specs.Permutations.{block_count, phase_permutations}
use Rattle.words.proofs.WordKinds.{length_below}

-- the permutations of a whole phase
abbrev pub whole_phase : List ℕ → ℕ → ℕ
whole_phase ws k = phase_permutations (get_or ws k 0) (length_of (get_or ws k 0))

-- a phase with no element done
pub none_done : (word : ℕ) → phase_permutations word 0 ≡ 0
unfolding phase_permutations block_count when◌then◌else◌
none_done word = by (λ (n : ℕ). n ≡ 0) (is_absorb word) _ _ (λ _. refl) λ _. refl

pub phase_bound : (word d : ℕ) → phase_permutations word d ≤ (d + 7) / 8
unfolding phase_permutations block_count
phase_bound word d =
    by (λ (n : ℕ). n ≤ (d + 7) / 8) _ _ _
    (λ _. by (λ (n : ℕ). n ≤ (d + 7) / 8) _ _ _ (λ _. omega arith) λ _. omega arith)
    λ _. omega arith

pub sum_bound : (ws : List ℕ) (k : ℕ) → sum k (whole_phase ws) ≤ 268435456 * k
unfolding sum
sum_bound ws zero = omega arith
sum_bound ws (suc k) =
    let word = get_or ws k 0 in
    omega (arith, sum_bound ws k, phase_bound word (length_of word), length_below word)

behind_last : (ws : List ℕ) (k : ℕ) → length ws ≤ k → whole_phase ws k ≡ 0
unfolding phase_permutations block_count is_absorb length_of when◌then◌else◌
behind_last ws k h = ap (λ (w : ℕ). phase_permutations w (length_of w)) (get_or-eq_default ws 0 h)

-- a sum over phases may stop at the last word
pub sum_stops : (ws : List ℕ) (k : ℕ) → sum (min k (length ws)) (whole_phase ws) ≡ sum k (whole_phase ws)
unfolding sum
sum_stops ws zero = let none : min 0 (length ws) ≡ 0 = omega arith in ap (λ (n : ℕ). sum n (whole_phase ws)) none
sum_stops ws (suc k) =
    cases (leb (suc k) (length ws))
    (λ e. let all : min (suc k) (length ws) ≡ suc k = omega (arith, leb-true (suc k) (length ws) e) in
    ap (λ (n : ℕ). sum n (whole_phase ws)) all)
    λ e. let behind : length ws ≤ k = omega (arith, leb-false (suc k) (length ws) e) in
    let same : min (suc k) (length ws) ≡ min k (length ws) = omega arith in
    let before : sum (min (suc k) (length ws)) (whole_phase ws) ≡ sum k (whole_phase ws) =
    ap (λ (n : ℕ). sum n (whole_phase ws)) same ∙ sum_stops ws k in
    omega (arith, behind_last ws k behind)

-- the phases of the first words are those of the whole list
pub sum_of_front : (n : ℕ) (ws : List ℕ) → sum n (whole_phase (take n ws)) ≡ sum n (whole_phase ws)
sum_of_front n ws = sum_same n _ _ (λ k h. ap (λ (w : ℕ). phase_permutations w (length_of w)) (get_or-take n ws k 0 h))
