-- A row by diagonals is a row of the matrix: its 24 products may start at any place.
-- Assumes nothing.
use Rattle.std.proofs.Common.{◌≡◌, ℕ, zero, suc, ◌+◌, ◌-◌, ◌*◌, ◌%◌, ◌<◌, ◌≤◌, List, get_or, sym, refl, ap, ◌∙◌, subst, add_assoc, mod-eq_of_lt, arith}
use native.Mathlib.Nat.{add-mod_right}
use Rattle.basics.specs.Lists.{sum}
use Rattle.basics.proofs.Sums.{sum_same}
use Rattle.poseidon_rounds.specs.Tables.{Diagonals}
use Rattle.poseidon_matrix.specs.Matrix.{two_products, row_sum}
use Rattle.field.proofs.Congruence.{Congruent, reflexive, add_congruent, mul_congruent}
use Rattle.poseidon_rounds.proofs.Congruence.{sum_congruent}
use Rattle.poseidon_rounds.proofs.Places.{either}

-- a state, twice
pub record Twice (x : List ℕ) : Type 0 where
  pub again : (k : ℕ) → k < 24 → get_or x (24 + k) 0 ≡ get_or x k 0

halves : (h : ℕ → ℕ) → sum 12 (λ d. h d + h (d + 12)) ≡ sum 24 h
unfolding sum
halves h = omega arith

shift : (g : ℕ → ℕ) (n : ℕ) → sum n (λ d. g (suc d)) + g 0 ≡ sum n g + g n
unfolding sum
shift g zero = refl
shift g (suc n) = omega (arith, shift g n)

-- n places from any place on, counted round, are all
pub around : (n : ℕ) (f : ℕ → ℕ) (i : ℕ) → sum n (λ d. f ((i + d) % n)) ≡ sum n f
around n f zero = sum_same n (λ d. f ((0 + d) % n)) f (λ d h. ap f (ap (λ (k : ℕ). k % n) (omega arith) ∙ mod-eq_of_lt h))
around n f (suc i) =
    let g : ℕ → ℕ = λ d. f ((i + d) % n) in
    let ends : g n ≡ g 0 = ap f (add-mod_right i n ∙ ap (λ (k : ℕ). k % n) (omega arith)) in
    let next : sum n (λ d. f ((suc i + d) % n)) ≡ sum n (λ d. g (suc d)) =
    sum_same n (λ d. f ((suc i + d) % n)) (λ d. g (suc d)) (λ d h. ap (λ (k : ℕ). f (k % n)) (omega arith)) in
    next ∙ (omega (arith, shift g n, ends)) ∙ around n f i

-- the place that a place past the first 24 stands for
round_place : {x : List ℕ} (j : ℕ) → j < 48 → Twice x → get_or x j 0 ≡ get_or x (j % 24) 0
round_place {x} j h w =
    let past : 24 ≤ j → get_or x j 0 ≡ get_or x (j % 24) 0 =
    λ l.
    ap (λ (k : ℕ). get_or x k 0) (omega arith) ∙ w.again (j - 24) (omega arith) ∙ ap (λ (k : ℕ). get_or x k 0) (omega arith) in
    either 24 j (λ e. past (omega arith)) (λ l. ap (λ (k : ℕ). get_or x k 0) (sym (mod-eq_of_lt l))) (λ l. past (omega arith))

-- row i of the matrix times the state, with the factor
pub row_is_matrix : (m c : ℕ) (A : ℕ → ℕ → ℕ) (t x : List ℕ) (i : ℕ) → i < 24 → Diagonals m c A t → Twice x
    → Congruent m (row_sum t x i) (sum 24 (λ j. c * A i j * get_or x j 0))
unfolding row_sum two_products
row_is_matrix m c A t x i h a w =
    let f : ℕ → ℕ = λ j. c * A i j * get_or x j 0 in
    let one : Congruent m (sum 12 (two_products t x i)) (sum 12 (λ d. f ((i + d) % 24) + f ((i + (d + 12)) % 24))) =
    sum_congruent 12 (two_products t x i) (λ d. f ((i + d) % 24) + f ((i + (d + 12)) % 24))
    (λ d l. subst (λ (k : ℕ). Congruent m (two_products t x i d) (f ((i + d) % 24) + f (k % 24))) (add_assoc i d 12)
    (add_congruent
    (subst (λ (y : ℕ). Congruent m (get_or t (48 * d + 2 * i) 0 * get_or x (i + d) 0) (c * A i ((i + d) % 24) * y)) (round_place (i + d) (omega arith) w)
    (mul_congruent (a.near i d h l) (reflexive (get_or x (i + d) 0))))
    (subst (λ (y : ℕ). Congruent m (get_or t (48 * d + 2 * i + 1) 0 * get_or x (i + d + 12) 0) (c * A i ((i + d + 12) % 24) * y)) (round_place (i + d + 12) (omega arith) w)
    (mul_congruent (a.far i d h l) (reflexive (get_or x (i + d + 12) 0)))))) in
    subst (Congruent m (sum 12 (two_products t x i))) (halves (λ d. f ((i + d) % 24)) ∙ around 24 f i) one
