-- What the lists that the tests compute hold at each place.
-- Assumes nothing.
use mathlib.Core.Path.{◌≡◌, ◌∙◌, sym, ap, refl, subst}
use mathlib.Core.Bool.{Bool, true, true≢false}
use mathlib.Core.List.{List, [], ◌∷◌}
use Prim.Native.Nat.{ℕ, zero, suc, ◌+◌, ◌*◌, ◌%◌, ◌<◌}
use native.Mathlib.Nat.{le_of_suc-le-suc, not-suc-le-zero}
use native.Mathlib.Numerals.{one-add}
use native.Mathlib.Omega.{arith}
use lib.ListN.{length, get_or, drop}
use lib.Seq.{get_or-drop}
use borrow.Author.Tests.{eqb-true}
use Rattle.basics.specs.Lists.{sum}
use Rattle.basics.proofs.Cases.{and_left, and_right}
use Rattle.basics.proofs.Sums.{sum_same}
use Rattle.field.proofs.Congruence.{Congruent, reflexive, remainder}
use Rattle.poseidon_rounds.specs.Tests.{alike, every, dot, products}
use Rattle.poseidon_rounds.proofs.Linear.{sum_first}

pub alike_at : (m : ℕ) (xs ys : List ℕ) → alike m xs ys ≡ true → (i : ℕ) → Congruent m (get_or xs i 0) (get_or ys i 0)
unfolding alike
alike_at m [] [] e i = reflexive 0
alike_at m [] (y ∷ ys) e i = absurd (true≢false (sym e))
alike_at m (x ∷ xs) [] e i = absurd (true≢false (sym e))
alike_at m (x ∷ xs) (y ∷ ys) e zero = record { same = eqb-true _ _ (and_left _ _ e) }
alike_at m (x ∷ xs) (y ∷ ys) e (suc i) = alike_at m xs ys (and_right _ _ e) i

pub every_at : (f : ℕ → Bool) (n k d : ℕ) → every f n ≡ true → k + suc d ≡ n → f k ≡ true
unfolding every
every_at f zero k d e h = absurd (omega arith)
every_at f (suc n) k zero e h = subst (λ (j : ℕ). f j ≡ true) (omega arith) (and_left _ _ e)
every_at f (suc n) k (suc d) e h = every_at f n k d (and_right _ _ e) (omega arith)

pub dot_sum : (v h : List ℕ) → dot v h ≡ sum (length v) (λ j. get_or h j 0 * get_or v j 0)
unfolding dot
dot_sum [] h = unfold sum in refl
dot_sum (x ∷ v) h =
    ap (λ (y : ℕ). get_or h 0 0 * x + y)
    (dot_sum v (drop 1 h)
    ∙ sum_same (length v) (λ j. get_or (drop 1 h) j 0 * get_or v j 0) (λ j. get_or h (suc j) 0 * get_or v j 0)
    (λ j l. ap (λ (y : ℕ). y * get_or v j 0) (get_or-drop 1 h j 0 ∙ ap (λ (k : ℕ). get_or h k 0) (one-add j))))
    ∙ sym (sum_first (length v) (λ j. get_or h j 0 * get_or (x ∷ v) j 0))

pub dot_23 : (v h : List ℕ) → length v ≡ 23 → dot v h ≡ sum 23 (λ j. get_or h j 0 * get_or v j 0)
dot_23 v h e = subst (λ (n : ℕ). dot v h ≡ sum n (λ j. get_or h j 0 * get_or v j 0)) e (dot_sum v h)

pub products_long : (m B n : ℕ) (v h : List ℕ) → length (products m B n v h) ≡ n
unfolding products
products_long m B zero v h = refl
products_long m B (suc n) v h = ap suc (products_long m B n v (drop 1 h))

pub products_at : (m B n : ℕ) (v h : List ℕ) (i : ℕ) → i < n → length v ≡ 23
    → Congruent m (get_or (products m B n v h) i 0) (B * sum 23 (λ j. get_or h (i + j) 0 * get_or v j 0))
unfolding products
products_at m B zero v h i l e = absurd (not-suc-le-zero l)
products_at m B (suc n) v h zero l e =
    subst (Congruent m (B * dot v h % m))
    (ap (λ (x : ℕ). B * x) (dot_23 v h e ∙ sum_same 23 (λ j. get_or h j 0 * get_or v j 0) (λ j. get_or h (0 + j) 0 * get_or v j 0) (λ j r. ap (λ (k : ℕ). get_or h k 0 * get_or v j 0) (omega arith))))
    (remainder m (B * dot v h))
products_at m B (suc n) v h (suc i) l e =
    subst (Congruent m (get_or (products m B n v (drop 1 h)) i 0))
    (ap (λ (x : ℕ). B * x)
    (sum_same 23 (λ j. get_or (drop 1 h) (i + j) 0 * get_or v j 0) (λ j. get_or h (suc i + j) 0 * get_or v j 0)
    (λ j r. ap (λ (x : ℕ). x * get_or v j 0) (get_or-drop 1 h (i + j) 0 ∙ ap (λ (k : ℕ). get_or h k 0) (omega arith)))))
    (products_at m B n v (drop 1 h) i (le_of_suc-le-suc l) e)
