-- Counting faults, word by word, tells whether words alternate and have lengths.
-- Assumes nothing.
use mathlib.Core.Path.{◌≡◌, ◌∙◌, sym, ap, ap₂}
use mathlib.Core.Bool.{Bool, false, not}
use mathlib.Core.List.{List, ◌∷◌}
use Prim.Native.Nat.{ℕ, ◌+◌, ◌≤◌}
use native.Mathlib.Nat.{add-zero}
use native.Mathlib.Omega.{arith}
use borrow.Author.Tests.{eqb-true, eqb-false, ne_eqb, le-leb, lt-leb}
use lib.Dec.{eqb}
use Rattle.basics.specs.Logic.{◌and◌, same}
use Rattle.basics.proofs.Cases.{by, cases, if_true, if_false, and_false, same_not, same_false}
use Rattle.words.specs.Words.{is_absorb, length_of}
use Rattle.pattern.proofs.Soundness.{tests, tests_pass, tests_kind, tests_length}
use Rattle.sound_words.specs.Faults.{fault_of}

-- a chain of tests that fails, on either side
failed : (n f : ℕ) (a b : Bool) → a ≡ false → f ≡ 1 → (eqb n 0 and a) ≡ (eqb (n + f) 0 and b)
unfolding ◌and◌
failed n f a b e one =
    let some : eqb (n + f) 0 ≡ false = ne_eqb (n + f) 0 (λ z. omega arith) in
    ap (λ (x : Bool). eqb n 0 and x) e ∙ and_false (eqb n 0) ∙ sym (ap (λ (x : Bool). x and b) some)

pub fault_least : (last : Bool) (w : ℕ) → fault_of last w ≤ 1
unfolding fault_of
fault_least last w =
    by (λ (f : ℕ). f ≤ 1) (same last (is_absorb w)) _ _ (λ _. omega arith)
    λ _. by (λ (f : ℕ). f ≤ 1) (eqb (length_of w) 0) _ _ (λ _. omega arith) λ _. omega arith

-- one word further
pub counted : (n : ℕ) (last : Bool) (w : ℕ) (ws : List ℕ)
    → (eqb n 0 and tests (not last) (w ∷ ws)) ≡ (eqb (n + fault_of last w) 0 and tests (not (is_absorb w)) ws)
unfolding fault_of
counted n last w ws =
    cases (same last (is_absorb w))
    (λ e. failed n _ _ _ (tests_kind (not last) w ws (same_not last (is_absorb w) ∙ ap not e)) (if_true _ _ _ e))
    λ e.
    cases (eqb (length_of w) 0)
    (λ z.
    failed n _ _ _ (tests_length (not last) w ws (lt-leb 1 (length_of w) (omega (arith, eqb-true (length_of w) 0 z)))) (if_false _ _ _ e ∙ if_true _ _ _ z))
    λ z.
    let none = if_false (same last (is_absorb w)) 1 _ e ∙ if_false (eqb (length_of w) 0) 1 0 z in
    let some : 1 ≤ length_of w = omega (arith, eqb-false (length_of w) 0 z) in
    ap₂ (λ (k : ℕ) (x : Bool). eqb k 0 and x) (sym (ap (λ (f : ℕ). n + f) none ∙ add-zero n))
    (tests_pass (not last) w ws (same_not last (is_absorb w) ∙ ap not e) (le-leb 1 (length_of w) some)
    ∙ ap (λ (k : Bool). tests (not k) ws) (sym (same_false last (is_absorb w) e)))
