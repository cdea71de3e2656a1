-- Powers in few products, over any modulus: the remainders of the products may as well be taken at the end.
-- Assumes nothing.
use mathlib.Core.Path.{◌≡◌, ◌∙◌, ap}
use Prim.Native.Nat.{ℕ, ◌*◌, ◌%◌, ◌^◌}
use native.Mathlib.Nat.{mul_assoc, one-mul, pow-suc, pow-zero}
use Rattle.field.proofs.Congruence.{Congruent, reflexive, transitive, mul_congruent, reduced}

third : (a : ℕ) → a * a * a ≡ a ^ 3
third a = rw (pow-suc a 2, pow-suc a 1, pow-suc a 0, pow-zero a, one-mul a) (simp mul_assoc)

seventh : (a : ℕ) → (a * a) * (a * a) * ((a * a) * a) ≡ a ^ 7
seventh a =
    rw (pow-suc a 6, pow-suc a 5, pow-suc a 4, pow-suc a 3, pow-suc a 2, pow-suc a 1, pow-suc a 0, pow-zero a, one-mul a) (simp mul_assoc)

module _ (m a : ℕ) {square cube : ℕ} (e₂ : square ≡ (a * a) % m) (e₃ : cube ≡ (square * a) % m) where
  squared : Congruent m square (a * a)
  squared = reduced e₂

  pub by_cube : cube ≡ a ^ 3 % m
  by_cube = e₃ ∙ (mul_congruent squared (reflexive a)).same ∙ ap (λ (x : ℕ). x % m) (third a)

  pub by_square_and_cube : {fourth r : ℕ} → fourth ≡ (square * square) % m → r ≡ (fourth * cube) % m → r ≡ a ^ 7 % m
  by_square_and_cube {fourth} {r} e₄ e₇ =
      let c : Congruent m cube (a * a * a) = transitive (reduced e₃) (mul_congruent squared (reflexive a)) in
      let f : Congruent m fourth (a * a * (a * a)) = transitive (reduced e₄) (mul_congruent squared squared) in
      e₇ ∙ (mul_congruent f c).same ∙ ap (λ (x : ℕ). x % m) (seventh a)
