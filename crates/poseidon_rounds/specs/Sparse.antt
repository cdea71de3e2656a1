-- What the sparse form's tables hold, and what its partial rounds keep, for a permutation F, any B as 2^32, and K the number that the power divides out.
use Rattle.std.specs.Prelude.{◌≡◌, List, ℕ, zero, suc, ◌+◌, ◌*◌, ◌<◌, get_or}
use Rattle.basics.specs.Lists.{sum}
use Rattle.field.proofs.Congruence.{Congruent}
use Rattle.poseidon_rounds.specs.Linear.{times, inner, scaled}
use Rattle.poseidon_rounds.specs.Instance.{Instance, matrix, constant}

-- what the constants of the partial rounds before s come to in elements 1 to 23
unfoldable pub running : Instance → ℕ → ℕ → ℕ
running F zero i = 0
running F (suc s) i = sum 23 (λ j. matrix F (suc i) (suc j) * (running F s j + constant F (4 + s) (suc j)))

-- the constant that element 0 has with it, where k partial rounds are left
unfoldable pub carried : Instance → ℕ → ℕ → ℕ
carried F zero s = 0
carried F (suc k) s = constant F (4 + s) 0

-- the matrix's rows and columns 1 to 23, times B
abbrev pub lower : Instance → ℕ → ℕ → ℕ → ℕ
lower F B = scaled B (inner (matrix F))

-- the tables of the partial rounds: of round s, with k rounds after it
pub record SparseTables (F : Instance) (B K first_entry : ℕ) (sparse first_constants : List ℕ) : Type 0 where
  pub first_entry_right : Congruent F.modulus first_entry (K * B * matrix F 0 0)
  pub columns : (s k : ℕ) → s + suc k ≡ F.partial_rounds → (i : ℕ) → i < 23
      → Congruent F.modulus (get_or sparse (48 * s + 48 + 2 * suc i) 0) (K * B * times (lower F B) k (λ j. matrix F (suc j) 0) i)
  pub rows : (s k : ℕ) → s + suc k ≡ F.partial_rounds → (z : ℕ → ℕ)
      → Congruent F.modulus (sum 23 (λ i. get_or sparse (48 * s + 2 * suc i + 1) 0 * times (lower F B) (suc k) z i)) (B * sum 23 (λ j. matrix F 0 (suc j) * z j))
  pub rows_zero : (s k : ℕ) → s + suc k ≡ F.partial_rounds → Congruent F.modulus (get_or sparse (48 * s + 2 * 0 + 1) 0) 0
  pub first_constants_right : (s k : ℕ) → s + suc k ≡ F.partial_rounds
      → Congruent F.modulus (get_or first_constants s 0) ((sum 23 (λ j. matrix F 0 (suc j) * (running F s j + constant F (4 + s) (suc j))) + carried F k (suc s)) * B)

-- s partial rounds done and k left: x is element 0 of the state z, with its constant; v has elements 1 to 23
pub record Represents (F : Instance) (B s k x : ℕ) (v z : List ℕ) : Type 0 where
  pub first : Congruent F.modulus x (get_or z 0 0 + carried F k s)
  pub linear : ℕ → ℕ
  pub whole : (i : ℕ) → i < 23 → Congruent F.modulus (get_or z (suc i) 0) (linear i + running F s i)
  pub kept : (i : ℕ) → i < 23 → Congruent F.modulus (get_or v (suc i) 0) (times (lower F B) k linear i)
