-- What full rounds promise: that they are those of each instance whose tables they are given.
use Rattle.std.specs.Prelude.{◌≡◌, ℕ, suc, ◌+◌, ◌-◌, ◌*◌, ◌%◌, ◌^◌, ◌<◌, ◌≤◌, List, length, slice_index}
use Rattle.basics.specs.Lists.{sum, Below}
use Rattle.field.proofs.Congruence.{Congruent}
use Rattle.montgomery.specs.Montgomery.{Modulus, Power, Copies, Raised, scale}
use Rattle.poseidon_rounds.specs.Instance.{Instance, FullRound}
use Rattle.poseidon_rounds.specs.PlainSums.{plain_sums}
use Rattle.poseidon_rounds.specs.Places.{Each, Alike}
use Rattle.poseidon_rounds.specs.Tables.{FullTable, Constants}

-- the plain sum of an element with its constant in a row of the table, where it fits 32 bits
abbrev pub Summed : List ℕ → List ℕ → ℕ → ℕ → ℕ → Type 0
Summed x addends row k e = slice_index (plain_sums addends (row % 11) x) k < 4294967296 → e ≡ slice_index (plain_sums addends (row % 11) x) k

abbrev pub Sums : List ℕ → List ℕ → ℕ → List ℕ → Type 0
Sums x addends row out = Each 24 (Summed x addends row) out

-- the power of an element, by the copies of the numbers at its place
abbrev pub RaisedAt : ℕ → List ℕ → List ℕ → ℕ → ℕ → Type 0
RaisedAt power x p k y =
    Raised power (slice_index x k) (slice_index p k) (slice_index p (24 + k)) (slice_index p (48 + k)) (slice_index p (72 + k)) (slice_index p (96 + k)) (slice_index p (120 + k)) (slice_index p (144 + k))
    (slice_index p (168 + k)) (slice_index p (192 + k)) y

-- the powers of 24 elements, twice
pub record Powers (power : ℕ) (x p y : List ℕ) : Type 0 where
  pub long : length y ≡ 48
  pub first : (k : ℕ) → k < 24 → RaisedAt power x p k (slice_index y k)
  pub again : (k : ℕ) → k < 24 → slice_index y (24 + k) ≡ slice_index y k

-- the powers of 24 elements, once
abbrev pub PowersOnce : ℕ → List ℕ → List ℕ → List ℕ → Type 0
PowersOnce power x p y = Each 24 (RaisedAt power x p) y

-- a table of 24 copies of each number: m and q four times in turn, then r
pub record Numbers (m q r : ℕ) (p : List ℕ) : Type 0 where
  pub at_m : (k : ℕ) → k < 24 → slice_index p k ≡ m
  pub at_q : (k : ℕ) → k < 24 → slice_index p (24 + k) ≡ q
  pub at_copies : (k : ℕ) → k < 24
      → Copies m q (slice_index p (48 + k)) (slice_index p (72 + k)) (slice_index p (96 + k)) (slice_index p (120 + k)) (slice_index p (144 + k)) (slice_index p (168 + k))
  pub at_r : (k : ℕ) → k < 24 → slice_index p (192 + k) ≡ r

-- what the numbers and tables have to be, so that nothing passes 64 bits
pub record Setting (m q r power : ℕ) (t addends p : List ℕ) : Type 0 where
  pub modulus : Modulus m q r
  pub power_right : Power m power
  pub numbers : Numbers m q r p
  pub table_below : Below 2130706433 t
  pub addends_below : Below 2130706433 addends

-- 24 elements that are all but below m
abbrev pub Near : ℕ → List ℕ → Type 0
Near m x = Each 24 (λ k e. e < m + 1048576) x

-- element k after a full round of any matrix A that the table holds, by diagonals or in blocks, with what `begin` says added
pub record RoundOf (Holds : ℕ → ℕ → (ℕ → ℕ → ℕ) → List ℕ → Type 0) (m power : ℕ) (t addends : List ℕ) (constantsRow addendsRow : ℕ) (x : List ℕ) (k e : ℕ) : Type 0 where
  pub near : e < m + 1048576
  pub same : (u c : ℕ) (A : ℕ → ℕ → ℕ) (begin : ℕ → ℕ) → Congruent m (u * 4294967296) 1
      → Congruent m c (4294967296 * scale power) → Holds m c A t
      → ((i : ℕ) → i < 24 → Congruent m (slice_index addends (24 * addendsRow + i)) (begin i * 4294967296))
      → Congruent m e (sum 24 (λ j. A k j * (slice_index x j + slice_index addends (24 * constantsRow + j)) ^ power) + begin k)

-- a full round
pub record Round (Holds : ℕ → ℕ → (ℕ → ℕ → ℕ) → List ℕ → Type 0) (m q r power : ℕ) (t addends p : List ℕ) (constantsRow addendsRow : ℕ) (x out : List ℕ) : Type 0 where
  pub right : Setting m q r power t addends p → constantsRow < 11 → addendsRow < 11 → Near m x
      → Each 24 (RoundOf Holds m power t addends constantsRow addendsRow x) out

-- n full rounds of an instance from round first on: z has the states before and behind each
pub record FullRun (m power : ℕ) (t addends : List ℕ) (first n : ℕ) (x out : List ℕ) : Type 0 where
  pub near : Near m out
  pub run : (F : Instance) (u c r : ℕ) (z : ℕ → List ℕ) → FullTable F m power u c t addends → Constants F m addends first r n
      → ((k : ℕ) → k < n → FullRound F (r + k) (z k) (z (suc k))) → Alike m x (z 0) → Alike m out (z n)

pub record Rounds (m q r power : ℕ) (t addends p : List ℕ) (first last : ℕ) (x out : List ℕ) : Type 0 where
  pub right : Setting m q r power t addends p → first ≤ last → last ≤ 10 → Near m x → FullRun m power t addends first (last - first) x out
