-- What the partial rounds promise: that they are those of each instance whose tables they are given.
use Rattle.std.specs.Prelude.{◌≡◌, ℕ, suc, ◌+◌, ◌*◌, ◌%◌, ◌<◌, ◌≤◌, List, slice_index, slice_index_or}
use Rattle.basics.specs.Lists.{sum, Below}
use Rattle.field.proofs.Congruence.{Congruent}
use Rattle.montgomery.specs.Montgomery.{low_product, Inverse, Modulus, Divided, Power, scale}
use Rattle.poseidon_rounds.specs.Instance.{Instance, PartialRound}
use Rattle.poseidon_rounds.specs.Places.{Each}
use Rattle.poseidon_rounds.specs.Sparse.{SparseTables, Represents}

-- an entry of the column times y, and the element v, divided by the word
pub record NextElement (t v y m q e : ℕ) : Type 0 where
  pub narrow : e < 4294967296
  pub right : Inverse m q → m ≤ 2130706433 → v < 3188256770 → t < 2130706433 → y < 2131755009 → Divided m (t * y + v) e × (e < 3188256770)

-- what is left of a sum when the high part is taken away, though the sum has wrapped round
pub record LowPart (s high low : ℕ) : Type 0 where
  pub right : (a : ℕ) → a < 18446744073709551616 → s ≡ (high * 281474976710656 + a) % 18446744073709551616 → low ≡ a

-- a product of the row's entry at a place with the element
unfoldable pub row_term : List ℕ → ℕ → List ℕ → ℕ → ℕ
row_term t at v k = low_product (slice_index t (at + 2 * k + 1)) (slice_index v k)

-- what a partial round makes of elements 1 to 23, and of a number 0 that is not used; and the sum of the next row with them
pub record NextElements (t : List ℕ) (at y m q : ℕ) (v w : List ℕ) (low high : ℕ) : Type 0 where
  pub moved : Each 24 (λ k. NextElement (slice_index t (at + 2 * k)) (slice_index v k) y m q) w
  pub whole : high * 281474976710656 + low ≡ sum 24 (row_term t at w)
  pub low_le : low ≤ 6755399441055744
  pub high_le : high ≤ 1572864

-- e is a divided by the word modulo m, and not far above m
pub record FirstElement (m a e : ℕ) : Type 0 where
  pub same : Congruent m (e * 4294967296) a
  pub near : e < m + 4194304

pub record NextFirst (y first_entry low high c m q r e : ℕ) : Type 0 where
  pub right : Modulus m q r → y < 2131755009 → first_entry < 2130706433 → FirstElement m (y * first_entry + (high * 281474976710656 + low) + c) e

-- x, and the low 32 bits of elements 1 to 23 of v
pub record Rest (v : List ℕ) (x : ℕ) (out : List ℕ) : Type 0 where
  pub whole : Each 24 (λ k e. e < 4294967296) out
  pub first : slice_index_or out 0 0 ≡ x
  pub rest : (i : ℕ) → i < 23 → slice_index out (suc i) ≡ slice_index v (suc i) % 4294967296

-- what the numbers, the table and the state have to be, so that nothing passes 64 bits
pub record PartialSetting (m q r power first_entry n : ℕ) (sparse start : List ℕ) : Type 0 where
  pub modulus : Modulus m q r
  pub power_right : Power m power
  pub rounds : n ≤ 23
  pub entry_below : first_entry < 2130706433
  pub sparse_below : Below 2130706433 sparse
  pub near : Each 24 (λ k e. e < m + 1048576) start

-- the partial rounds of an instance: z has the states before and behind each. The state `start` goes in with the word still to divide out of elements
-- 1 to 23, whatever numbers v do that.
pub record PartialRun (m power first_entry n : ℕ) (sparse first_constants start out : List ℕ) : Type 0 where
  pub below : Each 24 (λ k e. e < 3188256770) out
  pub run : (F : Instance) (u : ℕ) (z : ℕ → List ℕ) → F.modulus ≡ m → F.power ≡ power → F.partial_rounds ≡ n → Congruent F.modulus (u * 4294967296) 1
      → SparseTables F 4294967296 (scale power) first_entry sparse first_constants
      → ((s : ℕ) → s < n → PartialRound F (4 + s) (z s) (z (suc s)))
      → ((v : List ℕ) → ((i : ℕ) → i < 23 → Congruent F.modulus (slice_index v (suc i) * 4294967296) (slice_index start (suc i)))
      → Represents F 4294967296 0 n (slice_index start 0) v (z 0))
      → Represents F 4294967296 n 0 (slice_index out 0) out (z n)

pub record PartialRounds (m q r power first_entry n : ℕ) (sparse first_constants start out : List ℕ) : Type 0 where
  pub right : PartialSetting m q r power first_entry n sparse start → PartialRun m power first_entry n sparse first_constants start out
