-- The fast permutation is the definition's.
-- Assumes nothing.
use mathlib.Core.Path.{◌≡◌, ◌∙◌, sym, ap, refl, subst}
use mathlib.Core.List.{List}
use Prim.Native.Nat.{ℕ, zero, suc, ◌+◌, ◌*◌, ◌%◌, ◌^◌, ◌<◌, ◌≤◌, zero-le, suc-le-suc}
use native.Mathlib.Nat.{add-mul, add-zero, mul-le-mul, mod-lt, mod-mod, le_of_suc-le-suc}
use native.Mathlib.Omega.{arith}
use lib.ListN.{length, get_or}
use lib.Seq.{ext_get_or}
use Rattle.basics.specs.Lists.{sum}
use Rattle.basics.proofs.Fill.{tabulate_at, length_tabulate}
use Rattle.field.proofs.Congruence.{Congruent, reflexive, transitive, add_congruent, mul_congruent}
use Rattle.montgomery.specs.Montgomery.{low_product, Modulus}
use Rattle.montgomery.proofs.Reduction.{low_product_law}
use Rattle.poseidon_rounds.specs.Instance.{Instance, FullRound, PartialRound}
use Rattle.poseidon_rounds.specs.Linear.{times}
use Rattle.poseidon_rounds.specs.Places.{Each, Alike}
use Rattle.poseidon_rounds.specs.Sparse.{running, carried, lower, Represents}
use Rattle.poseidon_rounds.specs.Tables.{Diagonals, pre_sparse, addend_before, addend_after, TablesOf}
use Rattle.poseidon_rounds.proofs.Congruence.{sum_congruent, cancel, equal_below}
use Rattle.poseidon_rounds.proofs.Sparse.{represents_start, represents_end}
use Rattle.poseidon_rounds.specs.Instance as any
use Rattle.poseidon_full.specs.Full.{RoundOf, FullRun}
use Rattle.poseidon_full.proofs.Full.{powers_alike}
use Rattle.poseidon_partial.specs.Partial.{PartialRun}
use Rattle.poseidon.specs.Permutation.{Parameters, permutation}
use Rattle.poseidon.specs.Steps.{remainders, Rescaled, instance, rounds_from, full_round, full_rounds}
use Rattle.poseidon.proofs.Rounds.{full_round_law, partial_round, three_parts, full_long, full_below}

-- a product of two numbers of 32 bits leaves room for a number of 32 bits
pub product_room : (a b : ℕ) → low_product a b ≤ 18446744065119617025
product_room a b =
    let ha : a % 4294967296 ≤ 4294967295 = omega arith in
    let hb : b % 4294967296 ≤ 4294967295 = omega arith in
    mul-le-mul ha hb

-- remainders are congruent to what they are of, and below m
pub remainder_at : (m : ℕ) (s : List ℕ) (i : ℕ) → i < 24 → get_or (remainders m s) i 0 ≡ get_or s i 0 % m
unfolding remainders
remainder_at m s i l = tabulate_at 24 (λ k. get_or s k 0 % m) i l

pub remainders_long : (m : ℕ) (s : List ℕ) → length (remainders m s) ≡ 24
unfolding remainders
remainders_long m s = length_tabulate 24 (λ k. get_or s k 0 % m)

remainder_congruent : (m : ℕ) (s : List ℕ) (i : ℕ) → i < 24 → Congruent m (get_or (remainders m s) i 0) (get_or s i 0)
remainder_congruent m s i l = record { same = ap (λ (x : ℕ). x % m) (remainder_at m s i l) ∙ mod-mod (get_or s i 0) m }

-- the parts of the code, one behind the other
module _ (G : Parameters) (state : List ℕ) {m q r power n word first_entry : ℕ} {t e sparse first_constants addends b x d f g : List ℕ} (pos : 0 < m) (modulus : Modulus m q r)
    (wordBelow : word < 4294967296)
    (hb : FullRun m power t addends 0 3 (remainders m state) b) (hx : Each 24 (RoundOf Diagonals m power e addends 3 4 b) x)
    (hd : PartialRun m power first_entry n sparse first_constants x d) (hf : Rescaled d word addends m q r f) (hg : FullRun m power t addends 6 4 f g)
    (u c : ℕ) (T : TablesOf (instance G) m power n word first_entry u c t e sparse first_constants addends) where
  abbrev F : Instance
  F = instance G

  abbrev z3 : List ℕ
  z3 = full_rounds G 0 3 state

  abbrev z4 : List ℕ
  z4 = full_round G 3 z3

  abbrev zn : List ℕ
  zn = rounds_from G 4 n z4

  abbrev pw : ℕ → ℕ
  pw j = (get_or z3 j 0 + any.constant F 3 j) ^ F.power

  into : {a b : ℕ} → Congruent m a b → Congruent F.modulus a b
  into {a} {b} h = subst (λ (k : ℕ). Congruent k a b) (sym T.full.modulus) h

  back : {a b : ℕ} → Congruent F.modulus a b → Congruent m a b
  back {a} {b} h = subst (λ (k : ℕ). Congruent k a b) T.full.modulus h

  full_at : (r k : ℕ) (z : List ℕ) → FullRound F (r + k) (full_rounds G r k z) (full_rounds G r (suc k) z)
  unfolding full_rounds
  full_at r k z = full_round_law G (r + k) (full_rounds G r k z)

  full_none : (r : ℕ) (z : List ℕ) → full_rounds G r 0 z ≡ z
  unfolding full_rounds
  full_none r z = refl

  b_right : Alike m b z3
  b_right =
      hb.run F u c 0 (λ k. full_rounds G 0 k state) T.full (record { right = λ k i lk li. T.early.right k i (omega arith) li }) (λ k l. full_at 0 k state)
      (subst (Alike m (remainders m state)) (sym (full_none 0 state)) (record { at = remainder_congruent m state }))

  x_right : (i : ℕ) → i < 24 → Congruent m (get_or x i 0) (sum 24 (λ j. pre_sparse F 4294967296 i j * pw j) + addend_before F i)
  x_right i l =
      let h : ℕ → ℕ = λ j. pre_sparse F 4294967296 i j * (get_or b j 0 + get_or addends (24 * 3 + j) 0) ^ power in
      transitive ((hx.each i l).same u c (pre_sparse F 4294967296) (addend_before F) T.full.unit T.full.factor T.pre_sparse_diagonals T.before)
      (add_congruent
      (sum_congruent 24 h (λ j. pre_sparse F 4294967296 i j * pw j)
      (λ j r. mul_congruent (reflexive (pre_sparse F 4294967296 i j)) (powers_alike 3 3 T.full b_right (λ a q. T.early.right 3 a (omega arith) q) j r)))
      (reflexive (addend_before F i)))

  started : (v : List ℕ) → ((i : ℕ) → i < 23 → Congruent F.modulus (get_or v (suc i) 0 * 4294967296) (get_or x (suc i) 0)) → Represents F 4294967296 0 n (get_or x 0 0) v z4
  unfolding pre_sparse addend_before
  started v hv =
      represents_start F 4294967296 u n (into T.full.unit) x v pw z4 (carried F F.partial_rounds 0) (ap (λ (k : ℕ). carried F k 0) T.rounds)
      (λ i l. (full_round_law G 3 z3).at i l)
      (into (x_right 0 (suc-le-suc zero-le)))
      (λ i l.
      subst (λ (k : ℕ). Congruent F.modulus (get_or x (suc i) 0) (sum 24 (λ j. 4294967296 * times (lower F 4294967296) k (λ a. any.matrix F (suc a) j) i * pw j))) T.rounds
      (subst (Congruent F.modulus (get_or x (suc i) 0)) (add-zero (sum 24 (λ j. 4294967296 * times (lower F 4294967296) F.partial_rounds (λ a. any.matrix F (suc a) j) i * pw j)))
      (into (x_right (suc i) (suc-le-suc l)))))
      hv

  from_none : (z : List ℕ) → rounds_from G 4 0 z ≡ z
  unfolding rounds_from
  from_none z = refl

  partial_at : (s : ℕ) → s < n → PartialRound F (4 + s) (rounds_from G 4 s z4) (rounds_from G 4 (suc s) z4)
  unfolding rounds_from
  partial_at s l = partial_round G s (rounds_from G 4 s z4) (subst (λ (k : ℕ). s < k) (sym T.rounds) l)

  ended : Represents F 4294967296 n 0 (get_or d 0 0) d zn
  ended =
      hd.run F u (λ s. rounds_from G 4 s z4) T.full.modulus T.full.power_right T.rounds (into T.full.unit) T.sparse_right partial_at
      (λ v h. subst (Represents F 4294967296 0 n (get_or x 0 0) v) (sym (from_none z4)) (started v h))

  after_right : (i : ℕ) → i < 24 → Congruent m (get_or d i 0 + addend_after F i) (get_or zn i 0)
  unfolding addend_after
  after_right zero l = subst (λ (a : ℕ). Congruent m a (get_or zn 0 0)) (sym (add-zero (get_or d 0 0))) (back (represents_end F 4294967296 n (get_or d 0 0) d zn ended).0)
  after_right (suc i) l =
      subst (λ (k : ℕ). Congruent m (get_or d (suc i) 0 + running F k i) (get_or zn (suc i) 0)) (sym T.rounds)
      (back ((represents_end F 4294967296 n (get_or d 0 0) d zn ended).1 i (le_of_suc-le-suc l)))

  f_right : Alike m f zn
  f_right =
      record {
        at = λ i l.
            let hd' = hd.below.each i l in
            let w : low_product (get_or d i 0) word ≡ get_or d i 0 * word = low_product_law (omega arith) wordBelow in
            let a : Congruent m (get_or f i 0 * 4294967296) ((get_or d i 0 + addend_after F i) * 4294967296) =
            subst (Congruent m (get_or f i 0 * 4294967296)) (sym (add-mul (get_or d i 0) (addend_after F i) 4294967296))
            (transitive (subst (λ (y : ℕ). Congruent m (get_or f i 0 * 4294967296) (y + get_or addends (120 + i) 0)) w ((hf.each i l).right modulus).same)
            (add_congruent (mul_congruent (reflexive (get_or d i 0)) T.word_right) (T.after i l))) in
            transitive (cancel m 4294967296 u (get_or f i 0) (get_or d i 0 + addend_after F i) T.full.unit a) (after_right i l);
      }

  g_right : Alike m g (full_rounds G (4 + n) 4 zn)
  g_right = hg.run F u c (4 + n) (λ k. full_rounds G (4 + n) k zn) T.full T.late (λ k l. full_at (4 + n) k zn) (subst (Alike m f) (sym (full_none (4 + n) zn)) f_right)

  whole : permutation G state ≡ full_rounds G (4 + n) 4 zn
  unfolding full_rounds
  whole = three_parts G state ∙ ap (λ (k : ℕ). full_rounds G (4 + k) 4 (rounds_from G 4 k (full_rounds G 0 4 state))) T.rounds

  pub permuted_by : remainders m g ≡ permutation G state
  permuted_by =
      let z : List ℕ = full_rounds G (4 + n) 4 zn in
      ext_get_or 0 (remainders m g) z (remainders_long m g ∙ sym (full_long G (4 + n) 3 zn))
      (λ i h.
      let l : i < 24 = subst (λ (k : ℕ). i < k) (remainders_long m g) h in
      equal_below (subst (λ (y : ℕ). y < m) (sym (remainder_at m g i l)) (mod-lt (get_or g i 0) pos))
      (subst (λ (k : ℕ). get_or z i 0 < k) T.full.modulus (full_below G (4 + n) 3 zn i (subst (λ (k : ℕ). 0 < k) (sym T.full.modulus) pos) l))
      (transitive (remainder_congruent m g i l) (g_right.at i l)))
      ∙ sym whole
