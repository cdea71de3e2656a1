-- A partial round in the sparse form is the definition's: the powers of the matrix's lower part, the running constants and the scale, in one step.
-- Assumes nothing.
use mathlib.Core.Path.{◌≡◌, ◌∙◌, sym, ap, ap₂, subst}
use mathlib.Core.List.{List}
use Prim.Native.Nat.{ℕ, suc, ◌+◌, ◌*◌, ◌^◌, ◌<◌, zero-le, suc-le-suc}
use native.Mathlib.Nat.{mul_assoc, mul_comm, mul-add, add-mul, zero-mul, mul_right_comm, add_assoc, add-zero, zero-add}
use native.Mathlib.Omega.{arith}
use lib.ListN.{get_or}
use Rattle.basics.specs.Lists.{sum}
use Rattle.basics.proofs.Sums.{sum_same}
use Rattle.field.proofs.Congruence.{Congruent, reflexive, transitive, add_congruent, mul_congruent}
use Rattle.poseidon_rounds.specs.Linear.{turn, times, inner}
use Rattle.poseidon_rounds.specs.Instance.{Instance, matrix, constant, PartialRound}
use Rattle.poseidon_rounds.specs.Sparse.{running, carried, lower, SparseTables, Represents}
use Rattle.poseidon_rounds.proofs.Congruence.{opposite, sum_congruent, pow_congruent, cancel}
use Rattle.poseidon_rounds.proofs.Linear.{sum_add, sum_first, sum_times, times_linear, times_scale, times_sum, turn_scaled}

-- rearrangements of products
column_products : (K B t y : ℕ) → K * B * t * y ≡ y * K * t * B
column_products K B t y =
    mul_comm (K * B * t) y ∙ sym (mul_assoc y (K * B) t) ∙ ap (λ (x : ℕ). x * t) (sym (mul_assoc y K B)) ∙ mul_right_comm (y * K) B t

first_entry_products : (K B a y : ℕ) → y * (K * B * a) ≡ y * K * a * B
first_entry_products K B a y = mul_comm y (K * B * a) ∙ column_products K B a y

three_times : (B a b c d : ℕ) → a * B + B * b + (c + d) * B ≡ (a + (b + c) + d) * B
three_times B a b c d =
    ap₂ (λ (x y : ℕ). a * B + x + y) (mul_comm B b) (add-mul c d B)
    ∙ sym (add-mul (a + (b + c)) d B ∙ ap (λ (x : ℕ). x + d * B) (add-mul a (b + c) B ∙ ap (λ (x : ℕ). a * B + x) (add-mul b c B)) ∙ omega arith)

row_split : (n : ℕ) (l f g : ℕ → ℕ) → sum n (λ j. l j * (f j + g j)) ≡ sum n (λ j. l j * f j) + sum n (λ j. l j * g j)
row_split n l f g =
    sum_same n (λ j. l j * (f j + g j)) (λ j. l j * f j + l j * g j) (λ j h. mul-add (l j) (f j) (g j)) ∙ sum_add n (λ j. l j * f j) (λ j. l j * g j)

module _ (F : Instance) (B K u first_entry : ℕ) (sparse first_constants : List ℕ) (hu : Congruent F.modulus (u * B) 1) (T : SparseTables F B K first_entry sparse first_constants) where
  abbrev Is : ℕ → ℕ → Type 0
  Is a b = Congruent F.modulus a b

  abbrev L : ℕ → ℕ → ℕ
  L = lower F B

  abbrev N : ℕ → ℕ → ℕ
  N = inner (matrix F)

  -- a row of the matrix with the state and its constants, in the linear part and the running constants
  row_parts : (s k x : ℕ) (v z : List ℕ) (t : Represents F B s k x v z) (l : ℕ → ℕ)
      → Is (sum 23 (λ j. l j * (get_or z (suc j) 0 + constant F (4 + s) (suc j))))
      (sum 23 (λ j. l j * t.linear j) + sum 23 (λ j. l j * (running F s j + constant F (4 + s) (suc j))))
  row_parts s k x v z t l =
      subst (Is (sum 23 (λ j. l j * (get_or z (suc j) 0 + constant F (4 + s) (suc j)))))
      (row_split 23 l t.linear (λ j. running F s j + constant F (4 + s) (suc j)))
      (sum_congruent 23 (λ j. l j * (get_or z (suc j) 0 + constant F (4 + s) (suc j))) (λ j. l j * (t.linear j + (running F s j + constant F (4 + s) (suc j))))
      (λ j h. mul_congruent (reflexive (l j))
      (subst (Is (get_or z (suc j) 0 + constant F (4 + s) (suc j))) (add_assoc (t.linear j) (running F s j) (constant F (4 + s) (suc j)))
      (add_congruent (t.whole j h) (reflexive (constant F (4 + s) (suc j)))))))

  -- the head's row with the elements that are kept
  row_sum_law : (s k x : ℕ) (v z : List ℕ) (t : Represents F B s (suc k) x v z) → s + suc k ≡ F.partial_rounds
      → Is (sum 24 (λ i. get_or sparse (48 * s + 2 * i + 1) 0 * get_or v i 0)) (B * sum 23 (λ j. matrix F 0 (suc j) * t.linear j))
  row_sum_law s k x v z t e =
      let f : ℕ → ℕ = λ i. get_or sparse (48 * s + 2 * i + 1) 0 * get_or v i 0 in
      let g : ℕ → ℕ = λ i. get_or sparse (48 * s + 2 * suc i + 1) 0 * times L (suc k) t.linear i in
      let first : Is (f 0) 0 = subst (Is (f 0)) (zero-mul (get_or v 0 0)) (mul_congruent (T.rows_zero s k e) (reflexive (get_or v 0 0))) in
      let rest : Is (sum 23 (λ i. f (suc i))) (sum 23 g) =
      sum_congruent 23 (λ i. f (suc i)) g (λ i h. mul_congruent (reflexive (get_or sparse (48 * s + 2 * suc i + 1) 0)) (t.kept i h)) in
      let both : Is (f 0 + sum 23 (λ i. f (suc i))) (sum 23 g) = subst (Is (f 0 + sum 23 (λ i. f (suc i)))) (zero-add (sum 23 g)) (add_congruent first rest) in
      subst (λ (a : ℕ). Is a (B * sum 23 (λ j. matrix F 0 (suc j) * t.linear j))) (sym (sum_first 23 f)) (transitive both (T.rows s k e t.linear))

  module _ (s k x x' y S : ℕ) (v v' z w : List ℕ) (r : PartialRound F (4 + s) z w) (e : s + suc k ≡ F.partial_rounds) (t : Represents F B s (suc k) x v z)
      (hy : Congruent F.modulus (y * K) (x ^ F.power))
      (hS : S ≡ sum 24 (λ i. get_or sparse (48 * s + 2 * i + 1) 0 * get_or v i 0))
      (hx : Congruent F.modulus (x' * B) (y * first_entry + S + get_or first_constants s 0))
      (hv : (i : ℕ) → i < 23 → Congruent F.modulus (get_or v' (suc i) 0 * B) (get_or sparse (48 * s + 48 + 2 * suc i) 0 * y + get_or v (suc i) 0)) where
    abbrev P : ℕ
    P = (get_or z 0 0 + constant F (4 + s) 0) ^ F.power

    power_right : Is (y * K) P
    unfolding carried
    power_right = transitive hy (pow_congruent F.power t.first)

    abbrev next : ℕ → ℕ
    next i = P * matrix F (suc i) 0 + turn N t.linear i

    next_kept_law : (i : ℕ) → i < 23 → Is (get_or v' (suc i) 0) (times L k next i)
    unfolding times
    next_kept_law i h =
        let ta : ℕ = times L k (λ j. matrix F (suc j) 0) i in
        let tn : ℕ = times L k (turn N t.linear) i in
        let one : Is (get_or sparse (48 * s + 48 + 2 * suc i) 0 * y) (P * ta * B) =
        transitive (mul_congruent (T.columns s k e i h) (reflexive y))
        (subst (λ (a : ℕ). Is a (P * ta * B)) (sym (column_products K B ta y)) (mul_congruent (mul_congruent power_right (reflexive ta)) (reflexive B))) in
        let scale : times L k (turn L t.linear) i ≡ tn * B =
        ap (λ (f : ℕ → ℕ). f i) (ap (times L k) (turn_scaled B N t.linear) ∙ times_scale L k B (turn N t.linear)) ∙ mul_comm B tn in
        let two : Is (get_or v (suc i) 0) (tn * B) = subst (Is (get_or v (suc i) 0)) scale (t.kept i h) in
        let sum-right : P * ta * B + tn * B ≡ times L k next i * B =
        sym (add-mul (P * ta) tn B) ∙ ap (λ (f : ℕ → ℕ). f i * B) (sym (times_linear L k P (λ j. matrix F (suc j) 0) (turn N t.linear))) in
        cancel F.modulus B u (get_or v' (suc i) 0) (times L k next i) hu
        (transitive (hv i h) (subst (Is (get_or sparse (48 * s + 48 + 2 * suc i) 0 * y + get_or v (suc i) 0)) sum-right (add_congruent one two)))

    next_whole : (i : ℕ) → i < 23 → Is (get_or w (suc i) 0) (next i + running F (suc s) i)
    unfolding running turn
    next_whole i h =
        let parts = row_parts s (suc k) x v z t (λ j. matrix F (suc i) (suc j)) in
        let un : ℕ = sum 23 (λ j. matrix F (suc i) (suc j) * t.linear j) in
        let run : ℕ = sum 23 (λ j. matrix F (suc i) (suc j) * (running F s j + constant F (4 + s) (suc j))) in
        let shape : matrix F (suc i) 0 * P + (un + run) ≡ P * matrix F (suc i) 0 + un + run =
        sym (add_assoc (matrix F (suc i) 0 * P) un run) ∙ ap (λ (a : ℕ). a + un + run) (mul_comm (matrix F (suc i) 0) P) in
        transitive (r.at (suc i) (suc-le-suc h))
        (subst (Is (matrix F (suc i) 0 * P + sum 23 (λ j. matrix F (suc i) (suc j) * (get_or z (suc j) 0 + constant F (4 + s) (suc j))))) shape
        (add_congruent (reflexive (matrix F (suc i) 0 * P)) parts))

    next_first : Is x' (get_or w 0 0 + carried F k (suc s))
    next_first =
        let a : ℕ = matrix F 0 0 in
        let un : ℕ = sum 23 (λ j. matrix F 0 (suc j) * t.linear j) in
        let run : ℕ = sum 23 (λ j. matrix F 0 (suc j) * (running F s j + constant F (4 + s) (suc j))) in
        let d : ℕ = carried F k (suc s) in
        let one : Is (y * first_entry) (P * a * B) =
        transitive (mul_congruent (reflexive y) T.first_entry_right)
        (subst (λ (n : ℕ). Is n (P * a * B)) (sym (first_entry_products K B a y)) (mul_congruent (mul_congruent power_right (reflexive a)) (reflexive B))) in
        let two : Is S (B * un) = subst (λ (n : ℕ). Is n (B * un)) (sym hS) (row_sum_law s k x v z t e) in
        let all : Is (x' * B) ((P * a + (un + run) + d) * B) =
        transitive hx (subst (Is (y * first_entry + S + get_or first_constants s 0)) (three_times B (P * a) un run d)
        (add_congruent (add_congruent one two) (T.first_constants_right s k e))) in
        let z0 : Is (get_or w 0 0) (P * a + (un + run)) =
        transitive (r.at 0 (suc-le-suc zero-le))
        (subst (λ (n : ℕ). Is (matrix F 0 0 * P + sum 23 (λ j. matrix F 0 (suc j) * (get_or z (suc j) 0 + constant F (4 + s) (suc j)))) (n + (un + run))) (mul_comm a P)
        (add_congruent (reflexive (a * P)) (row_parts s (suc k) x v z t (λ j. matrix F 0 (suc j))))) in
        transitive (cancel F.modulus B u x' (P * a + (un + run) + d) hu all) (add_congruent (opposite z0) (reflexive d))

    -- one partial round
    pub represents_step : Represents F B (suc s) k x' v' w
    represents_step = record { first = next_first; linear = next; whole = next_whole; kept = next_kept_law }

-- The entry: u the powers of round 3, x the product with the entry matrix, v with B divided out once more.
module _ (F : Instance) (B w n : ℕ) (hw : Congruent F.modulus (w * B) 1) (x v : List ℕ) (pw : ℕ → ℕ) where
  abbrev Is' : ℕ → ℕ → Type 0
  Is' a c = Congruent F.modulus a c

  -- z is the state that the definition has, x is what the code has
  pub represents_start : (z : List ℕ) (d : ℕ) → d ≡ carried F n 0
      → ((i : ℕ) → i < 24 → Is' (get_or z i 0) (sum 24 (λ j. matrix F i j * pw j)))
      → Is' (get_or x 0 0) (sum 24 (λ j. matrix F 0 j * pw j) + d)
      → ((i : ℕ) → i < 23 → Is' (get_or x (suc i) 0) (sum 24 (λ j. B * times (lower F B) n (λ l. matrix F (suc l) j) i * pw j)))
      → ((i : ℕ) → i < 23 → Is' (get_or v (suc i) 0 * B) (get_or x (suc i) 0))
      → Represents F B 0 n (get_or x 0 0) v z
  unfolding running
  represents_start z d ed hz h0 hx hv =
      let U : ℕ → ℕ = λ i. sum 24 (λ j. matrix F (suc i) j * pw j) in
      let shape : (i : ℕ) → sum 24 (λ j. B * times (lower F B) n (λ l. matrix F (suc l) j) i * pw j) ≡ times (lower F B) n U i * B =
      λ i.
      sum_same 24 (λ j. B * times (lower F B) n (λ l. matrix F (suc l) j) i * pw j) (λ j. B * (times (lower F B) n (λ l. matrix F (suc l) j) i * pw j))
      (λ j h. mul_assoc B (times (lower F B) n (λ l. matrix F (suc l) j) i) (pw j))
      ∙ sum_times 24 B (λ j. times (lower F B) n (λ l. matrix F (suc l) j) i * pw j)
      ∙ ap (λ (a : ℕ). B * a) (ap (λ (f : ℕ → ℕ). f i) (sym (times_sum (lower F B) n 24 pw (λ j l. matrix F (suc l) j))))
      ∙ mul_comm B (times (lower F B) n U i) in
      record {
        first = subst (λ (a : ℕ). Is' (get_or x 0 0) (get_or z 0 0 + a)) ed (transitive h0 (add_congruent (opposite (hz 0 (suc-le-suc zero-le))) (reflexive d)));
        linear = U;
        whole = λ i h. subst (Is' (get_or z (suc i) 0)) (sym (add-zero (U i))) (hz (suc i) (suc-le-suc h));
        kept = λ i h. cancel F.modulus B w (get_or v (suc i) 0) (times (lower F B) n U i) hw
            (transitive (hv i h) (subst (Is' (get_or x (suc i) 0)) (shape i) (hx i h)));
      }

-- all rounds done: what is left is to add the running constants
pub represents_end : (F : Instance) (B s x : ℕ) (v z : List ℕ) → Represents F B s 0 x v z
    → Congruent F.modulus x (get_or z 0 0) × ((i : ℕ) → i < 23 → Congruent F.modulus (get_or v (suc i) 0 + running F s i) (get_or z (suc i) 0))
unfolding times carried
represents_end F B s x v z t =
    (subst (Congruent F.modulus x) (add-zero (get_or z 0 0)) t.first, λ i h. opposite (transitive (t.whole i h) (add_congruent (opposite (t.kept i h)) (reflexive (running F s i)))))
