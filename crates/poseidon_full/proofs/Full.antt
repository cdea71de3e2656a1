-- Full rounds put together: what the loops fill, and that a round of the code is one of each instance whose tables it has.
-- Assumes nothing.
use Rattle.std.proofs.Common.{◌≡◌, ℕ, zero, suc, ◌+◌, ◌-◌, ◌*◌, ◌%◌, ◌^◌, ◌<◌, ◌≤◌, List, length, get_or, set, replicate, sym, refl, ap, ◌∙◌, subst, zero-le, not-suc-le-zero, add-zero, mod-eq_of_lt, zero-lt-suc, mul_assoc, mul_comm, add-mul, add_comm, zero-mul, mul_left_comm, arith, length-set, get_or-set_other, get_or-set_same}
use lib.ListN.{get_or-eq_default}
use Rattle.basics.specs.Lists.{sum, Below}
use Rattle.basics.proofs.Below.{at_below, below_at}
use Rattle.basics.proofs.Sums.{sum_same}
use Rattle.field.proofs.Congruence.{Congruent, reflexive, transitive, add_congruent, mul_congruent}
use Rattle.montgomery.specs.Montgomery.{Modulus, Element, scale, PowerOf, Power, Copies}
use Rattle.poseidon_rounds.specs.Instance.{Instance, matrix, constant, FullRound}
use Rattle.poseidon_rounds.specs.Places.{Each, Alike}
use Rattle.poseidon_rounds.specs.Tables.{Diagonals, Blocks, FullTable}
use Rattle.poseidon_rounds.proofs.Congruence.{opposite, sum_congruent, pow_congruent, cancel}
use Rattle.poseidon_rounds.proofs.Places.{either}
use Rattle.poseidon_rounds.proofs.PlainSums.{plain_sum_at}
use Rattle.poseidon_matrix.specs.Matrix.{row_sum, Product}
use Rattle.poseidon_blocks.specs.Blocks as blocks
use Rattle.poseidon_matrix.proofs.Rotation.{row_is_matrix}
use Rattle.poseidon_full.specs.Full.{Sums, RaisedAt, Powers, PowersOnce, Numbers, Setting, Near, RoundOf, Round, FullRun, Rounds}

-- the loop that raises all elements
pub record Raising (power : ℕ) (x p out : List ℕ) (i : ℕ) : Type 0 where
  pub within : i ≤ 24
  pub long : length out ≡ 48
  pub first : (k : ℕ) → k < i → RaisedAt power x p k (get_or out k 0)
  pub again : (k : ℕ) → k < i → get_or out (24 + k) 0 ≡ get_or out k 0

pub raising_start : {power : ℕ} {x p : List ℕ} → Raising power x p (replicate 48 0) 0
raising_start =
    record { within = zero-le; long = refl; first = λ k h. absurd (not-suc-le-zero h); again = λ k h. absurd (not-suc-le-zero h) }

pub raising_step : {power : ℕ} {x p out : List ℕ} {i : ℕ} (y : ℕ) → Raising power x p out i → i < 24 → RaisedAt power x p i y
    → Raising power x p (set (set out i y) (i + 24) y) (i + 1)
raising_step {power} {x} {p} {out} {i} y f h r =
    let a : List ℕ = set out i y in
    let b : List ℕ = set a (i + 24) y in
    let la : length a ≡ 48 = length-set out i y ∙ f.long in
    let other : (k : ℕ) → (k ≡ i → ⊥) → (k ≡ i + 24 → ⊥) → get_or b k 0 ≡ get_or out k 0 =
    λ k n₁ n₂. get_or-set_other a (i + 24) k y 0 n₂ ∙ get_or-set_other out i k y 0 n₁ in
    let here : get_or b i 0 ≡ y = get_or-set_other a (i + 24) i y 0 (λ e. omega arith) ∙ get_or-set_same out i y 0 (omega (arith, f.long)) in
    let there : get_or b (24 + i) 0 ≡ y = rw (add_comm 24 i) (get_or-set_same a (i + 24) y 0 (omega (arith, la))) in
    record {
      within = omega arith;
      long = length-set a (i + 24) y ∙ la;
      first = λ k l. either i k
          (λ e. subst (λ (j : ℕ). RaisedAt power x p j (get_or b j 0)) (sym e) (subst (RaisedAt power x p i) (sym here) r))
          (λ n. subst (RaisedAt power x p k) (sym (other k (λ e. omega arith) (λ e. omega arith))) (f.first k n))
          (λ n. absurd (omega arith));
      again = λ k l. either i k
          (λ e. subst (λ (j : ℕ). get_or b (24 + j) 0 ≡ get_or b j 0) (sym e) (there ∙ sym here))
          (λ n. other (24 + k) (λ e. omega arith) (λ e. omega arith) ∙ f.again k n ∙ sym (other k (λ e. omega arith) (λ e. omega arith)))
          (λ n. absurd (omega arith));
    }

pub raising_end : {power : ℕ} {x p out : List ℕ} {i : ℕ} → Raising power x p out i → 24 ≤ i → Powers power x p out
raising_end f h = record { long = f.long; first = λ k l. f.first k (omega arith); again = λ k l. f.again k (omega arith) }

-- the numbers at a place of their table
modulus_at : {m q r : ℕ} {p : List ℕ} (i : ℕ) → i < 24 → Numbers m q r p → Modulus m q r → Modulus (get_or p i 0) (get_or p (24 + i) 0) (get_or p (192 + i) 0)
modulus_at {m} {q} {r} {p} i h n k =
    subst (λ (z : ℕ). Modulus z (get_or p (24 + i) 0) (get_or p (192 + i) 0)) (sym (n.at_m i h))
    (subst (λ (z : ℕ). Modulus m z (get_or p (192 + i) 0)) (sym (n.at_q i h)) (subst (Modulus m q) (sym (n.at_r i h)) k))

copies_at : {m q r : ℕ} {p : List ℕ} (i : ℕ) → i < 24 → Numbers m q r p
    → Copies (get_or p i 0) (get_or p (24 + i) 0) (get_or p (48 + i) 0) (get_or p (72 + i) 0) (get_or p (96 + i) 0) (get_or p (120 + i) 0) (get_or p (144 + i) 0) (get_or p (168 + i) 0)
copies_at {m} {q} {r} {p} i h n =
    let c = n.at_copies i h in
    record {
      second_m = c.second_m ∙ sym (n.at_m i h);
      second_q = c.second_q ∙ sym (n.at_q i h);
      third_m = c.third_m ∙ sym (n.at_m i h);
      third_q = c.third_q ∙ sym (n.at_q i h);
      fourth_m = c.fourth_m ∙ sym (n.at_m i h);
      fourth_q = c.fourth_q ∙ sym (n.at_q i h);
    }

-- the powers of numbers of 32 bits, in a setting
module _ {m q r power : ℕ} {t addends p : List ℕ} (s : Setting m q r power t addends p) where
  power_at : (x y : List ℕ) → ((k : ℕ) → k < 24 → RaisedAt power x p k (get_or y k 0)) → ((k : ℕ) → k < 24 → get_or x k 0 < 4294967296)
      → (k : ℕ) → k < 24 → PowerOf m power (get_or x k 0) (get_or y k 0)
  power_at x y f hx k h =
      let n = s.numbers in
      let e = n.at_m k h in
      subst (λ (z : ℕ). PowerOf z power (get_or x k 0) (get_or y k 0)) e
      ((f k h).right (modulus_at k h n s.modulus) (subst (λ (z : ℕ). Power z power) (sym e) s.power_right) (copies_at k h n) (hx k h))

  powers_below : {x y : List ℕ} → Powers power x p y → ((k : ℕ) → k < 24 → get_or x k 0 < 4294967296) → Below 2131755009 y
  powers_below {x} {y} f hx =
      let small = s.modulus.small in
      let low : (k : ℕ) → k < 24 → get_or y k 0 < 2131755009 = λ k h. omega (arith, (power_at x y f.first hx k h).near) in
      let high : (k : ℕ) → 24 ≤ k → k < 48 → get_or y k 0 < 2131755009 =
      λ k a b. subst (λ (z : ℕ). get_or y z 0 < 2131755009) (let z : 24 + (k - 24) ≡ k = omega arith in z)
      (subst (λ (z : ℕ). z < 2131755009) (sym (f.again (k - 24) (omega arith))) (low (k - 24) (omega arith))) in
      let past : (k : ℕ) → 48 ≤ k → get_or y k 0 < 2131755009 =
      λ k a. subst (λ (z : ℕ). z < 2131755009) (sym (get_or-eq_default y 0 {n = k} (omega (arith, f.long)))) (zero-lt-suc _) in
      at_below 2131755009 y
      (λ k. either 24 k (λ e. high k (omega arith) (omega arith)) (λ l. low k l)
      (λ l. either 48 k (λ e. past k (omega arith)) (λ b. high k (omega arith) b) (λ b. past k (omega arith))))

sum_scale : (n c : ℕ) (f : ℕ → ℕ) → sum n (λ j. f j * c) ≡ sum n f * c
unfolding sum
sum_scale zero c f = sym (zero-mul c)
sum_scale (suc n) c f = ap (λ (x : ℕ). x + f n * c) (sum_scale n c f) ∙ sym (add-mul (sum n f) (f n) c)

-- one product of a row, K what the power P divides out
term : (m B K c a P y : ℕ) → Congruent m c (B * K) → Congruent m (y * K) P → Congruent m (c * a * y) (a * P * B)
term m B K c a P y hc hy =
    let e : B * K * a * y ≡ a * (y * K) * B =
    mul_assoc (B * K) a y ∙ mul_assoc B K (a * y) ∙ mul_comm B (K * (a * y))
    ∙ ap (λ (z : ℕ). z * B) (mul_left_comm K a y ∙ ap (λ (z : ℕ). a * z) (mul_comm K y)) in
    transitive (mul_congruent (mul_congruent hc (reflexive a)) (reflexive y))
    (subst (λ (z : ℕ). Congruent m z (a * P * B)) (sym e) (mul_congruent (mul_congruent (reflexive a) hy) (reflexive B)))

-- element k: row k of the matrix times the powers, and what is added
element : (m power u c : ℕ) (A : ℕ → ℕ → ℕ) (w y : List ℕ) (row start begin k e : ℕ)
    → Congruent m (u * 4294967296) 1 → Congruent m c (4294967296 * scale power) → Congruent m row (sum 24 (λ j. c * A k j * get_or y j 0))
    → ((j : ℕ) → j < 24 → PowerOf m power (get_or w j 0) (get_or y j 0)) → Element m (row + start) e → Congruent m start (begin * 4294967296)
    → Congruent m e (sum 24 (λ j. A k j * get_or w j 0 ^ power) + begin)
element m power u c A w y row start begin k e hu hc rows hp he hs =
    let terms : Congruent m (sum 24 (λ j. c * A k j * get_or y j 0)) (sum 24 (λ j. A k j * get_or w j 0 ^ power * 4294967296)) =
    sum_congruent 24 (λ j. c * A k j * get_or y j 0) (λ j. A k j * get_or w j 0 ^ power * 4294967296)
    (λ j l. term m 4294967296 (scale power) c (A k j) (get_or w j 0 ^ power) (get_or y j 0) hc (hp j l).same) in
    let scaled : Congruent m row (sum 24 (λ j. A k j * get_or w j 0 ^ power) * 4294967296) =
    subst (Congruent m row) (sum_scale 24 4294967296 (λ j. A k j * get_or w j 0 ^ power)) (transitive rows terms) in
    let whole : Congruent m (e * 4294967296) ((sum 24 (λ j. A k j * get_or w j 0 ^ power) + begin) * 4294967296) =
    subst (Congruent m (e * 4294967296)) (sym (add-mul (sum 24 (λ j. A k j * get_or w j 0 ^ power)) begin 4294967296))
    (transitive he.same (add_congruent scaled hs)) in
    cancel m 4294967296 u e (sum 24 (λ j. A k j * get_or w j 0 ^ power) + begin) hu whole

-- the sums with constants that the powers are taken of, in a setting
module _ {m q r power : ℕ} {t addends p : List ℕ} (s : Setting m q r power t addends p) {constantsRow : ℕ} {x w : List ℕ} (hc : constantsRow < 11) (near : Near m x)
    (hw : Sums x addends constantsRow w) where
  addend_below : (k : ℕ) → get_or addends k 0 < 2130706433
  addend_below = below_at 2130706433 (zero-lt-suc _) addends s.addends_below

  sum_is : (j : ℕ) → j < 24 → get_or w j 0 ≡ get_or x j 0 + get_or addends (24 * constantsRow + j) 0
  sum_is j l =
      let small = s.modulus.small in
      let at = plain_sum_at addends (constantsRow % 11) x j l in
      subst (λ (n : ℕ). get_or w j 0 ≡ get_or x j 0 + get_or addends (24 * n + j) 0) (mod-eq_of_lt hc)
      (hw.each j l (omega (arith, at, near.each j l, addend_below (24 * (constantsRow % 11) + j))) ∙ at)

  sum_wide : (j : ℕ) → j < 24 → get_or w j 0 < 4294967296
  sum_wide j l =
      let small = s.modulus.small in
      omega (arith, sum_is j l, near.each j l, addend_below (24 * constantsRow + j))

  -- the powers of the sums, in a row of the matrix
  of_sums : (A : ℕ → ℕ → ℕ) (k e begin : ℕ) → Congruent m e (sum 24 (λ j. A k j * get_or w j 0 ^ power) + begin)
      → Congruent m e (sum 24 (λ j. A k j * (get_or x j 0 + get_or addends (24 * constantsRow + j) 0) ^ power) + begin)
  of_sums A k e begin h =
      subst (λ (n : ℕ). Congruent m e (n + begin))
      (sum_same 24 (λ j. A k j * get_or w j 0 ^ power) (λ j. A k j * (get_or x j 0 + get_or addends (24 * constantsRow + j) 0) ^ power)
      (λ j l. ap (λ (n : ℕ). A k j * n ^ power) (sum_is j l)))
      h

-- a round of the code, from its three parts
pub round_of : {m q r power : ℕ} {t addends p : List ℕ} {constantsRow addendsRow : ℕ} {x w y out : List ℕ}
    → Sums x addends constantsRow w → Powers power w p y → Product t y addends addendsRow m q r out
    → Round Diagonals m q r power t addends p constantsRow addendsRow x out
round_of {m} {q} {r} {power} {t} {addends} {p} {constantsRow} {addendsRow} {x} {w} {y} {out} hw hy ho =
    record {
      right = λ s hc ha near.
          let wide = sum_wide s hc near hw in
          let e : (k : ℕ) → k < 24 → Element m (row_sum t y k + get_or addends (24 * addendsRow + k) 0) (get_or out k 0) =
          λ k l. subst (λ (n : ℕ). Element m (row_sum t y k + get_or addends (24 * n + k) 0) (get_or out k 0)) (mod-eq_of_lt ha)
          ((ho.each k l).right s.modulus s.table_below (powers_below s hy wide)) in
          record {
            long = ho.long;
            each = λ k l.
                record {
                  near = (e k l).near;
                  same = λ u c A begin hu hf d hs.
                      of_sums s hc near hw A k (get_or out k 0) (begin k)
                      (element m power u c A w y (row_sum t y k) (get_or addends (24 * addendsRow + k) 0) (begin k) k (get_or out k 0) hu hf
                      (row_is_matrix m c A t y k l d (record { again = hy.again })) (power_at s w y hy.first wide) (e k l) (hs k l));
                };
          };
    }

-- and one by blocks
pub round_by_blocks : {m q r power : ℕ} {t addends p : List ℕ} {constantsRow addendsRow : ℕ} {x w y out : List ℕ}
    → Sums x addends constantsRow w → PowersOnce power w p y → blocks.Product t y addends addendsRow m q r out
    → Round Blocks m q r power t addends p constantsRow addendsRow x out
round_by_blocks {m} {q} {r} {power} {t} {addends} {p} {constantsRow} {addendsRow} {x} {w} {y} {out} hw hy ho =
    record {
      right = λ s hc ha near.
          let powers = power_at s w y hy.each (sum_wide s hc near hw) in
          let close : (j : ℕ) → j < 24 → get_or y j 0 < m + 1048576 = λ j h. (powers j h).near in
          record {
            long = ho.long;
            each = λ k l.
                let row = ho.each k l in
                record {
                  near = row.near s.modulus s.table_below close;
                  same = λ u c A begin hu hf b hs.
                      let e : Element m (sum 24 (λ j. c * A k j * get_or y j 0) + get_or addends (24 * addendsRow + k) 0) (get_or out k 0) =
                      subst (λ (n : ℕ). Element m (sum 24 (λ j. c * A k j * get_or y j 0) + get_or addends (24 * n + k) 0) (get_or out k 0)) (mod-eq_of_lt ha)
                      (record { same = row.same c A s.modulus s.table_below close b; near = row.near s.modulus s.table_below close }) in
                      of_sums s hc near hw A k (get_or out k 0) (begin k)
                      (element m power u c A w y (sum 24 (λ j. c * A k j * get_or y j 0)) (get_or addends (24 * addendsRow + k) 0) (begin k) k (get_or out k 0) hu hf
                      (reflexive (sum 24 (λ j. c * A k j * get_or y j 0))) powers e (hs k l));
                };
          };
    }

-- the powers of the code's sums are those of the instance
pub powers_alike : {F : Instance} {m power u c : ℕ} {t addends x z : List ℕ} (row r : ℕ) → FullTable F m power u c t addends → Alike m x z
    → ((i : ℕ) → i < 24 → Congruent m (get_or addends (24 * row + i) 0) (constant F r i))
    → (j : ℕ) → j < 24 → Congruent m ((get_or x j 0 + get_or addends (24 * row + j) 0) ^ power) ((get_or z j 0 + constant F r j) ^ F.power)
powers_alike {F} {m} {power} {u} {c} {t} {addends} {x} {z} row r T a hc j l =
    subst (λ (n : ℕ). Congruent m ((get_or x j 0 + get_or addends (24 * row + j) 0) ^ power) ((get_or z j 0 + constant F r j) ^ n)) (sym T.power_right)
    (pow_congruent power (add_congruent (a.at j l) (hc j l)))

-- a round with the matrix of F, and nothing added behind it
plain_round : {F : Instance} {m power u c : ℕ} {t addends x z z' out : List ℕ} (row r : ℕ) → FullTable F m power u c t addends → Alike m x z
    → ((i : ℕ) → i < 24 → Congruent m (get_or addends (24 * row + i) 0) (constant F r i)) → Each 24 (RoundOf Blocks m power t addends row 10 x) out → FullRound F r z z'
    → Alike m out z'
plain_round {F} {m} {power} {u} {c} {t} {addends} {x} {z} {z'} {out} row r T a hc ho hz =
    record {
      at = λ i l.
          let f : ℕ → ℕ = λ j. matrix F i j * (get_or x j 0 + get_or addends (24 * row + j) 0) ^ power in
          let g : ℕ → ℕ = λ j. matrix F i j * (get_or z j 0 + constant F r j) ^ F.power in
          let one : Congruent m (get_or out i 0) (sum 24 f) =
          subst (Congruent m (get_or out i 0)) (add-zero (sum 24 f))
          ((ho.each i l).same u c (matrix F) (λ k. 0) T.unit T.factor T.blocks
          (λ k h. subst (Congruent m (get_or addends (240 + k) 0)) (sym (zero-mul 4294967296)) (T.zeros k h))) in
          let two : Congruent m (sum 24 f) (sum 24 g) = sum_congruent 24 f g (λ j h. mul_congruent (reflexive (matrix F i j)) (powers_alike row r T a hc j h)) in
          let three : Congruent m (get_or z' i 0) (sum 24 g) = subst (λ (n : ℕ). Congruent n (get_or z' i 0) (sum 24 g)) T.modulus (hz.at i l) in
          transitive one (transitive two (opposite three));
    }

-- the loop of full rounds
full_start : {m power : ℕ} {t addends : List ℕ} {first : ℕ} {x : List ℕ} → Near m x → FullRun m power t addends first 0 x x
full_start h = record { near = h; run = λ F u c r z T C hz a. a }

full_step : {m power : ℕ} {t addends : List ℕ} {first k : ℕ} {x s out : List ℕ} → FullRun m power t addends first k x s
    → Each 24 (RoundOf Blocks m power t addends (first + k) 10 s) out → FullRun m power t addends first (suc k) x out
full_step {m} {power} {t} {addends} {first} {k} {x} {s} {out} f h =
    record {
      near = record { long = h.long; each = λ i l. (h.each i l).near };
      run = λ F u c r z T C hz a.
          plain_round (first + k) (r + k) T
          (f.run F u c r z T (record { right = λ j i lj li. C.right j i (omega arith) li }) (λ j l. hz j (omega arith)) a)
          (λ i l. subst (λ (n : ℕ). Congruent m (get_or addends n 0) (constant F (r + k) i)) (omega arith) (C.right k i (omega arith) l))
          h (hz k (omega arith));
    }

-- with the rounds before `row` done
pub record Running (m q r power : ℕ) (t addends p : List ℕ) (first last : ℕ) (x : List ℕ) (row : ℕ) (state : List ℕ) : Type 0 where
  pub from : first ≤ row
  pub right : Setting m q r power t addends p → row ≤ last → last ≤ 10 → Near m x → FullRun m power t addends first (row - first) x state

pub running_start : {m q r power : ℕ} {t addends p : List ℕ} {first last : ℕ} {x : List ℕ} → Running m q r power t addends p first last x first x
running_start {m} {q} {r} {power} {t} {addends} {p} {first} {last} {x} =
    let z : 0 ≡ first - first = omega arith in
    record { from = omega arith; right = λ s h₁ h₂ n. subst (λ (k : ℕ). FullRun m power t addends first k x x) z (full_start n) }

pub running_step : {m q r power : ℕ} {t addends p : List ℕ} {first last : ℕ} {x : List ℕ} {row : ℕ} {state out : List ℕ} → row < last
    → Running m q r power t addends p first last x row state → Round Blocks m q r power t addends p row 10 state out → Running m q r power t addends p first last x (row + 1) out
running_step {m} {q} {r} {power} {t} {addends} {p} {first} {last} {x} {row} {state} {out} l f h =
    let from = f.from in
    record {
      from = omega arith;
      right = λ s h₁ h₂ n.
          let g = f.right s (omega arith) h₂ n in
          let e : first + (row - first) ≡ row = omega arith in
          let e' : suc (row - first) ≡ row + 1 - first = omega arith in
          subst (λ (k : ℕ). FullRun m power t addends first k x out) e'
          (full_step g (subst (λ (k : ℕ). Each 24 (RoundOf Blocks m power t addends k 10 state) out) (sym e) (h.right s (omega arith) (omega arith) g.near)));
    }

-- no round where first is last or more
pub running_end : {m q r power : ℕ} {t addends p : List ℕ} {first last : ℕ} {x : List ℕ} {row : ℕ} {state : List ℕ} → last ≤ row
    → Running m q r power t addends p first last x row state → (first ≤ last → row ≤ last) → Rounds m q r power t addends p first last x state
running_end {m} {q} {r} {power} {t} {addends} {p} {first} {last} {x} {row} {state} l f h =
    record {
      right = λ s h₁ h₂ n.
          let b = h h₁ in
          let e : row ≡ last = omega arith in
          subst (λ (k : ℕ). FullRun m power t addends first (k - first) x state) e (f.right s b h₂ n);
    }
