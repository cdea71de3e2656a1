-- Partial rounds put together: what the loops keep, and that they are the partial rounds of each instance whose tables they have.
-- Assumes nothing.
use Rattle.std.proofs.Common.{◌≡◌, ℕ, suc, ◌+◌, ◌-◌, ◌*◌, ◌/◌, ◌%◌, ◌^◌, ◌<◌, ◌≤◌, List, length, get_or, set, sym, refl, ap, ◌∙◌, subst, suc-le-suc, zero-le, not-suc-le-zero, mod-lt, mod-eq_of_lt, zero-lt-suc, mul-le-mul, mul-zero, zero-add, add-one, arith, length-set, get_or-set_other, get_or-set_same}
use native.Mathlib.Nat.{le-pred_of_lt}
use Rattle.basics.specs.Lists.{sum}
use Rattle.basics.proofs.Below.{below_at}
use Rattle.basics.proofs.Sums.{sum_same}
use Rattle.field.proofs.Congruence.{Congruent, reflexive, transitive, add_congruent, mul_congruent}
use Rattle.montgomery.specs.Montgomery.{low_product, folded, Divided, scale, Reduced, RaisedSmall}
use Rattle.montgomery.proofs.Reduction.{low_product_law, Folded, fold_right}
use Rattle.poseidon_rounds.specs.Instance.{Instance, PartialRound}
use Rattle.poseidon_rounds.specs.Linear.{times}
use Rattle.poseidon_rounds.specs.Places.{Each}
use Rattle.poseidon_rounds.specs.Sparse.{carried, lower, SparseTables, Represents}
use Rattle.poseidon_rounds.proofs.Places.{either}
use Rattle.poseidon_rounds.proofs.Sparse.{represents_step}
use Rattle.poseidon_partial.specs.Partial.{NextElement, LowPart, row_term, NextElements, NextFirst, Rest, PartialSetting, PartialRounds}

term_bound : (a b : ℕ) → a < 2130706433 → b < 2131755009 → a * b ≤ 4542144106993811456
term_bound a b ha hb = mul-le-mul (le-pred_of_lt ha) (le-pred_of_lt hb)

-- one element
pub next_element : (t v y m q p s e : ℕ) → p ≡ low_product t y → s ≡ (p + v) % 2 ^ 64 → Reduced s m q e → NextElement t v y m q e
next_element t v y m q p s e ep es d =
    record {
      narrow = d.narrow;
      right = λ i hm hv ht hy.
          let w : p ≡ t * y = ep ∙ low_product_law (omega arith) (omega arith) in
          let b = term_bound t y ht hy in
          let whole : s ≡ t * y + v = es ∙ ap (λ (x : ℕ). (x + v) % 18446744073709551616) w ∙ mod-eq_of_lt (omega arith) in
          let g : Divided m (t * y + v) e = subst (λ (x : ℕ). Divided m x e) whole (d.right i (omega arith)) in
          (g, omega (arith, g.bound));
    }

-- a sum's low part
pub low_part : (s high low : ℕ) → low < 18446744073709551616 → (low + high % 65536 * 281474976710656) % 2 ^ 64 ≡ s → LowPart s high low
low_part s high low h e = record { right = λ a ha g. omega arith }

-- the loop over the elements; the sum of the products has wrapped round
pub record Spreading (t : List ℕ) (at y m q : ℕ) (v w : List ℕ) (s high i : ℕ) : Type 0 where
  pub low : ℕ
  pub within : i ≤ 24
  pub long : length w ≡ 24
  pub done : (k : ℕ) → k < i → NextElement (get_or t (at + 2 * k) 0) (get_or v k 0) y m q (get_or w k 0)
  pub rest : (k : ℕ) → i ≤ k → get_or w k 0 ≡ get_or v k 0
  pub whole : high * 281474976710656 + low ≡ sum i (row_term t at w)
  pub wrapped : s ≡ (high * 281474976710656 + low) % 18446744073709551616
  pub low_le : low ≤ i * 281474976710656
  pub high_le : high ≤ i * 65536

pub spreading_start : {t : List ℕ} {at y m q : ℕ} {v : List ℕ} → length v ≡ 24 → Spreading t at y m q v v 0 0 0
unfolding sum
spreading_start e =
    record { low = 0; within = zero-le; long = e; done = λ k h. absurd (not-suc-le-zero h); rest = λ k h. refl; whole = refl; wrapped = refl; low_le = zero-le; high_le = zero-le }

sum_next : (f : ℕ → ℕ) (n : ℕ) → sum (n + 1) f ≡ sum n f + f n
unfolding sum
sum_next f n = rw add-one

pub spreading_step : {t : List ℕ} {at y m q : ℕ} {v w : List ℕ} {s high i : ℕ} (e p n : ℕ) → Spreading t at y m q v w s high i → i < 24
    → NextElement (get_or t (at + 2 * i) 0) (get_or v i 0) y m q e → p ≡ low_product (get_or t (at + 2 * i + 1) 0) e → p < 18446744073709551616
    → n ≡ (s + p) % 2 ^ 64 → Spreading t at y m q v (set w i e) n (high + p / 281474976710656) (i + 1)
unfolding row_term
spreading_step {t} {at} {y} {m} {q} {v} {w} {s} {high} {i} e p n f h d ep hp en =
    let b : List ℕ = set w i e in
    let here : get_or b i 0 ≡ e = get_or-set_same w i e 0 (omega (arith, f.long)) in
    let same : sum i (row_term t at b) ≡ sum i (row_term t at w) =
    sum_same i (row_term t at b) (row_term t at w)
    (λ k l. ap (λ (x : ℕ). low_product (get_or t (at + 2 * k + 1) 0) x) (get_or-set_other w i k e 0 (λ z. omega arith))) in
    let new : row_term t at b i ≡ p = ap (λ (x : ℕ). low_product (get_or t (at + 2 * i + 1) 0) x) here ∙ sym ep in
    record {
      low = f.low + p % 281474976710656;
      within = omega arith;
      long = length-set w i e ∙ f.long;
      done = λ k l. either i k
          (λ z. subst (λ (j : ℕ). NextElement (get_or t (at + 2 * j) 0) (get_or v j 0) y m q (get_or b j 0)) (sym z) (subst (NextElement (get_or t (at + 2 * i) 0) (get_or v i 0) y m q) (sym here) d))
          (λ n. subst (NextElement (get_or t (at + 2 * k) 0) (get_or v k 0) y m q) (sym (get_or-set_other w i k e 0 (λ z. omega arith))) (f.done k n))
          (λ n. absurd (omega arith));
      rest = λ k l. get_or-set_other w i k e 0 (λ z. omega arith) ∙ f.rest k (omega arith);
      whole = omega (arith, sum_next (row_term t at b) i, same, new, f.whole);
      wrapped = omega (arith, en, f.wrapped);
      low_le = omega (arith, f.low_le);
      high_le = omega (arith, f.high_le);
    }

pub spreading_end : {t : List ℕ} {at y m q : ℕ} {v w : List ℕ} {s high i : ℕ} (low : ℕ) → Spreading t at y m q v w s high i → 24 ≤ i → LowPart s high low
    → NextElements t at y m q v w low high
spreading_end {t} {at} {y} {m} {q} {v} {w} {s} {high} {i} low f h g =
    let e : i ≡ 24 = omega (arith, f.within) in
    let same : low ≡ f.low = g.right f.low (omega (arith, f.low_le)) f.wrapped in
    record {
      moved = record { long = f.long; each = λ k l. f.done k (omega arith) };
      whole = ap (λ (x : ℕ). high * 281474976710656 + x) same ∙ rw e at f.whole;
      low_le = omega (arith, same, f.low_le);
      high_le = omega (arith, f.high_le);
    }

-- element 0
high_bound : (h r : ℕ) → h ≤ 1572864 → r < 2130706433 → h * r ≤ 3351311441461248
high_bound h r hh hr = mul-le-mul hh (le-pred_of_lt hr)

-- what is reduced fits, whatever the numbers are
pub rest_fits : (h r : ℕ) → h ≤ 1572864 → low_product h r ≤ 6755399439482880
rest_fits h r hh =
    let a : h % 4294967296 ≤ 1572864 = omega arith in
    let b : r % 4294967296 ≤ 4294967295 = omega arith in
    mul-le-mul a b

pub fold_fits_all : (a r : ℕ) → a < 18446744073709551616 → folded a r ≤ 562945658388480
fold_fits_all a r h =
    let high : a / 281474976710656 % 4294967296 ≤ 65535 = omega arith in
    let low : r % 4294967296 ≤ 4294967295 = omega arith in
    let p : low_product (a / 281474976710656) r ≤ 281470681677825 = mul-le-mul high low in
    omega arith

pub next_first : (y first_entry low high c m q r p f h s e : ℕ) → low ≤ 6755399441055744 → high ≤ 1572864 → c < 4294967296 → p < 18446744073709551616
    → p ≡ low_product y first_entry → f ≡ folded p r → h ≡ low_product high r → s ≡ f + low + h + c → Reduced s m q e → NextFirst y first_entry low high c m q r e
next_first y first_entry low high c m q r p f h s e hl hh hc hp ep ef eh es d =
    record {
      right = λ k hy hf.
          let small = k.small in
          let hr : r < 2130706433 = omega (arith, k.reduced) in
          let w : p ≡ y * first_entry = ep ∙ low_product_law (omega arith) (omega arith) in
          let g : Folded m p f = subst (Folded m p) (sym ef) (fold_right m q r p k hp) in
          let x : h ≡ high * r = eh ∙ low_product_law (omega arith) (omega arith) in
          let b = high_bound high r hh hr in
          let gb = g.bound in
          let z = d.right k.inverse (omega arith) in
          let one : Congruent m (f + low + high * r + c) (p + low + high * 281474976710656 + c) =
          add_congruent (add_congruent (add_congruent g.same (reflexive low)) (mul_congruent (reflexive high) k.power)) (reflexive c) in
          let es' : p + low + high * 281474976710656 + c ≡ p + (high * 281474976710656 + low) + c = omega arith in
          let two : Congruent m s (y * first_entry + (high * 281474976710656 + low) + c) =
          subst (λ (a : ℕ). Congruent m a (y * first_entry + (high * 281474976710656 + low) + c)) (sym (es ∙ ap (λ (a : ℕ). f + low + a + c) x))
          (subst (λ (a : ℕ). Congruent m (f + low + high * r + c) (a + (high * 281474976710656 + low) + c)) w (subst (Congruent m (f + low + high * r + c)) es' one)) in
          record { same = transitive z.same two; near = omega (arith, z.bound) };
    }

-- the elements put back
pub rest_of : {v out : List ℕ} {x : ℕ} → x < 4294967296 → Each 24 (λ k e. e ≡ get_or v k 0 % 4294967296) out → Rest v x (set out 0 x)
rest_of {v} {out} {x} hx a =
    let first : get_or (set out 0 x) 0 0 ≡ x = get_or-set_same out 0 x 0 (omega (arith, a.long)) in
    record {
      whole = record {
        long = length-set out 0 x ∙ a.long;
        each = λ k l. either 0 k
            (λ e. subst (λ (j : ℕ). get_or (set out 0 x) j 0 < 4294967296) (sym e) (subst (λ (y : ℕ). y < 4294967296) (sym first) hx))
            (λ n. absurd (not-suc-le-zero n))
            (λ n. subst (λ (y : ℕ). y < 4294967296) (sym (get_or-set_other out 0 k x 0 (λ e. omega arith) ∙ a.each k l)) (mod-lt (get_or v k 0) {m = 4294967296} (zero-lt-suc _)));
      };
      first = first;
      rest = λ i l. get_or-set_other out 0 (suc i) x 0 (λ e. omega arith) ∙ a.each (suc i) (suc-le-suc l);
    }

-- k partial rounds done, in a setting
pub record Partly (m power first_entry n : ℕ) (sparse first_constants start : List ℕ) (k x : ℕ) (v : List ℕ) : Type 0 where
  pub near : x < m + 4194304
  pub below : (i : ℕ) → i < 24 → get_or v i 0 < 3188256770
  pub represents : (F : Instance) (u : ℕ) (z : ℕ → List ℕ) → F.modulus ≡ m → F.power ≡ power → F.partial_rounds ≡ n → Congruent F.modulus (u * 4294967296) 1
      → SparseTables F 4294967296 (scale power) first_entry sparse first_constants
      → ((s : ℕ) → s < n → PartialRound F (4 + s) (z s) (z (suc s)))
      → ((w : List ℕ) → ((i : ℕ) → i < 23 → Congruent F.modulus (get_or w (suc i) 0 * 4294967296) (get_or start (suc i) 0))
      → Represents F 4294967296 0 n (get_or start 0 0) w (z 0))
      → (j : ℕ) → k + j ≡ n → Represents F 4294967296 k j x v (z k)

pub record Going (m q r power first_entry n : ℕ) (sparse first_constants start : List ℕ) (k x : ℕ) (v : List ℕ) (low high : ℕ) : Type 0 where
  pub within : k ≤ n
  pub long : length v ≡ 24
  pub sums : high * 281474976710656 + low ≡ sum 24 (row_term sparse (48 * (k % 24)) v)
  pub low_le : low ≤ 6755399441055744
  pub high_le : high ≤ 1572864
  pub right : PartialSetting m q r power first_entry n sparse start → Partly m power first_entry n sparse first_constants start k x v

pub going_start : {m q r power first_entry n : ℕ} {sparse first_constants start w v : List ℕ} {x low high : ℕ} → x ≡ get_or start 0 0
    → Each 24 (λ k e. e ≡ get_or start k 0) w → NextElements sparse 0 0 m q w v low high
    → Going m q r power first_entry n sparse first_constants start 0 x v low high
going_start {m} {q} {r} {power} {first_entry} {n} {sparse} {first_constants} {start} {w} {v} {x} {low} {high} ex hw hs =
    record {
      within = zero-le;
      long = hs.moved.long;
      sums = hs.whole;
      low_le = hs.low_le;
      high_le = hs.high_le;
      right = λ s.
          let small = s.modulus.small in
          let sparse-at : (k : ℕ) → get_or sparse k 0 < 2130706433 = below_at 2130706433 (zero-lt-suc _) sparse s.sparse_below in
          let element : (k : ℕ) → k < 24 → Divided m (get_or sparse (0 + 2 * k) 0 * 0 + get_or w k 0) (get_or v k 0) × (get_or v k 0 < 3188256770) =
          λ k l. (hs.moved.each k l).right s.modulus.inverse small (omega (arith, hw.each k l, s.near.each k l)) (sparse-at (0 + 2 * k)) (zero-lt-suc _) in
          record {
            near = omega (arith, s.near.each 0 (suc-le-suc zero-le));
            below = λ i l. (element i l).1;
            represents = λ F u z em ep en hu T hz p j ej.
                let v-right : (i : ℕ) → i < 23 → Congruent F.modulus (get_or v (suc i) 0 * 4294967296) (get_or start (suc i) 0) =
                λ i l. subst (λ (a : ℕ). Congruent a (get_or v (suc i) 0 * 4294967296) (get_or start (suc i) 0)) (sym em)
                (subst (Congruent m (get_or v (suc i) 0 * 4294967296))
                (ap (λ (a : ℕ). a + get_or w (suc i) 0) (mul-zero (get_or sparse (0 + 2 * suc i) 0)) ∙ zero-add (get_or w (suc i) 0) ∙ hw.each (suc i) (suc-le-suc l))
                (element (suc i) (suc-le-suc l)).0.same) in
                let ejn : n ≡ j = omega arith in
                subst (λ (a : ℕ). Represents F 4294967296 0 a x v (z 0)) ejn (subst (λ (a : ℕ). Represents F 4294967296 0 n a v (z 0)) (sym ex) (p v v-right));
          };
    }

pub going_step : {m q r power first_entry n : ℕ} {sparse first_constants start : List ℕ} {k x : ℕ} {v : List ℕ} {low high : ℕ} (y x' low' high' : ℕ) (v' : List ℕ)
    → k < n → Going m q r power first_entry n sparse first_constants start k x v low high → RaisedSmall power x m q r y
    → NextFirst y first_entry low high (get_or first_constants (k % 24) 0) m q r x'
    → NextElements sparse (48 * ((k + 1) % 24)) y m q v v' low' high'
    → Going m q r power first_entry n sparse first_constants start (k + 1) x' v' low' high'
unfolding row_term
going_step {m} {q} {r} {power} {first_entry} {n} {sparse} {first_constants} {start} {k} {x} {v} {low} {high} y x' low' high' v' hk g hy hx hs =
    record {
      within = omega arith;
      long = hs.moved.long;
      sums = hs.whole;
      low_le = hs.low_le;
      high_le = hs.high_le;
      right = λ s.
          let small = s.modulus.small in
          let few = s.rounds in
          let p = g.right s in
          let sparse-at : (i : ℕ) → get_or sparse i 0 < 2130706433 = below_at 2130706433 (zero-lt-suc _) sparse s.sparse_below in
          let po = hy.right s.modulus s.power_right p.near in
          let y-near : y < 2131755009 = omega (arith, po.near) in
          let ek : k % 24 ≡ k = mod-eq_of_lt (omega arith) in
          let ek' : (k + 1) % 24 ≡ k + 1 = mod-eq_of_lt (omega arith) in
          let fe = hx.right s.modulus y-near s.entry_below in
          let element : (i : ℕ) → i < 24 → Divided m (get_or sparse (48 * ((k + 1) % 24) + 2 * i) 0 * y + get_or v i 0) (get_or v' i 0) × (get_or v' i 0 < 3188256770) =
          λ i l. (hs.moved.each i l).right s.modulus.inverse small (p.below i l) (sparse-at (48 * ((k + 1) % 24) + 2 * i)) y-near in
          let row : high * 281474976710656 + low ≡ sum 24 (λ i. get_or sparse (48 * k + 2 * i + 1) 0 * get_or v i 0) =
          g.sums ∙ sum_same 24 (λ i. low_product (get_or sparse (48 * (k % 24) + 2 * i + 1) 0) (get_or v i 0)) (λ i. get_or sparse (48 * k + 2 * i + 1) 0 * get_or v i 0)
          (λ i l. low_product_law (omega (arith, sparse-at (48 * (k % 24) + 2 * i + 1))) (omega (arith, p.below i l))
          ∙ ap (λ (a : ℕ). get_or sparse (48 * a + 2 * i + 1) 0 * get_or v i 0) ek) in
          record {
            near = fe.near;
            below = λ i l. (element i l).1;
            represents = λ F u z em ep en hu T hz b j ej.
                let into : (a b : ℕ) → Congruent m a b → Congruent F.modulus a b = λ a b h. subst (λ (d : ℕ). Congruent d a b) (sym em) h in
                rw (add-one k)
                (represents_step F 4294967296 (scale power) u first_entry sparse first_constants hu T k j x x' y (high * 281474976710656 + low) v v'
                (z k) (z (suc k)) (hz k hk) (omega arith) (p.represents F u z em ep en hu T hz b (suc j) (omega arith))
                (subst (λ (d : ℕ). Congruent F.modulus (y * scale power) (x ^ d)) (sym ep) (into _ _ po.same))
                row
                (into _ _ (subst (λ (a : ℕ). Congruent m (x' * 4294967296) (y * first_entry + (high * 281474976710656 + low) + get_or first_constants a 0)) ek fe.same))
                (λ i l. into _ _
                (subst (λ (a : ℕ). Congruent m (get_or v' (suc i) 0 * 4294967296) (get_or sparse a 0 * y + get_or v (suc i) 0))
                (let e : 48 * ((k + 1) % 24) + 2 * suc i ≡ 48 * k + 48 + 2 * suc i = omega arith in e)
                (element (suc i) (suc-le-suc l)).0.same)));
          };
    }

pub going_end : {m q r power first_entry n : ℕ} {sparse first_constants start : List ℕ} {k x : ℕ} {v out : List ℕ} {low high : ℕ} → n ≤ k
    → Going m q r power first_entry n sparse first_constants start k x v low high → Rest v x out
    → PartialRounds m q r power first_entry n sparse first_constants start out
going_end {m} {q} {r} {power} {first_entry} {n} {sparse} {first_constants} {start} {k} {x} {v} {out} {low} {high} h g rest =
    record {
      right = λ s.
          let small = s.modulus.small in
          let within = g.within in
          let e : k ≡ n = omega arith in
          let p = g.right s in
          let same : (i : ℕ) → i < 23 → get_or out (suc i) 0 ≡ get_or v (suc i) 0 =
          λ i l. rest.rest i l ∙ mod-eq_of_lt (omega (arith, p.below (suc i) (suc-le-suc l))) in
          record {
            below = record {
              long = rest.whole.long;
              each = λ i l. either 0 i
                  (λ z. subst (λ (a : ℕ). get_or out a 0 < 3188256770) (sym z) (omega (arith, rest.first, p.near)))
                  (λ z. absurd (not-suc-le-zero z))
                  (λ z. let b : suc (i - 1) ≡ i = omega arith in
                  subst (λ (a : ℕ). get_or out a 0 < 3188256770) b (omega (arith, same (i - 1) (omega arith), p.below (suc (i - 1)) (omega arith))));
            };
            run = λ F u z em ep en hu T hz q.
                let t : Represents F 4294967296 n 0 x v (z n) =
                subst (λ (a : ℕ). Represents F 4294967296 a 0 x v (z a)) e (p.represents F u z em ep en hu T hz q 0 (omega arith)) in
                record {
                  first = subst (λ (a : ℕ). Congruent F.modulus a (get_or (z n) 0 0 + carried F 0 n)) (sym rest.first) t.first;
                  linear = t.linear;
                  whole = t.whole;
                  kept = λ i l. subst (λ (a : ℕ). Congruent F.modulus a (times (lower F 4294967296) 0 t.linear i)) (sym (same i l)) (t.kept i l);
                };
          };
    }
