-- Powers by reductions: the bounds by which their products fit, and what is divided out.
-- Assumes nothing.
use Rattle.std.proofs.Common.{◌≡◌, ℕ, ◌+◌, ◌*◌, ◌^◌, ◌<◌, ◌≤◌, sym, refl, ap, ◌∙◌, subst, ⊎_elim, mul_assoc, mul-le-mul, one-mul, pow-suc, mul_right_comm, arith}
use native.Mathlib.Nat.{mul-mul-mul_comm, pow-zero}
use Rattle.field.proofs.Congruence.{Congruent, reflexive, transitive, mul_congruent}
use Rattle.montgomery.specs.Montgomery.{low_product, Element, ReducedAny, Multiplied, scale, PowerOf, Power, RaisedSmall, Raised}
use Rattle.montgomery.proofs.Reduction.{low_product_law}

module _ (w m : ℕ) (hw : w ≤ 2017460224) (hm : m ≤ 2013265921) where
  square_fits : w * w ≤ 4070145755422130176
  square_fits = mul-le-mul hw hw

  square_le : (s : ℕ) → s * 4294967296 ≤ w * w + 4294967295 * m → s ≤ 2960920576
  square_le s h = omega (arith, square_fits)

  cube_fits : (s : ℕ) → s ≤ 2960920576 → s * w ≤ 5973539488503169024
  cube_fits s h = mul-le-mul h hw

  cube_le : (s c : ℕ) → s ≤ 2960920576 → c * 4294967296 ≤ s * w + 4294967295 * m → c ≤ 3404088964
  cube_le s c hs h = omega (arith, cube_fits s hs)

  fourth_fits : (s : ℕ) → s ≤ 2960920576 → s * s ≤ 8767050657380171776
  fourth_fits s h = mul-le-mul h h

  fourth_le : (s f : ℕ) → s ≤ 2960920576 → f * 4294967296 ≤ s * s + 4294967295 * m → f ≤ 4054503968
  fourth_le s f hs h = omega (arith, fourth_fits s hs)

-- any w of 32 bits, s a reduced square
module _ (w m : ℕ) (hw : w ≤ 4294967295) (hm : m ≤ 2013265921) where
  wide_cube_fits : (s : ℕ) → s ≤ 2014314496 → s * w ≤ 8651414882164408320
  wide_cube_fits s h = mul-le-mul h hw

  wide_cube_le : (s c : ℕ) → s ≤ 2014314496 → c * 4294967296 ≤ s * w + 4294967295 * m → c ≤ 4027580416
  wide_cube_le s c hs h = omega (arith, wide_cube_fits s hs)

  wide_fourth_fits : (s : ℕ) → s ≤ 2014314496 → s * s ≤ 4057462888795734016
  wide_fourth_fits s h = mul-le-mul h h

  wide_fourth_le : (s f : ℕ) → s ≤ 2014314496 → f * 4294967296 ≤ s * s + 4294967295 * m → f ≤ 2957967616
  wide_fourth_le s f hs h = omega (arith, wide_fourth_fits s hs)

module _ (w m : ℕ) (hw : w ≤ 2134900736) (hm : m ≤ 2130706433) where
  square_fits' : w * w ≤ 4557801152573341696
  square_fits' = mul-le-mul hw hw

  square_le' : (s : ℕ) → s * 4294967296 ≤ w * w + 4294967295 * m → s ≤ 3191902208
  square_le' s h = omega (arith, square_fits')

-- for any B, as 2^32
third_power : (m B x s y : ℕ) → Congruent m (s * B) (x * x) → Congruent m (y * B) (s * x) → Congruent m (y * B * B) (x * x * x)
third_power m B x s y hs hy =
    transitive (mul_congruent hy (reflexive B)) (rw (mul_right_comm s x B) (mul_congruent hs (reflexive x)))

seventh_power_law : (m B x s c f y : ℕ) → Congruent m (s * B) (x * x) → Congruent m (c * B) (s * x) → Congruent m (f * B) (s * s)
    → Congruent m (y * B) (c * f) → Congruent m (y * B * (B * B) * (B * (B * B))) (x * x * x * (x * x * (x * x)))
seventh_power_law m B x s c f y hs hc hf hy =
    let one : Congruent m (y * B * (B * B)) (s * x * (s * s)) =
    transitive (mul_congruent hy (reflexive (B * B))) (rw (mul-mul-mul_comm c f B B) (mul_congruent hc hf)) in
    let two : Congruent m (s * x * (s * s) * (B * (B * B))) (x * x * x * (x * x * (x * x))) =
    rw (mul-mul-mul_comm (s * x) (s * s) B (B * B), mul_right_comm s x B, mul-mul-mul_comm s s B B)
    (mul_congruent (mul_congruent hs (reflexive x)) (mul_congruent hs hs)) in
    transitive (mul_congruent one (reflexive (B * (B * B)))) two

abbrev seventh_power : ℕ → ℕ
seventh_power x = x * x * x * (x * x * (x * x))

-- the six divisions of a power by B = 2^32, as one number
sixth : (m B x y : ℕ) → Congruent m (y * B * (B * B) * (B * (B * B))) (seventh_power x) → Congruent m (y * (B * (B * B) * (B * (B * B)))) (seventh_power x)
sixth m B x y h =
    subst (λ (z : ℕ). Congruent m z (seventh_power x))
    (ap (λ (z : ℕ). z * (B * (B * B))) (mul_assoc y B (B * B)) ∙ mul_assoc y (B * (B * B)) (B * (B * B))) h

seventh_is : (x : ℕ) → seventh_power x ≡ x ^ 7
seventh_is x =
    let p1 : x ^ 1 ≡ x = pow-suc x 0 ∙ ap (λ (y : ℕ). y * x) (pow-zero x) ∙ one-mul x in
    let p2 : x ^ 2 ≡ x * x = pow-suc x 1 ∙ ap (λ (y : ℕ). y * x) p1 in
    let p3 : x ^ 3 ≡ x * x * x = pow-suc x 2 ∙ ap (λ (y : ℕ). y * x) p2 in
    let p5 : x ^ 5 ≡ x * x * x * x * x = pow-suc x 4 ∙ ap (λ (y : ℕ). y * x) (pow-suc x 3 ∙ ap (λ (y : ℕ). y * x) p3) in
    let p7 : x ^ 7 ≡ x * x * x * x * x * x * x = pow-suc x 6 ∙ ap (λ (y : ℕ). y * x) (pow-suc x 5 ∙ ap (λ (y : ℕ). y * x) p5) in
    sym (mul_assoc (x * x * x) (x * x) (x * x)) ∙ ap (λ (y : ℕ). y * (x * x)) (sym (mul_assoc (x * x * x) x x)) ∙ sym (mul_assoc (x * x * x * x * x) x x) ∙ sym p7

third_is : (x : ℕ) → x * x * x ≡ x ^ 3
third_is x = sym (pow-suc x 2 ∙ ap (λ (y : ℕ). y * x) (pow-suc x 1 ∙ ap (λ (y : ℕ). y * x) (pow-suc x 0 ∙ ap (λ (y : ℕ). y * x) (pow-zero x) ∙ one-mul x)))

seventh_of : {m x y : ℕ} → Congruent m (y * 4294967296 * (4294967296 * 4294967296) * (4294967296 * (4294967296 * 4294967296))) (seventh_power x) → y < m + 1048576 → PowerOf m 7 x y
unfolding scale
seventh_of {m} {x} {y} h n =
    record { same = subst (Congruent m (y * 6277101735386680763835789423207666416102355444464034512896)) (seventh_is x) (sixth m 4294967296 x y h); near = n }

third_of : {m x y : ℕ} → Congruent m (y * 4294967296 * 4294967296) (x * x * x) → y < m + 1048576 → PowerOf m 3 x y
unfolding scale
third_of {m} {x} {y} h n =
    record { same = subst (λ (z : ℕ). Congruent m z (x ^ 3)) (mul_assoc y 4294967296 4294967296) (subst (Congruent m (y * 4294967296 * 4294967296)) (third_is x) h); near = n }

seventh_modulus : {m : ℕ} → Power m 7 → m ≤ 2013265921
seventh_modulus w = ⊎_elim (λ e. absurd (omega arith)) (λ h. h.1) w.which

module _ (x m q r : ℕ) where
  -- of a number not far above m
  pub third_small : (square p y : ℕ) → Multiplied x x m q square → p ≡ low_product square x → ReducedAny p m q r y → RaisedSmall 3 x m q r y
  third_small square p y hs ep hy =
      record {
        narrow = hy.narrow;
        right = λ k w h.
            let small = k.small in
            let hx : x ≤ 2134900736 = omega arith in
            let s = hs.right k.inverse (omega arith) (omega arith) (omega (arith, square_fits' x m hx small)) in
            let hq : square ≤ 3191902208 = square_le' x m hx small square s.bound in
            let e = subst (λ (z : ℕ). Element m z y) (ep ∙ low_product_law (omega arith) (omega arith)) (hy.right k) in
            third_of (third_power m 4294967296 x square y s.same e.same) e.near;
      }

  pub seventh_small : (square cube fourth p y : ℕ) → Multiplied x x m q square → Multiplied square x m q cube → Multiplied square square m q fourth
      → p ≡ low_product cube fourth → ReducedAny p m q r y → RaisedSmall 7 x m q r y
  seventh_small square cube fourth p y hs hc hf ep hy =
      record {
        narrow = hy.narrow;
        right = λ k w h.
            let hm : m ≤ 2013265921 = seventh_modulus w in
            let hx : x ≤ 2017460224 = omega arith in
            let s = hs.right k.inverse (omega arith) (omega arith) (omega (arith, square_fits x m hx hm)) in
            let hq : square ≤ 2960920576 = square_le x m hx hm square s.bound in
            let d = hc.right k.inverse (omega arith) (omega arith) (omega (arith, cube_fits x m hx hm square hq)) in
            let f = hf.right k.inverse (omega arith) (omega arith) (omega (arith, fourth_fits x m hx hm square hq)) in
            let hd : cube ≤ 3404088964 = cube_le x m hx hm square cube hq d.bound in
            let hg : fourth ≤ 4054503968 = fourth_le x m hx hm square fourth hq f.bound in
            let e = subst (λ (z : ℕ). Element m z y) (ep ∙ low_product_law (omega arith) (omega arith)) (hy.right k) in
            seventh_of (seventh_power_law m 4294967296 x square cube fourth y s.same d.same f.same e.same) e.near;
      }

  -- the choice
  pub small_other : {power y : ℕ} → (power ≡ 3 → ⊥) → RaisedSmall 7 x m q r y → RaisedSmall power x m q r y
  small_other {power} {y} n s =
      record {
        narrow = s.narrow;
        right = λ k w h. ⊎_elim (λ e. absurd (n e)) (λ e. subst (λ (z : ℕ). PowerOf m z x y) (sym e.0) (s.right k (subst (Power m) e.0 w) h)) w.which;
      }

-- of any number of 32 bits
module _ (x m q m2 q2 r : ℕ) where
  pub third_any : (p square p2 y : ℕ) → p ≡ low_product x x → ReducedAny p m q r square → p2 ≡ low_product square x → ReducedAny p2 m2 q2 r y
      → Raised 3 x m q m2 q2 m q m q r y
  third_any p square p2 y ep hs ep2 hy =
      record {
        narrow = hy.narrow;
        right = λ k w c h.
            let small = k.small in
            let s = subst (λ (z : ℕ). Element m z square) (ep ∙ low_product_law h h) (hs.right k) in
            let hq = s.near in
            let hy' : ReducedAny p2 m q r y = subst (λ (z : ℕ). ReducedAny p2 m z r y) c.second_q (subst (λ (z : ℕ). ReducedAny p2 z q2 r y) c.second_m hy) in
            let e = subst (λ (z : ℕ). Element m z y) (ep2 ∙ low_product_law (omega arith) h) (hy'.right k) in
            third_of (third_power m 4294967296 x square y s.same e.same) e.near;
      }

  module _ (m3 q3 m4 q4 : ℕ) where
    pub seventh_any : (p square cube fourth p2 y : ℕ) → p ≡ low_product x x → ReducedAny p m q r square → Multiplied square x m2 q2 cube
        → Multiplied square square m3 q3 fourth → p2 ≡ low_product cube fourth → ReducedAny p2 m4 q4 r y → Raised 7 x m q m2 q2 m3 q3 m4 q4 r y
    seventh_any p square cube fourth p2 y ep hs hc hf ep2 hy =
        record {
          narrow = hy.narrow;
          right = λ k w c h.
              let hm : m ≤ 2013265921 = seventh_modulus w in
              let hx : x ≤ 4294967295 = omega arith in
              let s = subst (λ (z : ℕ). Element m z square) (ep ∙ low_product_law h h) (hs.right k) in
              let hq : square ≤ 2014314496 = omega (arith, s.near) in
              let hc' : Multiplied square x m q cube = subst (λ (z : ℕ). Multiplied square x m z cube) c.second_q (subst (λ (z : ℕ). Multiplied square x z q2 cube) c.second_m hc) in
              let hf' : Multiplied square square m q fourth = subst (λ (z : ℕ). Multiplied square square m z fourth) c.third_q (subst (λ (z : ℕ). Multiplied square square z q3 fourth) c.third_m hf) in
              let hy' : ReducedAny p2 m q r y = subst (λ (z : ℕ). ReducedAny p2 m z r y) c.fourth_q (subst (λ (z : ℕ). ReducedAny p2 z q4 r y) c.fourth_m hy) in
              let d = hc'.right k.inverse (omega arith) h (omega (arith, wide_cube_fits x m hx hm square hq)) in
              let f = hf'.right k.inverse (omega arith) (omega arith) (omega (arith, wide_fourth_fits x m hx hm square hq)) in
              let hd : cube ≤ 4027580416 = wide_cube_le x m hx hm square cube hq d.bound in
              let hg : fourth ≤ 2957967616 = wide_fourth_le x m hx hm square fourth hq f.bound in
              let e = subst (λ (z : ℕ). Element m z y) (ep2 ∙ low_product_law (omega arith) (omega arith)) (hy'.right k) in
              seventh_of (seventh_power_law m 4294967296 x square cube fourth y s.same d.same f.same e.same) e.near;
        }

    pub any_third : {y : ℕ} → Raised 3 x m q m2 q2 m q m q r y → Raised 3 x m q m2 q2 m3 q3 m4 q4 r y
    any_third h =
        record {
          narrow = h.narrow;
          right = λ k w c hx. h.right k w
              (record { second_m = c.second_m; second_q = c.second_q; third_m = refl; third_q = refl; fourth_m = refl; fourth_q = refl }) hx;
        }

    pub any_other : {power y : ℕ} → (power ≡ 3 → ⊥) → Raised 7 x m q m2 q2 m3 q3 m4 q4 r y → Raised power x m q m2 q2 m3 q3 m4 q4 r y
    any_other {power} {y} n s =
        record {
          narrow = s.narrow;
          right = λ k w c h.
              ⊎_elim (λ e. absurd (n e)) (λ e. subst (λ (z : ℕ). PowerOf m z x y) (sym e.0) (s.right k (subst (Power m) e.0 w) c h)) w.which;
        }

-- numbers of 32 bits, as numbers of 64
pub raised_small_at : {power x m q r x' m' q' r' y : ℕ} → x' ≡ x → m' ≡ m → q' ≡ q → r' ≡ r → RaisedSmall power x' m' q' r' y → RaisedSmall power x m q r y
raised_small_at {power} {x} {m} {q} {r} {x'} {m'} {q'} {r'} {y} ex em eq er d =
    subst (λ (z : ℕ). RaisedSmall power x m q z y) er
    (subst (λ (z : ℕ). RaisedSmall power x m z r' y) eq (subst (λ (z : ℕ). RaisedSmall power x z q' r' y) em (subst (λ (z : ℕ). RaisedSmall power z m' q' r' y) ex d)))
