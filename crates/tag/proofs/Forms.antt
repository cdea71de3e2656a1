-- Form 2 and the others: what stands behind the separator, and a string taken apart there.
-- Assumes nothing.
use mathlib.Core.Path.{◌≡◌, sym, ap, ap₂, ◌∙◌}
use mathlib.Core.Bool.{true, false}
use mathlib.Core.List.{List, [], ◌++◌, append-nil}
use Prim.Native.Nat.{ℕ, ◌-◌, ◌/◌, ◌%◌, ◌≤◌, ◌<◌}
use native.Mathlib.Omega.{arith}
use borrow.Author.Tests.{eqb-true, ltb-false, le-ltb}
use lib.Dec.{eqb, lit<}
use lib.ListN.{length, take, drop, length-append, length-drop, take-append-drop}
use lib.Seq.{length-take-le, take-length, take_at, drop_at}
use Rattle.basics.specs.Lists.{Below}
use Rattle.basics.specs.Digits.{digits, number}
use Rattle.basics.proofs.Below.{below_drop}
use Rattle.basics.proofs.Cases.{cases, if_true, if_false, and_step, and_stop, or_end}
use Rattle.basics.proofs.Positional.{length_digits, number_digits, digits_number}
use Rattle.tag.specs.TagString.{is_form, tail_of, body_of, length_in, tail_missing}

-- four bytes are those of the low 32 bits
pub low_digits : (n : ℕ) → digits 256 4 (n % 4294967296) ≡ digits 256 4 n
unfolding digits
low_digits n =
    let m = n % 4294967296 in
    let d0 : m / 256 / 256 / 256 % 256 ≡ n / 256 / 256 / 256 % 256 = omega arith in
    let d1 : m / 256 / 256 % 256 ≡ n / 256 / 256 % 256 = omega arith in
    let d2 : m / 256 % 256 ≡ n / 256 % 256 = omega arith in
    let d3 : m % 256 ≡ n % 256 = omega arith in
    rw (d0, d1, d2, d3)

-- ---- form 2

module _ (form : ℕ) (e : eqb form 2 ≡ true) where
  pub tail_2 : (n : ℕ) → tail_of form n ≡ digits 256 4 n
  unfolding tail_of
  tail_2 n = if_true _ _ _ e

  pub tail_2_long : (n : ℕ) → length (tail_of form n) ≡ 4
  tail_2_long n = ap length (tail_2 n) ∙ length_digits 256 4 n

  module _ (s : List ℕ) where
    pub body_2 : body_of form s ≡ take (length s - 4) s
    unfolding body_of
    body_2 = if_true _ _ _ e

    pub length_in_2 : (n : ℕ) → length_in form s n ≡ number 256 (drop (length s - 4) s)
    unfolding length_in
    length_in_2 n = if_true _ _ _ e

    pub tail_there_2 : tail_missing form s ≡ false → 4 ≤ length s
    unfolding tail_missing
    tail_there_2 t = ltb-false (length s) 4 (sym (and_step _ _ e) ∙ t)

-- ---- the others

module _ (form : ℕ) (e : eqb form 2 ≡ false) where
  pub tail_1 : (n : ℕ) → tail_of form n ≡ []
  unfolding tail_of
  tail_1 n = if_false _ _ _ e

  module _ (s : List ℕ) where
    pub body_1 : body_of form s ≡ s
    unfolding body_of
    body_1 = if_false _ _ _ e

    pub length_in_1 : (n : ℕ) → length_in form s n ≡ n
    unfolding length_in
    length_in_1 n = if_false _ _ _ e

  pub form_1 : is_form form ≡ true → form ≡ 1
  unfolding is_form
  form_1 k = eqb-true form 1 (or_end (eqb form 1) (rw e at k))

-- ---- every form

module _ (form : ℕ) where
  -- the tail has as many bytes behind every separator
  pub tail_long : (n : ℕ) → length (tail_of form n) ≡ length (tail_of form 0)
  tail_long n =
      cases (eqb form 2)
      (λ e. tail_2_long form e n ∙ sym (tail_2_long form e 0))
      (λ e. ap length (tail_1 form e n ∙ sym (tail_1 form e 0)))

  pub tail_short : length (tail_of form 0) ≤ 4
  tail_short = cases (eqb form 2) (λ e. omega (arith, tail_2_long form e 0)) (λ e. omega (arith, ap length (tail_1 form e 0)))

  -- a string that has its tail, cut before it
  module _ (s : List ℕ) (there : tail_missing form s ≡ false) where
    pub body_front : take (length (body_of form s)) s ≡ body_of form s
    body_front =
        cases (eqb form 2)
        (λ e. let b = body_2 form e s in
        ap (λ (k : ℕ). take k s) (ap length b ∙ length-take-le (length s - 4) s (omega arith)) ∙ sym b)
        (λ e. let b = body_1 form e s in ap (λ (l : List ℕ). take (length l) s) b ∙ take-length s ∙ sym b)

    pub body_long : length (body_of form s) ≡ length s - length (tail_of form 0)
    body_long =
        cases (eqb form 2)
        (λ e. ap length (body_2 form e s) ∙ length-take-le (length s - 4) s (omega arith) ∙ ap (λ (k : ℕ). length s - k) (sym (tail_2_long form e 0)))
        (λ e. ap length (body_1 form e s) ∙ (let none = ap length (tail_1 form e 0) in omega arith))

    -- of bytes: the tail is the separator's length that is read from it
    pub body_and_tail : (n : ℕ) → Below 256 s → body_of form s ++ tail_of form (length_in form s n) ≡ s
    body_and_tail n bytes =
        cases (eqb form 2)
        (λ e.
        let last = drop (length s - 4) s in
        let four : length last ≡ 4 = omega (arith, length-drop (length s - 4) s, tail_there_2 form e s there) in
        let same = tail_2 form e (length_in form s n) ∙ ap (digits 256 4) (length_in_2 form e s n)
        ∙ digits_number 256 4 last four (below_drop 256 (length s - 4) s bytes) in
        ap₂ (λ (x y : List ℕ). x ++ y) (body_2 form e s) same ∙ take-append-drop (length s - 4) s)
        (λ e. ap₂ (λ (x y : List ℕ). x ++ y) (body_1 form e s) (tail_1 form e (length_in form s n)) ∙ append-nil s)

  -- a string with the tail of a separator of m bytes
  module _ (front : List ℕ) (m : ℕ) where
    abbrev whole : List ℕ
    whole = front ++ tail_of form m

    long_2 : eqb form 2 ≡ true → length front ≡ length whole - 4
    long_2 e = omega (arith, length-append front (tail_of form m), tail_2_long form e m)

    pub whole_body : body_of form whole ≡ front
    whole_body =
        cases (eqb form 2)
        (λ e. body_2 form e whole ∙ take_at front (tail_of form m) (length whole - 4) (long_2 e))
        (λ e. body_1 form e whole ∙ ap (λ (l : List ℕ). front ++ l) (tail_1 form e m) ∙ append-nil front)

    pub whole_length : (n : ℕ) → m < 4294967296 → (eqb form 2 ≡ false → n ≡ m) → length_in form whole n ≡ m
    whole_length n small given =
        cases (eqb form 2)
        (λ e. length_in_2 form e whole n ∙ ap (number 256) (drop_at front (tail_of form m) (length whole - 4) (long_2 e) ∙ tail_2 form e m)
        ∙ number_digits 256 4 m (lit< tt) small)
        (λ e. length_in_1 form e whole n ∙ given e)

    pub whole_has_tail : tail_missing form whole ≡ false
    unfolding tail_missing
    whole_has_tail =
        cases (eqb form 2)
        (λ e. and_step _ _ e ∙ le-ltb (length whole) 4 (omega (arith, length-append front (tail_of form m), tail_2_long form e m)))
        (λ e. and_stop _ _ e)
