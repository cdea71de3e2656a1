-- A length cut by a limit: what its parts are, and how many.
-- Assumes nothing.
use mathlib.Core.Path.{◌≡◌, refl, sym, ap, ap₂, ◌∙◌}
use mathlib.Core.Bool.{Bool, true, false}
use mathlib.Core.List.{List, [], ◌∷◌, ◌++◌}
use mathlib.Core.Logic.{◌≢◌}
use Prim.Native.Nat.{ℕ, zero, suc, ◌+◌, ◌-◌, ◌*◌, ◌/◌, ◌%◌, ◌≤◌, ◌<◌}
use native.Mathlib.Nat.{suc-mul, div-eq-sub-div, mod-eq-sub-mod, div-eq_of_lt, mod-eq_of_lt, div_self, mod_self, mod-lt, div-add-mod', le_of_mul-le-mul_right, lt_of_mul-lt-mul_right, add_assoc}
use native.Mathlib.Numerals.{add-one}
use native.Mathlib.Omega.{arith}
use borrow.Author.Tests.{leb-true, leb-false, le-leb, lt-leb, eqb-true, eqb-false, eq-eqb, ne_eqb}
use lib.Dec.{leb, eqb}
use lib.ListN.{length, replicate, length-append, length-replicate}
use Rattle.basics.specs.Logic.{◌and◌, ◌or◌, all, any}
use Rattle.basics.specs.Lists.{total}
use Rattle.basics.proofs.Cases.{cases, if_true, if_false, and_left, and_right, and_both, or_neither, all_both, any_append}
use Rattle.cutting.specs.Cutting.{rest_of, cut_length}

total_append : (ms ns : List ℕ) → total (ms ++ ns) ≡ total ms + total ns
unfolding total
total_append [] ns = omega arith
total_append (m ∷ ms) ns = ap (λ (k : ℕ). m + k) (total_append ms ns) ∙ sym (add_assoc m (total ms) (total ns))

total_replicate : (k n : ℕ) → total (replicate k n) ≡ k * n
unfolding total
total_replicate zero n = omega arith
total_replicate (suc k) n = omega (arith, total_replicate k n, suc-mul k n)

rest_none : (n : ℕ) → n ≡ 0 → rest_of n ≡ []
unfolding rest_of
rest_none n z = if_true _ _ _ (eq-eqb n 0 z)

rest_some : (n : ℕ) → n ≢ 0 → rest_of n ≡ n ∷ []
unfolding rest_of
rest_some n z = if_false _ _ _ (ne_eqb n 0 z)

total_rest : (n : ℕ) → total (rest_of n) ≡ n
unfolding total
total_rest n =
    cases (eqb n 0)
    (λ e. let z = eqb-true n 0 e in ap total (rest_none n z) ∙ sym z)
    λ e. ap total (rest_some n (eqb-false n 0 e)) ∙ omega arith

rest_not_empty : (n : ℕ) → any (λ m. eqb m 0) (rest_of n) ≡ false
unfolding any ◌or◌
rest_not_empty n =
    cases (eqb n 0)
    (λ e. ap (any (λ m. eqb m 0)) (rest_none n (eqb-true n 0 e)))
    λ e. ap (any (λ m. eqb m 0)) (rest_some n (eqb-false n 0 e)) ∙ rw e

or_none : (a : Bool) → a or false ≡ a
unfolding ◌or◌
or_none true = refl
or_none false = refl

all_more : (b c : ℕ) (ns : List ℕ) → b ≤ c → all (λ m. leb m b) ns ≡ true → all (λ m. leb m c) ns ≡ true
unfolding all
all_more b c [] h e = refl
all_more b c (m ∷ ns) h e =
    let short = leb-true m b (and_left _ _ e) in
    and_both _ _ (le-leb m c (omega arith)) (all_more b c ns h (and_right _ _ e))

module _ (limit : ℕ) where
  pub cut_short_law : (n : ℕ) → n ≤ limit → cut_length limit n ≡ n ∷ []
  unfolding cut_length
  cut_short_law n h = if_true _ _ _ (le-leb n limit h)

  -- as many of the limit as go into it, and the rest
  abbrev quotient : ℕ → List ℕ
  quotient n = replicate (n / limit) limit ++ rest_of (n % limit)

  cut_longer : (n : ℕ) → limit < n → cut_length limit n ≡ quotient n
  unfolding cut_length
  cut_longer n h = if_false _ _ _ (lt-leb n limit h)

  module _ (some : 0 < limit) where
    -- this is so of every length but 0
    cut_quotient : (n : ℕ) → 0 < n → cut_length limit n ≡ quotient n
    cut_quotient n h =
        cases (leb n limit)
        (λ e.
        let within = leb-true n limit e in
        cut_short_law n within
        ∙ sym
        (cases (eqb n limit)
        (λ same.
        let is = eqb-true n limit same in
        rw is
        (ap₂ (λ (k m : ℕ). replicate k limit ++ rest_of m) (div_self some) (mod_self limit)
        ∙ ap (λ (l : List ℕ). limit ∷ l) (rest_none 0 refl)))
        (λ other.
        let below : n < limit = let apart = eqb-false n limit other in omega arith in
        ap₂ (λ (k m : ℕ). replicate k limit ++ rest_of m) (div-eq_of_lt below) (mod-eq_of_lt below)
        ∙ rest_some n (λ z. omega arith))))
        λ e. cut_longer n (leb-false n limit e)

    -- a longer length begins with the limit
    pub cut_long : (n : ℕ) → limit < n → cut_length limit n ≡ limit ∷ cut_length limit (n - limit)
    cut_long n h =
        let within : limit ≤ n = omega arith in
        cut_longer n h
        ∙ ap₂ (λ (k m : ℕ). replicate k limit ++ rest_of m) (div-eq-sub-div some within ∙ add-one ((n - limit) / limit)) (mod-eq-sub-mod within)
        ∙ ap (λ (l : List ℕ). limit ∷ l) (sym (cut_quotient (n - limit) (omega arith)))

    pub cut_total : (n : ℕ) → total (cut_length limit n) ≡ n
    unfolding total
    cut_total n =
        cases (leb n limit)
        (λ e. ap total (cut_short_law n (leb-true n limit e)) ∙ omega arith)
        λ e.
        ap total (cut_longer n (leb-false n limit e))
        ∙ total_append (replicate (n / limit) limit) (rest_of (n % limit))
        ∙ ap₂ (λ (a b : ℕ). a + b) (total_replicate (n / limit) limit) (total_rest (n % limit))
        ∙ div-add-mod' n limit

    -- each part is within the limit
    abbrev within : ℕ → Bool
    within n = leb n limit

    each_limit : (k : ℕ) → all within (replicate k limit) ≡ true
    unfolding all ◌and◌
    each_limit zero = refl
    each_limit (suc k) = rw (le-leb limit limit (omega arith)) (each_limit k)

    rest_within : (n : ℕ) → n ≤ limit → all within (rest_of n) ≡ true
    unfolding all ◌and◌
    rest_within n h =
        cases (eqb n 0)
        (λ e. ap (all within) (rest_none n (eqb-true n 0 e)))
        λ e. ap (all within) (rest_some n (eqb-false n 0 e)) ∙ rw (le-leb n limit h)

    pub cut_within : (n : ℕ) → all (λ m. leb m limit) (cut_length limit n) ≡ true
    unfolding all ◌and◌
    cut_within n =
        cases (leb n limit)
        (λ e. ap (all within) (cut_short_law n (leb-true n limit e)) ∙ rw e)
        λ e.
        ap (all within) (cut_longer n (leb-false n limit e))
        ∙ all_both within (replicate (n / limit) limit) (rest_of (n % limit)) (each_limit (n / limit))
        (rest_within (n % limit) (omega (arith, mod-lt n some)))

    -- no part is longer than the length
    pub cut_most : (n : ℕ) → all (λ m. leb m n) (cut_length limit n) ≡ true
    unfolding all ◌and◌
    cut_most n =
        cases (leb n limit)
        (λ e. ap (all (λ m. leb m n)) (cut_short_law n (leb-true n limit e)) ∙ rw (le-leb n n (omega arith)))
        λ e. let longer = leb-false n limit e in all_more limit n (cut_length limit n) (omega arith) (cut_within n)

    -- no part is empty, but of a length of 0
    limits_some : (k : ℕ) → any (λ m. eqb m 0) (replicate k limit) ≡ false
    unfolding any ◌or◌
    limits_some zero = refl
    limits_some (suc k) = rw (ne_eqb limit 0 (λ z. omega arith)) (limits_some k)

    pub cut_empty : (n : ℕ) → any (λ m. eqb m 0) (cut_length limit n) ≡ eqb n 0
    unfolding any ◌or◌
    cut_empty n =
        cases (leb n limit)
        (λ e. ap (any (λ m. eqb m 0)) (cut_short_law n (leb-true n limit e)) ∙ or_none (eqb n 0))
        λ e.
        let longer = leb-false n limit e in
        ap (any (λ m. eqb m 0)) (cut_longer n longer)
        ∙ any_append (λ m. eqb m 0) (replicate (n / limit) limit) (rest_of (n % limit))
        ∙ or_neither _ _ (limits_some (n / limit)) (rest_not_empty (n % limit))
        ∙ sym (ne_eqb n 0 (λ z. omega arith))

    -- there is a first
    pub cut_some : (n : ℕ) → (first : ℕ) × (others : List ℕ) × (cut_length limit n ≡ first ∷ others)
    cut_some n =
        cases (leb n limit)
        (λ e. (n, [], cut_short_law n (leb-true n limit e)))
        λ e. (limit, cut_length limit (n - limit), cut_long n (leb-false n limit e))

    -- ---- how many parts there are

    -- each is within the limit, so their sum is within as many times the limit
    within_total : (ns : List ℕ) → all (λ m. leb m limit) ns ≡ true → total ns ≤ length ns * limit
    unfolding all total
    within_total [] e = omega arith
    within_total (m ∷ ns) e =
        let short = leb-true m limit (and_left _ _ e) in
        omega (arith, within_total ns (and_right _ _ e), suc-mul (length ns) limit)

    pub parts_suffice : (n : ℕ) → n ≤ length (cut_length limit n) * limit
    parts_suffice n = rw (cut_total n) at (within_total (cut_length limit n) (cut_within n))

    -- and there are no more than needed
    quotient_few : (n k : ℕ) → n ≤ k * limit → length (quotient n) ≤ k
    quotient_few n k h =
        let size = length-append (replicate (n / limit) limit) (rest_of (n % limit)) in
        let full = length-replicate {A = ℕ} (n / limit) limit in
        let whole = div-add-mod' n limit in
        cases (eqb (n % limit) 0)
        (λ e.
        let z = eqb-true (n % limit) 0 e in
        let none = ap length (rest_none (n % limit) z) in
        let few : n / limit ≤ k = le_of_mul-le-mul_right (omega arith) some in
        omega arith)
        λ e.
        let z = eqb-false (n % limit) 0 e in
        let one = ap length (rest_some (n % limit) z) in
        let few : n / limit < k = lt_of_mul-lt-mul_right limit (omega arith) in
        omega arith

    pub parts_few : (n k : ℕ) → 1 ≤ k → n ≤ k * limit → length (cut_length limit n) ≤ k
    parts_few n k one h =
        cases (leb n limit)
        (λ e. rw (cut_short_law n (leb-true n limit e)) one)
        λ e. rw (cut_longer n (leb-false n limit e)) (quotient_few n k h)
