-- The generator on numbers: a register is taken as the number whose binary digits it holds, bit 0 lowest. It is shown to be the generator of
-- the definitions, over any modulus. Proofs, which a reader of the statements may pass over.
use Rattle.std.specs.Prelude.{◌≡◌, refl, Bool, ℕ, zero, suc, ◌+◌, ◌-◌, ◌*◌, ◌/◌, ◌%◌, ◌^◌, ◌<◌, eqb, ltb, get_or, drop}
use Rattle.std.proofs.Common.{◌∙◌, sym, ap, ap₂, subst, le_of_suc-le-suc, add_comm, mul_assoc, mul_left_comm, pow-suc, mod-lt, mod-eq_of_lt, add-one, arith, eqb-true, lit<, length-append, pow_pos, pow-add, shr-shr}
use Rattle.std.proofs.Math.Bool.{true, false}
use mathlib.Core.List.{List, [], ◌∷◌, ◌++◌, append-nil}
use Rattle.std.proofs.Math.Nat.{add-mul-div_left, add-mul-mod_self_right}
use Rattle.std.proofs.Math.Numerals.{lt_of_le_of_ne}
use Rattle.std.proofs.lemmas.Bool.{eqb-false}
use Rattle.std.proofs.Math.ListN.{length}
use Rattle.std.proofs.Math.Seq.{append_snoc}
use Rattle.std.proofs.Math.Pow.{high}
use Rattle.basics.specs.Logic.{when◌then◌else◌}
use Rattle.basics.specs.Lists.{tabulate}
use Rattle.basics.specs.Digits.{number, number_after}
use Rattle.basics.proofs.Fill.{tabulate_at, tabulate_cons, tabulate_same}
use Rattle.basics.proofs.Positional.{number_append}
use Rattle.generator.specs.Generator.{next_bit, shifted, new_bits, output_bits, candidates, kept}
use Rattle.generator.proofs.Streams.{drop_next, pair, candidate_whole, candidate_part}

-- ---- registers as numbers

unfoldable pub bits_of : ℕ → List ℕ
bits_of n = tabulate 80 (λ k. n / 2 ^ k % 2)

unfoldable pub next : ℕ → ℕ
next n = (n / 2 ^ 62 % 2 + n / 2 ^ 51 % 2 + n / 2 ^ 38 % 2 + n / 2 ^ 23 % 2 + n / 2 ^ 13 % 2 + n / 2 ^ 0 % 2) % 2

unfoldable pub step : ℕ → ℕ
step n = next n * 2 ^ 79 + n / 2

next_is : (n : ℕ) → next_bit (bits_of n) ≡ next n
unfolding next_bit bits_of next
next_is n =
    let at : (k : ℕ) → k < 80 → get_or (tabulate 80 (λ k. n / 2 ^ k % 2)) k 0 ≡ n / 2 ^ k % 2 = tabulate_at 80 (λ k. n / 2 ^ k % 2) in
    rw (at 62 (lit< tt), at 51 (lit< tt), at 38 (lit< tt), at 23 (lit< tt), at 13 (lit< tt), at 0 (lit< tt))

next_bound : (n : ℕ) → next n < 2
unfolding next
next_bound n = mod-lt _ (lit< tt)

step_bound : (n : ℕ) → n < 2 ^ 80 → step n < 2 ^ 80
unfolding step
step_bound n h = omega (arith, next_bound n)

-- a bit below one that is set is as it was
bit_below : (bit n k j : ℕ) → (bit * 2 ^ (k + suc j) + n) / 2 ^ k % 2 ≡ n / 2 ^ k % 2
bit_below bit n k j =
    let power : bit * 2 ^ (k + suc j) ≡ 2 ^ k * (bit * 2 ^ j * 2) =
    rw (pow-add 2 k (suc j), pow-suc 2 j, mul_left_comm bit (2 ^ k) (2 ^ j * 2), mul_assoc bit (2 ^ j) 2) in
    rw (power, add_comm (2 ^ k * (bit * 2 ^ j * 2)) n, add-mul-div_left n (bit * 2 ^ j * 2) (pow_pos k), add-mul-mod_self_right (n / 2 ^ k) (bit * 2 ^ j) 2)

shift_is : (n : ℕ) → n < 2 ^ 80 → shifted (bits_of n) ≡ bits_of (step n)
unfolding shifted bits_of tabulate step
shift_is n h =
    let old : ℕ → ℕ = λ k. n / 2 ^ k % 2 in
    let new : ℕ → ℕ = λ k. (next n * 2 ^ 79 + n / 2) / 2 ^ k % 2 in
    let low : (k : ℕ) → k < 79 → old (suc k) ≡ new k =
    λ k l.
    let e : k + suc (78 - k) ≡ 79 = omega arith in
    ap (λ (m : ℕ). m % 2) (ap (λ (m : ℕ). n / 2 ^ m) (sym (add-one k) ∙ add_comm k 1) ∙ sym (shr-shr n 1 k))
    ∙ sym (subst (λ (m : ℕ). (next n * 2 ^ m + n / 2) / 2 ^ k % 2 ≡ n / 2 / 2 ^ k % 2) e (bit_below (next n) (n / 2) k (78 - k))) in
    let top : next n ≡ new 79 = sym (ap (λ (m : ℕ). m % 2) (high (next n) 79 (omega arith)) ∙ mod-eq_of_lt (next_bound n)) in
    ap₂ (λ (bits : List ℕ) (bit : ℕ). bits ++ (bit ∷ []))
    (ap (drop 1) (tabulate_cons 79 old) ∙ tabulate_same 79 (λ k. old (suc k)) new low)
    (next_is n ∙ top)

-- the register behind some new bits
unfoldable pub after : ℕ → ℕ → ℕ
after zero n = n
after (suc i) n = step (after i n)

pub after_bound : (i n : ℕ) → n < 2 ^ 80 → after i n < 2 ^ 80
unfolding after
after_bound zero n h = h
after_bound (suc i) n h = step_bound (after i n) (after_bound i n h)

pub dropped : (i n : ℕ) → n < 2 ^ 80 → (count : ℕ) → drop i (new_bits count (bits_of n)) ≡ new_bits (count - i) (bits_of (after i n))
unfolding after
dropped zero n h count = let e : count - 0 ≡ count = omega arith in rw e
dropped (suc i) n h count =
    (rw (add-one i) at (drop_next (bits_of n) (bits_of (after i n)) i count (dropped i n h count)))
    ∙ ap (new_bits (count - suc i)) (shift_is (after i n) (after_bound i n h))

-- ---- the generator on numbers: value and size are the number that the bits held write, and how many they are

unfoldable pub emitted : ℕ → ℕ → ℕ → ℕ → List ℕ
emitted m first size value = when eqb first 1 then when eqb size 30 then when ltb value m then value ∷ [] else [] else [] else []

unfoldable pub value_after : ℕ → ℕ → ℕ → ℕ → ℕ
value_after first size value longer = when eqb first 1 then when eqb size 30 then 0 else longer else value

unfoldable pub size_after : ℕ → ℕ → ℕ
size_after first size = when eqb first 1 then when eqb size 30 then 0 else size + 1 else size

unfoldable pub run : ℕ → ℕ → ℕ → ℕ → ℕ → List ℕ
run m zero n value size = []
run m (suc pairs) n value size =
    let first = next n in
    let longer = value * 2 + next (step n) in
    emitted m first size longer ++ run m pairs (step (step n)) (value_after first size value longer) (size_after first size)

-- one pair of new bits, of which the first decides
pair_is : (pairs n : ℕ) → n < 2 ^ 80
    → output_bits (new_bits (suc pairs * 2) (bits_of n))
    ≡ (when eqb (next n) 1 then next (step n) ∷ [] else []) ++ output_bits (new_bits (pairs * 2) (bits_of (step (step n))))
unfolding output_bits
pair_is pairs n h =
    let size : suc pairs * 2 - 2 ≡ pairs * 2 = omega arith in
    rw (pair (suc pairs * 2) (bits_of n) (omega arith), shift_is n h, shift_is (step n) (step_bound n h), next_is n, next_is (step n), size)

-- what a pair does, whatever is done with the bits behind it
module _ (m first second : ℕ) (held rest : List ℕ) (short : length held < 31) (after-pair : ℕ → ℕ → List ℕ)
    (same : (held' : List ℕ) → length held' < 31 → kept m (candidates (held' ++ rest)) ≡ after-pair (number 2 held') (length held')) where
  longer : ℕ
  longer = number 2 held * 2 + second

  Turn : Type 0
  Turn =
      kept m (candidates (held ++ ((when eqb first 1 then second ∷ [] else []) ++ rest)))
      ≡ emitted m first (length held) longer ++ after-pair (value_after first (length held) (number 2 held) longer) (size_after first (length held))

  one_longer : length (held ++ (second ∷ [])) ≡ length held + 1
  one_longer = length-append held (second ∷ [])

  turn_by : (a b : Bool) → eqb first 1 ≡ a → eqb (length held) 30 ≡ b → Turn
  unfolding Turn longer emitted value_after size_after when◌then◌else◌ kept number number_after
  turn_by true true e₁ e₂ =
      let whole : length (held ++ (second ∷ [])) ≡ 31 = rw one_longer (ap (λ (n : ℕ). n + 1) (eqb-true _ _ e₂)) in
      rw (e₁, e₂, ← append_snoc held second rest, candidate_whole (held ++ (second ∷ [])) rest whole, number_append 2 held second, same [] (lit< tt))
  turn_by true false e₁ e₂ =
      let l : length held < 30 = lt_of_le_of_ne (le_of_suc-le-suc short) (eqb-false _ _ e₂) in
      rw (e₁, e₂, ← append_snoc held second rest, same (held ++ (second ∷ [])) (rw one_longer (omega arith)), number_append 2 held second, one_longer)
  turn_by false b e₁ e₂ = rw (e₁, same held short)

  turn : Turn
  turn = turn_by (eqb first 1) (eqb (length held) 30) refl refl

pub run_is : (m pairs n : ℕ) (held : List ℕ) → n < 2 ^ 80 → length held < 31
    → kept m (candidates (held ++ output_bits (new_bits (pairs * 2) (bits_of n)))) ≡ run m pairs n (number 2 held) (length held)
unfolding run new_bits output_bits kept Turn longer
run_is m zero n held h l = rw (append-nil held, candidate_part held l)
run_is m (suc pairs) n held h l =
    ap (λ (bits : List ℕ). kept m (candidates (held ++ bits))) (pair_is pairs n h)
    ∙ turn m (next n) (next (step n)) held _ l (run m pairs (step (step n))) (λ held' l'. run_is m pairs (step (step n)) held' (step_bound _ (step_bound n h)) l')
