-- An array that keeps the first n numbers of a list, with a count of them, and what one number more makes of it.
-- Assumes nothing.
use mathlib.Core.Path.{◌≡◌, sym, ap, ap₂, ◌∙◌}
use mathlib.Core.List.{List, [], ◌∷◌, ◌++◌}
use Prim.Native.Nat.{ℕ, ◌+◌, ◌-◌, ◌<◌, ◌≤◌}
use native.Mathlib.Omega.{arith}
use borrow.Author.Tests.{ltb-true, ltb-false}
use lib.Dec.{ltb}
use lib.ListN.{length, take, set, replicate, length-append, length-take}
use lib.Seq.{take_all, take-nil, take-append-le}
use Rattle.basics.specs.Logic.{when◌then◌else◌}
use Rattle.basics.specs.Lists.{zero_padded}
use Rattle.basics.proofs.Cases.{cases, if_true, if_false}
use Rattle.basics.proofs.Zeros.{push_number}

pub record Kept (n : ℕ) (xs : List ℕ) (count : ℕ) (array : List ℕ) : Type 0 where
  pub counted : count ≡ length (take n xs)
  pub numbers : array ≡ zero_padded n (take n xs)

pub nothing_kept : (n : ℕ) → Kept n [] 0 (replicate n 0)
nothing_kept n =
    let zeros : n - 0 ≡ n = omega arith in
    record { counted = rw take-nil; numbers = rw (take-nil, zeros) }

module _ {n count : ℕ} {xs array : List ℕ} (x : ℕ) (k : Kept n xs count array) where
  kept_room : count < n → Kept n (xs ++ (x ∷ [])) (count + 1) (set array count x)
  kept_room h =
      let few : length xs < n = omega (arith, k.counted, length-take n xs) in
      let all : take n xs ≡ xs = take_all n xs (omega arith) in
      let count-all : count ≡ length xs = k.counted ∙ ap length all in
      let longer : length (xs ++ (x ∷ [])) ≡ length xs + 1 = length-append xs (x ∷ []) in
      let more : take n (xs ++ (x ∷ [])) ≡ xs ++ (x ∷ []) = take_all n (xs ++ (x ∷ [])) (omega arith) in
      record {
        counted = ap (λ (c : ℕ). c + 1) count-all ∙ sym longer ∙ ap length (sym more);
        numbers =
            ap₂ (λ (a : List ℕ) (c : ℕ). set a c x) (k.numbers ∙ ap (zero_padded n) all) count-all
            ∙ push_number n xs x few
            ∙ ap (zero_padded n) (sym more);
      }

  kept_full : n ≤ count → Kept n (xs ++ (x ∷ [])) count array
  kept_full h =
      let many : n ≤ length xs = omega (arith, k.counted, length-take n xs) in
      let same : take n (xs ++ (x ∷ [])) ≡ take n xs = take-append-le n xs (x ∷ []) many in
      record { counted = k.counted ∙ ap length (sym same); numbers = k.numbers ∙ ap (zero_padded n) (sym same) }

  -- a number more: in the next place, or in none if all are used
  pub kept_more : Kept n (xs ++ (x ∷ [])) (when ltb count n then count + 1 else count) (when ltb count n then set array count x else array)
  kept_more =
      cases (ltb count n)
      (λ e. rw (if_true (ltb count n) (count + 1) count e, if_true (ltb count n) (set array count x) array e) (kept_room (ltb-true count n e)))
      λ e. rw (if_false (ltb count n) (count + 1) count e, if_false (ltb count n) (set array count x) array e) (kept_full (ltb-false count n e))
