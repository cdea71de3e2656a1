-- Laws of `least_from`: the least of some numbers that passes a test.
-- Assumes nothing.
use mathlib.Core.Path.{◌≡◌, sym, ◌∙◌}
use mathlib.Core.Bool.{Bool, true, false, true≢false}
use mathlib.Core.Logic.{⊎_elim}
use Prim.Native.Nat.{ℕ, zero, suc, ◌+◌, ◌≤◌, ◌<◌}
use native.Mathlib.Nat.{eq-or-lt_of_le, le_of_suc-le-suc, le_antisymm}
use native.Mathlib.Numerals.{add-one}
use native.Mathlib.Omega.{arith}
use borrow.Author.Tests.{ltb-true, ltb-false}
use lib.Dec.{ltb}
use Rattle.basics.proofs.Cases.{by, cases}
use Rattle.owners.specs.Owners.{least_from}

module _ (test : ℕ → Bool) where
  -- none from k on and before m passes
  abbrev pub NoneBefore : ℕ → ℕ → Type 0
  NoneBefore k m = (j : ℕ) → k ≤ j → j < m → test j ≡ false

  none_behind : {k m : ℕ} → test k ≡ false → NoneBefore (suc k) m → NoneBefore k m
  none_behind {k} e none j h l =
      ⊎_elim
      (λ q. rw q at e)
      (λ b. none j b l)
      (eq-or-lt_of_le h)

  -- one number more that does not pass
  pub none_next : {k m : ℕ} → NoneBefore k m → test m ≡ false → NoneBefore k (m + 1)
  none_next {k} {m} none e j h l =
      ⊎_elim
      (λ q. rw q e)
      (λ b. none j h b)
      (eq-or-lt_of_le (le_of_suc-le-suc (rw add-one at l)))

  -- what the least one is
  pub record Least (k n m : ℕ) : Type 0 where
    pub from : k ≤ m
    pub within : m ≤ k + n
    pub none : NoneBefore k m
    pub passes : m < k + n → test m ≡ true

  pub least : (k n : ℕ) → Least k n (least_from test k n)
  unfolding least_from
  least k zero =
      record {
        from = omega arith;
        within = omega arith;
        none = λ j h l. absurd (omega arith);
        passes = λ h. absurd (omega arith);
      }
  least k (suc n) =
      by (Least k (suc n)) (test k) _ _
      (λ t. record { from = omega arith; within = omega arith; none = λ j h l. absurd (omega arith); passes = λ _. t })
      λ f.
      let rest = least (suc k) n in
      record {
        from = omega (arith, rest.from);
        within = omega (arith, rest.within);
        none = none_behind f rest.none;
        passes = λ h. rest.passes (omega arith);
      }

  not_before : {k n a b : ℕ} → Least k n a → Least k n b → b ≤ a
  not_before {k} {n} {a} {b} p q =
      cases
      (ltb a b)
      (λ t.
      let l = ltb-true a b t in
      absurd (true≢false (sym (p.passes (omega (arith, q.within))) ∙ q.none a p.from l)))
      (ltb-false a b)

  -- there is only one such number
  pub least_is : {k n m : ℕ} → Least k n m → least_from test k n ≡ m
  least_is {k} {n} is = let l = least k n in le_antisymm (not_before is l) (not_before l is)
