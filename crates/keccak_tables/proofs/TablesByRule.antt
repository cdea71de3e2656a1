-- The tables are what FIPS 202's rules give: one computed test each.
-- Assumes nothing.
use mathlib.Core.Path.{◌≡◌, ◌∙◌, refl, sym, ap}
use mathlib.Core.List.{List, [], ◌∷◌}
use Prim.Native.Nat.{ℕ, zero, suc, ◌+◌, ◌-◌, ◌*◌, ◌%◌, ◌^◌, ◌<◌}
use native.Mathlib.Nat.{add-zero, add-suc, suc-add, mod-eq_of_lt, not-suc-le-zero, le_of_suc-le-suc}
use native.Mathlib.Omega.{arith}
use lib.ListN.{get_or}
use Rattle.basics.specs.Lists.{tabulate, sum}
use Rattle.basics.proofs.Fill.{tabulate_same}
use Rattle.basics.proofs.Sums.{sum_same}
use Rattle.keccak_tables.specs.Tables.{offsets, round_constants}
use Rattle.keccak_tables.specs.TableRules.{walk, offsets_by_rule, add_bit8, step, register, rc, round_constant, round_constants_by_rule}

pub offsets_by_rule_law : offsets ≡ offsets_by_rule
unfolding offsets offsets_by_rule walk
offsets_by_rule_law = refl

-- bit 0 of n registers in turn, each made from the one before, so that the test takes 168 steps in all
unfoldable run : ℕ → List ℕ → List ℕ
run zero r = []
run (suc n) r = get_or r 0 0 ∷ run n (step r)

run_at : (n k t : ℕ) → t < n → get_or (run n (register k)) t 0 ≡ get_or (register (k + t)) 0 0
unfolding run register
run_at zero k t h = absurd (not-suc-le-zero h)
run_at (suc n) k zero h = rw (add-zero k)
run_at (suc n) k (suc t) h = run_at n (suc k) t (le_of_suc-le-suc h) ∙ ap (λ (m : ℕ). get_or (register m) 0 0) (suc-add k t ∙ sym (add-suc k t))

run_rc : (t : ℕ) → t < 168 → get_or (run 168 (register 0)) t 0 ≡ rc t
unfolding rc
run_rc t h =
    let small : t % 255 ≡ t = mod-eq_of_lt (omega arith) in
    rw small (run_at 168 0 t h ∙ ap (λ (m : ℕ). get_or (register m) 0 0) (omega arith))

-- the round constants whose bits are those of a list
from_bits : List ℕ → List ℕ
from_bits bits = tabulate 24 (λ i. sum 7 (λ j. get_or bits (j + 7 * i) 0 * 2 ^ (2 ^ j - 1)))

computed : round_constants ≡ from_bits (run 168 (register 0))
unfolding round_constants from_bits run register step add_bit8 tabulate sum
computed = refl

pub round_constants_by_rule_law : round_constants ≡ round_constants_by_rule
unfolding from_bits round_constants_by_rule round_constant
round_constants_by_rule_law =
    computed
    ∙ tabulate_same 24 _ _
    (λ i below. sum_same 7 _ _ (λ j less. ap (λ (bit : ℕ). bit * 2 ^ (2 ^ j - 1)) (run_rc (j + 7 * i) (omega arith))))
