-- Lanes of eight bytes.
-- Assumes nothing.
use mathlib.Core.Path.{◌≡◌, ◌∙◌, refl, sym, ap}
use mathlib.Core.List.{List, [], ◌++◌}
use Prim.Native.Nat.{ℕ, zero, suc, ◌/◌, ◌%◌, ◌+◌, ◌*◌, ◌^◌, ◌≤◌, ◌<◌}
use native.Mathlib.Nat.{zero-add, div-one}
use native.Mathlib.Omega.{arith}
use lib.ListN.{length, get_or, take, drop, replicate, get_or-eq_default}
use lib.Seq.{drop-drop, ext_get_or, get_or-take, get_or-drop}
use Rattle.std.specs.Int.{w64, from_le_bytes, to_le_bytes}
use Rattle.std.specs.Simd.{first_chunks}
use Rattle.basics.specs.Lists.{tabulate, sum}
use Rattle.basics.proofs.Fill.{length_tabulate, tabulate_at}
use Rattle.basics.proofs.Zeros.{zeros_behind}
use Rattle.basics.proofs.Sums.{sum_same}
use Rattle.sha3.specs.Sponge.{lane_at}

-- a list by its elements
pub by_each : (n : ℕ) (f : ℕ → ℕ) {xs : List ℕ} → length xs ≡ n → ((i : ℕ) → i < n → get_or xs i 0 ≡ f i) → xs ≡ tabulate n f
by_each n f {xs} long each =
    ext_get_or 0 xs (tabulate n f) (long ∙ sym (length_tabulate n f))
    (λ i below. each i (omega arith) ∙ sym (tabulate_at n f i (omega arith)))

-- a lane's byte j as the library writes it
pub as_written : (n j : ℕ) → j < 8 → get_or (to_le_bytes w64 n) j 0 ≡ n / 2 ^ (8 * j) % 256
as_written n zero h = ap (λ (m : ℕ). m % 256) (sym (div-one n))
as_written n (suc zero) h = refl
as_written n (suc (suc zero)) h = refl
as_written n (suc (suc (suc zero))) h = refl
as_written n (suc (suc (suc (suc zero)))) h = refl
as_written n (suc (suc (suc (suc (suc zero))))) h = refl
as_written n (suc (suc (suc (suc (suc (suc zero)))))) h = refl
as_written n (suc (suc (suc (suc (suc (suc (suc zero))))))) h = refl
as_written n (suc (suc (suc (suc (suc (suc (suc (suc j)))))))) h = absurd (omega arith)

-- eight bytes as the library reads them
as_read : (s : List ℕ) → from_le_bytes w64 s ≡ lane_at s 0
unfolding lane_at sum
as_read s = omega arith

same_lane : (s t : List ℕ) (k l : ℕ) → ((j : ℕ) → j < 8 → get_or s (k + j) 0 ≡ get_or t (l + j) 0) → lane_at s k ≡ lane_at t l
unfolding lane_at
same_lane s t k l h = sum_same 8 _ _ (λ j below. ap (λ (b : ℕ). b * 2 ^ (8 * j)) (h j below))

-- the library's parts of eight bytes
pub part_at : (s : List ℕ) (n i : ℕ) → i < n → get_or (first_chunks 8 n s) i [] ≡ take 8 (drop (8 * i) s)
part_at s zero i h = absurd (omega arith)
part_at s (suc n) zero h = refl
part_at s (suc n) (suc i) h =
    let place : 8 + 8 * i ≡ 8 * suc i = omega arith in
    part_at (drop 8 s) n i (omega arith) ∙ ap (take 8) (drop-drop (8 * i) 8 s ∙ ap (λ (k : ℕ). drop k s) place)

-- the lane i of a block
pub block_lane : (p : List ℕ) (i : ℕ) → from_le_bytes w64 (take 8 (drop (8 * i) p)) ≡ lane_at (p ++ replicate 64 0) (8 * i)
block_lane p i =
    let lane = take 8 (drop (8 * i) p) in
    as_read lane
    ∙ same_lane lane (p ++ replicate 64 0) 0 (8 * i)
    (λ j below.
    ap (λ (k : ℕ). get_or lane k 0) (zero-add j)
    ∙ get_or-take 8 (drop (8 * i) p) j 0 below
    ∙ get_or-drop (8 * i) p j 0
    ∙ sym (zeros_behind p 64 (8 * i + j)))

-- behind a block are the capacity's zeros
pub capacity_lane : (p : List ℕ) (i : ℕ) → length p ≤ 8 * i → lane_at (p ++ replicate 64 0) (8 * i) ≡ 0
unfolding sum lane_at
capacity_lane p i h =
    same_lane (p ++ replicate 64 0) [] (8 * i) 0
    (λ j below. zeros_behind p 64 (8 * i + j) ∙ get_or-eq_default p 0 (omega arith))
