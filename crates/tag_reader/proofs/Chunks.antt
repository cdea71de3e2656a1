-- A string cut into words of four bytes, and the numbers that they write.
-- Assumes nothing.
use mathlib.Core.Path.{◌≡◌, refl, sym, ap, ◌∙◌}
use mathlib.Core.List.{List, [], ◌∷◌}
use Prim.Native.Nat.{ℕ, zero, suc, ◌+◌, ◌-◌, ◌*◌, ◌≤◌, ◌<◌}
use native.Mathlib.Omega.{arith}
use lib.ListN.{length, get_or, take, drop, length-drop}
use lib.Seq.{take_all, drop-drop}
use Rattle.std.specs.Int.{w32, from_be_bytes}
use Rattle.std.specs.Simd.{first_chunks}
use Rattle.basics.specs.Digits.{number, number_after}
use Rattle.basics.proofs.Parts.{four_bytes}
use Rattle.tag.specs.TagString.{word_at}

-- the chunk k of four bytes
pub chunk_at : (n : ℕ) (s : List ℕ) (k : ℕ) (d : List ℕ) → k < n → get_or (first_chunks 4 n s) k d ≡ take 4 (drop (4 * k) s)
chunk_at zero s k d h = absurd (omega arith)
chunk_at (suc n) s zero d h = refl
chunk_at (suc n) s (suc k) d h =
    let place : 4 + 4 * k ≡ 4 * suc k = omega arith in
    chunk_at n (drop 4 s) k d (omega arith)
    ∙ ap (take 4) (drop-drop (4 * k) 4 s ∙ ap (λ (j : ℕ). drop j s) place)

-- the library reads four bytes as the number that they write
four_read : (a b c d : ℕ) → from_be_bytes w32 (a ∷ b ∷ c ∷ d ∷ []) ≡ number 256 (a ∷ b ∷ c ∷ d ∷ [])
unfolding number number_after
four_read a b c d = omega arith

pub number_read_at : (s : List ℕ) (at : ℕ) → at + 4 ≤ length s → from_be_bytes w32 (take 4 (drop at s)) ≡ number 256 (take 4 (drop at s))
number_read_at s at h =
    rw (four_bytes s at h) (four_read (get_or s at 0) (get_or s (at + 1) 0) (get_or s (at + 2) 0) (get_or s (at + 3) 0))

-- the chunk's number is the word
pub word_read : (n : ℕ) (s : List ℕ) (k : ℕ) (d : List ℕ) → k < n → 4 * n ≤ length s → from_be_bytes w32 (get_or (first_chunks 4 n s) k d) ≡ word_at s k
unfolding word_at
word_read n s k d h room =
    ap (from_be_bytes w32) (chunk_at n s k d h) ∙ number_read_at s (4 * k) (omega arith)

-- a string's last four bytes
pub tail_read : (s : List ℕ) → 4 ≤ length s → from_be_bytes w32 (drop (length s - 4) s) ≡ number 256 (drop (length s - 4) s)
tail_read s h =
    let all : take 4 (drop (length s - 4) s) ≡ drop (length s - 4) s =
    take_all 4 (drop (length s - 4) s) (omega (arith, length-drop (length s - 4) s)) in
    ap (from_be_bytes w32) (sym all) ∙ number_read_at s (length s - 4) (omega arith) ∙ ap (number 256) all
