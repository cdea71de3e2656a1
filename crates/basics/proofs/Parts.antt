-- Parts of a string of bytes, byte by byte, and what they write.
-- Assumes nothing.
use mathlib.Core.Path.{◌≡◌, sym, ap, ◌∙◌}
use mathlib.Core.List.{List, [], ◌∷◌}
use Prim.Native.Nat.{ℕ, zero, suc, ◌+◌, ◌*◌, ◌≤◌, ◌<◌}
use Rattle.std.specs.Int.{w16, w32, from_be_bytes}
use native.Mathlib.Omega.{arith}
use lib.ListN.{length, get_or, take, drop}
use lib.Seq.{drop-cons, drop-drop, get_or-take, get_or-drop}
use Rattle.std.specs.Simd.{first_chunks}
use Rattle.basics.specs.Digits.{number, number_after}

pub two_bytes : (s : List ℕ) (at : ℕ) → at + 2 ≤ length s → take 2 (drop at s) ≡ get_or s at 0 ∷ get_or s (at + 1) 0 ∷ []
two_bytes s at h =
    let e1 : at + 1 ≡ suc at = omega arith in
    let d0 = drop-cons s at 0 (omega arith) in
    let d1 = drop-cons s (suc at) 0 (omega arith) in
    rw (e1, d0, d1)

pub four_bytes : (s : List ℕ) (at : ℕ) → at + 4 ≤ length s
    → take 4 (drop at s) ≡ get_or s at 0 ∷ get_or s (at + 1) 0 ∷ get_or s (at + 2) 0 ∷ get_or s (at + 3) 0 ∷ []
four_bytes s at h =
    let e1 : at + 1 ≡ suc at = omega arith in
    let e2 : at + 2 ≡ suc (suc at) = omega arith in
    let e3 : at + 3 ≡ suc (suc (suc at)) = omega arith in
    let d0 = drop-cons s at 0 (omega arith) in
    let d1 = drop-cons s (suc at) 0 (omega arith) in
    let d2 = drop-cons s (suc (suc at)) 0 (omega arith) in
    let d3 = drop-cons s (suc (suc (suc at))) 0 (omega arith) in
    rw (e1, e2, e3, d0, d1, d2, d3)

-- four bytes write a number of 32 bits
pub four_bytes_below : (a b c d : ℕ) → a < 256 → b < 256 → c < 256 → d < 256 → number 256 (a ∷ b ∷ c ∷ d ∷ []) < 4294967296
unfolding number number_after
four_bytes_below a b c d ha hb hc hd = omega arith

-- the library reads bytes as the number that they write
pub two_bytes_read : (a b : ℕ) → from_be_bytes w16 (a ∷ b ∷ []) ≡ number 256 (a ∷ b ∷ [])
unfolding number number_after
two_bytes_read a b = omega arith

pub four_bytes_read : (a b c d : ℕ) → from_be_bytes w32 (a ∷ b ∷ c ∷ d ∷ []) ≡ number 256 (a ∷ b ∷ c ∷ d ∷ [])
unfolding number number_after
four_bytes_read a b c d = omega arith

pub first_four_read : (s first : List ℕ) → 4 ≤ length s → first ≡ take 4 s → from_be_bytes w32 first ≡ number 256 (take 4 s)
first_four_read s first h e =
    let four = e ∙ four_bytes s 0 h in
    ap (from_be_bytes w32) four ∙ four_bytes_read _ _ _ _ ∙ ap (number 256) (sym (four_bytes s 0 h))

-- a list in parts of m, which the library gives: an element of a part
pub chunk_at : (m n : ℕ) (s : List ℕ) (i : ℕ) → i < n → get_or (first_chunks m n s) i [] ≡ take m (drop (m * i) s)
chunk_at m zero s i h = absurd (omega arith)
chunk_at m (suc n) s zero h = let none : m * 0 ≡ 0 = omega arith in rw none
chunk_at m (suc n) s (suc i) h =
    let place : m + m * i ≡ m * suc i = omega arith in
    chunk_at m n (drop m s) i (omega arith) ∙ ap (take m) (drop-drop (m * i) m s ∙ ap (λ (k : ℕ). drop k s) place)

pub chunk_read : (m n : ℕ) (s : List ℕ) (i j : ℕ) → i < n → j < m → get_or (get_or (first_chunks m n s) i []) j 0 ≡ get_or s (m * i + j) 0
chunk_read m n s i j h l =
    ap (λ (part : List ℕ). get_or part j 0) (chunk_at m n s i h)
    ∙ get_or-take m (drop (m * i) s) j 0 l
    ∙ get_or-drop (m * i) s j 0
