-- The padded message by bytes: the bits 01 1 0 .. 0 1 are 0x06, zeros and 0x80, or 0x86 where one byte is left (FIPS 202, B.2).
-- Assumes nothing.
use mathlib.Core.Path.{◌≡◌, ◌∙◌, refl, sym, ap}
use mathlib.Core.List.{List, [], ◌∷◌, ◌++◌}
use Prim.Native.Nat.{ℕ, zero, suc, ◌+◌, ◌-◌, ◌*◌, ◌/◌, ◌%◌, ◌^◌, ◌≤◌, ◌<◌}
use native.Mathlib.Omega.{arith}
use lib.Bits.{bit_or}
use lib.ListN.{length, get_or, take, drop, set, replicate, length-append, length-drop, length-replicate, replicate-append-replicate}
use lib.Seq.{get_or-append-add, get_or_at, set_at, take_all, take-append-le, drop-append-le}
use Rattle.std.proofs.Common.{append_assoc, add-one}
use Rattle.std.proofs.lemmas.List.{drop-replicate}
use Rattle.basics.specs.Lists.{tabulate, sum}
use Rattle.basics.proofs.Fill.{tabulate_cons, tabulate_same}
use Rattle.basics.proofs.Sums.{sum_same}
use Rattle.sha3.specs.Sponge.{bytes, pad10*1, padded, padding, block}

-- past the first eight bits
past_eight : (first bits : List ℕ) → length first ≡ 8 → (i k : ℕ) → get_or (first ++ bits) (8 * suc i + k) 0 ≡ get_or bits (8 * i + k) 0
past_eight first bits e i k =
    let place : 8 * suc i + k ≡ length first + (8 * i + k) = omega arith in
    rw place (get_or-append-add first bits (8 * i + k) 0)

-- the first byte apart
bytes_cons : (b0 b1 b2 b3 b4 b5 b6 b7 : ℕ) (bits : List ℕ)
    → bytes (b0 ∷ b1 ∷ b2 ∷ b3 ∷ b4 ∷ b5 ∷ b6 ∷ b7 ∷ bits)
    ≡ sum 8 (λ k. get_or (b0 ∷ b1 ∷ b2 ∷ b3 ∷ b4 ∷ b5 ∷ b6 ∷ b7 ∷ []) k 0 * 2 ^ k) ∷ bytes bits
unfolding bytes sum
bytes_cons b0 b1 b2 b3 b4 b5 b6 b7 bits =
    let first = b0 ∷ b1 ∷ b2 ∷ b3 ∷ b4 ∷ b5 ∷ b6 ∷ b7 ∷ [] in
    let byte : List ℕ → ℕ → ℕ = λ s i. sum 8 (λ k. get_or s (8 * i + k) 0 * 2 ^ k) in
    let size : length (first ++ bits) / 8 ≡ suc (length bits / 8) = omega arith in
    ap (λ (n : ℕ). tabulate n (byte (first ++ bits))) size
    ∙ tabulate_cons (length bits / 8) (byte (first ++ bits))
    ∙ ap (λ (l : List ℕ). byte (first ++ bits) 0 ∷ l)
    (tabulate_same (length bits / 8) (λ i. byte (first ++ bits) (suc i)) (byte bits)
    (λ i h. sum_same 8 _ _ (λ k l. ap (λ (b : ℕ). b * 2 ^ k) (past_eight first bits refl i k))))

zeros_then_one : (k : ℕ) → bytes (replicate (8 * k + 7) 0 ++ (1 ∷ [])) ≡ replicate k 0 ++ (0x80 ∷ [])
unfolding bytes tabulate sum
zeros_then_one zero = refl
zeros_then_one (suc k) =
    let n = 8 * k + 7 in
    let e : 8 * suc k + 7 ≡ 8 + n = omega arith in
    rw (e, ← replicate-append-replicate 8 n)
    (bytes_cons 0 0 0 0 0 0 0 0 (replicate n 0 ++ (1 ∷ [])) ∙ ap (λ (l : List ℕ). 0 ∷ l) (zeros_then_one k))

padding_bytes : (k : ℕ) → bytes (0 ∷ 1 ∷ 1 ∷ replicate (8 * k + 4) 0 ++ (1 ∷ [])) ≡ padding (suc k)
unfolding padding bytes tabulate sum
padding_bytes zero = refl
padding_bytes (suc k) =
    let n = 8 * k + 7 in
    let e : 8 * suc k + 4 ≡ 5 + n = omega arith in
    rw (e, ← replicate-append-replicate 5 n)
    (bytes_cons 0 1 1 0 0 0 0 0 (replicate n 0 ++ (1 ∷ [])) ∙ ap (λ (l : List ℕ). 0x06 ∷ l) (zeros_then_one k))

-- the padding is B.2's, of 136 - length m % 136 bytes
pub padded_bytes : (m : List ℕ) → padded m ≡ m ++ padding (136 - length m % 136)
unfolding padded pad10*1
padded_bytes m =
    let k = 135 - length m % 136 in
    let size : 136 - length m % 136 ≡ suc k = omega arith in
    let zeros : (1088 - (8 * length m + 2 + 2) % 1088) % 1088 ≡ 8 * k + 4 = omega arith in
    rw (size, zeros) (ap (λ (l : List ℕ). m ++ l) (padding_bytes k))

length_padding : (k : ℕ) → length (padding k) ≡ k
unfolding padding
length_padding zero = refl
length_padding (suc zero) = refl
length_padding (suc (suc k)) = rw (length-append, length-replicate) (omega arith)

-- the blocks of a padded message
pub blocks_padded : (m : List ℕ) → length (padded m) / 136 ≡ (length m + 136) / 136
blocks_padded m = rw (padded_bytes m, length-append, length_padding) (omega arith)

-- ---- the blocks of a padded message

-- a block that is all of the message
pub in_message : (m : List ℕ) (n : ℕ) → 136 * n + 136 ≤ length m → block (padded m) n ≡ take 136 (drop (136 * n) m)
in_message m n h =
    let behind = padding (136 - length m % 136) in
    rw (padded_bytes m, drop-append-le (136 * n) m behind (omega arith))
    (take-append-le 136 (drop (136 * n) m) behind (omega (arith, length-drop (136 * n) m)))

-- the last one is what the message's other bytes are padded to
pub last_padded : (m : List ℕ) (n : ℕ) → n ≡ length m / 136 → block (padded m) n ≡ padded (drop (n * 136) m)
last_padded m n e =
    let rest = drop (n * 136) m in
    let long : length rest ≡ length m % 136 = length-drop (n * 136) m ∙ omega arith in
    let same : length rest % 136 ≡ length m % 136 = omega arith in
    let behind = padding (136 - length m % 136) in
    let whole : length (rest ++ behind) ≤ 136 = rw (length-append, length_padding) (omega arith) in
    let place : 136 * n ≡ n * 136 = omega arith in
    rw (padded_bytes m, padded_bytes rest, same, place, drop-append-le (n * 136) m behind (omega arith)) (take_all 136 (rest ++ behind) whole)

-- ---- the last block as it is made

abbrev last_marked : List ℕ → List ℕ
last_marked s = set s 135 (bit_or (get_or s 135 0) 0x80)

marked_by : (rest : List ℕ) (k : ℕ) → length rest + k ≡ 135 → last_marked (set (rest ++ (0 ∷ replicate k 0)) (length rest) 0x06) ≡ rest ++ padding (suc k)
unfolding padding
marked_by rest zero e =
    let long : length rest ≡ 135 = omega arith in
    ap last_marked (set_at rest 0 [] 0x06 (length rest) refl)
    ∙ rw (get_or_at rest 0x06 [] 0 135 long) (set_at rest 0x06 [] 0x86 135 long)
marked_by rest (suc k) e =
    let front = rest ++ (0x06 ∷ replicate k 0) in
    let long : length front ≡ 135 = rw (length-append, length-replicate) (omega arith) in
    let zeros : replicate {A = ℕ} (suc k) 0 ≡ replicate k 0 ++ (0 ∷ []) = sym (replicate-append-replicate k 1 0 ∙ ap (λ (n : ℕ). replicate n 0) (add-one k)) in
    ap last_marked
    (set_at rest 0 (replicate (suc k) 0) 0x06 (length rest) refl
    ∙ ap (λ (l : List ℕ). rest ++ (0x06 ∷ l)) zeros
    ∙ sym (append_assoc rest (0x06 ∷ replicate k 0) (0 ∷ [])))
    ∙ rw (get_or_at front 0 [] 0 135 long) (set_at front 0 [] 0x80 135 long)
    ∙ append_assoc rest (0x06 ∷ replicate k 0) (0x80 ∷ [])

-- fewer bytes than a block has, zeros behind them, are marked by 0x06 behind them and by the last bit
pub marked : (rest front : List ℕ) → length rest < 136 → front ≡ rest
    → last_marked (set (front ++ drop (length rest) (replicate 136 0)) (length rest) 0x06) ≡ padded rest
marked rest front h e =
    let k = 135 - length rest in
    let room : 136 - length rest ≡ suc k = omega arith in
    let zeros : drop {A = ℕ} (length rest) (replicate 136 0) ≡ 0 ∷ replicate k 0 =
    drop-replicate (length rest) 136 0 ∙ ap (λ (n : ℕ). replicate n 0) room in
    let size : 136 - length rest % 136 ≡ suc k = omega arith in
    rw (e, zeros, padded_bytes rest, size) (marked_by rest k (omega arith))
