-- Digits placed one after the other.
-- Assumes nothing.
use mathlib.Core.Path.{◌≡◌, sym, ap, ◌∙◌}
use mathlib.Core.List.{List, [], ◌∷◌, ◌++◌, append_assoc}
use Prim.Native.Nat.{ℕ, ◌+◌, ◌*◌, ◌/◌, ◌%◌, ◌≤◌, ◌<◌}
use native.Mathlib.Nat.{add-zero}
use native.Mathlib.Numerals.{add-one}
use native.Mathlib.Omega.{arith}
use lib.ListN.{length, get_or, take, set, length-append}
use lib.Seq.{length-take-le, take-suc}
use Rattle.card_grammar.specs.Text.{hex_digit, hex, decimal}
use Rattle.card_grammar.proofs.Digits.{hex_append, decimal_small, decimal_more}
use Rattle.basics.specs.Lists.{placed}
use Rattle.basics.proofs.Placed.{placed_none, placed_set}
use Rattle.card.proofs.Bounds.{length_hex, length_decimal_more}

module _ (buffer : List ℕ) (at : ℕ) where
  -- a number of one digit
  pub first_digit : (n : ℕ) → n < 10 → at < length buffer → set buffer at (n + 48) ≡ placed buffer at (decimal n)
  first_digit n h room =
      ap (λ (l : List ℕ). set l at (n + 48)) (sym (placed_none buffer at))
      ∙ ap (λ (k : ℕ). set (placed buffer at []) k (n + 48)) (sym (add-zero at))
      ∙ placed_set buffer at [] (n + 48) (omega arith)
      ∙ ap (placed buffer at) (sym (decimal_small n h))

  -- the last digit behind the others
  pub last_digit : (n : ℕ) → 10 ≤ n → at + length (decimal n) ≤ length buffer
      → set (placed buffer at (decimal (n / 10))) (at + length (decimal (n / 10))) (n % 10 + 48) ≡ placed buffer at (decimal n)
  last_digit n h room =
      let one_more = length_decimal_more n h in
      placed_set buffer at (decimal (n / 10)) (n % 10 + 48) (omega arith) ∙ ap (placed buffer at) (sym (decimal_more n h))

-- one byte more in hexadecimal
hex_next : (bytes : List ℕ) (i : ℕ) → i < length bytes
    → hex (take (i + 1) bytes) ≡ hex (take i bytes) ++ (hex_digit (get_or bytes i 0 / 16) ∷ []) ++ (hex_digit (get_or bytes i 0 % 16) ∷ [])
unfolding hex
hex_next bytes i h =
    let byte = get_or bytes i 0 in
    ap (λ (k : ℕ). hex (take k bytes)) (add-one i)
    ∙ ap hex (take-suc bytes i 0 h)
    ∙ hex_append (take i bytes) (byte ∷ [])
    ∙ sym (append_assoc (hex (take i bytes)) (hex_digit (byte / 16) ∷ []) (hex_digit (byte % 16) ∷ []))

-- the digits of the first i bytes
pub length_hex_front : (bytes : List ℕ) (i : ℕ) → i ≤ length bytes → length (hex (take i bytes)) ≡ 2 * i
length_hex_front bytes i h = length_hex (take i bytes) ∙ ap (λ (k : ℕ). 2 * k) (length-take-le i bytes h)

pub next_byte : (buffer : List ℕ) (at : ℕ) (bytes : List ℕ) (i : ℕ) → i < length bytes → at + 2 * length bytes ≤ length buffer
    → set
    (set (placed buffer at (hex (take i bytes))) (at + 2 * i) (hex_digit (get_or bytes i 0 / 16)))
    (at + 2 * i + 1)
    (hex_digit (get_or bytes i 0 % 16))
    ≡ placed buffer at (hex (take (i + 1) bytes))
next_byte buffer at bytes i h room =
    let front = hex (take i bytes) in
    let high = hex_digit (get_or bytes i 0 / 16) in
    let low = hex_digit (get_or bytes i 0 % 16) in
    let long = length_hex_front bytes i (omega arith) in
    let one_more : length (front ++ (high ∷ [])) ≡ length front + 1 = length-append front (high ∷ []) in
    let place : at + 2 * i ≡ at + length front = omega arith in
    let next_place_law : at + 2 * i + 1 ≡ at + length (front ++ (high ∷ [])) = omega arith in
    ap (λ (k : ℕ). set (set (placed buffer at front) k high) (at + 2 * i + 1) low) place
    ∙ ap (λ (l : List ℕ). set l (at + 2 * i + 1) low) (placed_set buffer at front high (omega arith))
    ∙ ap (λ (k : ℕ). set (placed buffer at (front ++ (high ∷ []))) k low) next_place_law
    ∙ placed_set buffer at (front ++ (high ∷ [])) low (omega arith)
    ∙ ap (placed buffer at) (sym (hex_next bytes i h))
