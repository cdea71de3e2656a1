-- The line in progress, whose length may be given as more than its 2,049 places.
-- Assumes nothing.
use mathlib.Core.Path.{◌≡◌, sym, ap, ◌∙◌}
use mathlib.Core.List.{List}
use Prim.Native.Nat.{ℕ, ◌+◌, ◌-◌, min}
use native.Mathlib.Omega.{arith}
use borrow.Author.Tests.{leb-true, leb-false}
use lib.Dec.{leb}
use lib.ListN.{length, take, length-take}
use lib.Seq.{take_all}
use Rattle.basics.specs.Lists.{placed}
use Rattle.basics.proofs.Cases.{cases}
use Rattle.basics.proofs.Placed.{placed_none}
use Rattle.card_lines.specs.Stream.{extended_length, extended}

-- a place behind the last is as the last
pub within_places : (line : List ℕ) (n : ℕ) (bytes : List ℕ)
    → placed line (min n 2049) (take (2049 - min n 2049) bytes) ≡ extended line n bytes
unfolding extended
within_places line n bytes =
    cases (leb n 2049)
    (λ e. let same : min n 2049 ≡ n = omega (arith, leb-true n 2049 e) in
    ap (λ (k : ℕ). placed line k (take (2049 - k) bytes)) same)
    λ e. let full : min n 2049 ≡ 2049 = omega (arith, leb-false n 2049 e) in
    let none : 2049 - n ≡ 0 = omega (arith, leb-false n 2049 e) in
    ap (λ (k : ℕ). placed line k (take (2049 - k) bytes)) full
    ∙ placed_none line 2049
    ∙ sym (placed_none line n)
    ∙ ap (λ (k : ℕ). placed line n (take k bytes)) (sym none)

pub within_length : (n : ℕ) (bytes : List ℕ) → min n 2049 + length (take (2049 - min n 2049) bytes) ≡ extended_length n bytes
unfolding extended_length
within_length n bytes = let short = length-take (2049 - min n 2049) bytes in omega arith

pub within_line : (line : List ℕ) (n : ℕ) → length line ≡ 2049 → take (min n 2049) line ≡ take n line
within_line line n long =
    cases (leb n 2049)
    (λ e. let same : min n 2049 ≡ n = omega (arith, leb-true n 2049 e) in ap (λ (k : ℕ). take k line) same)
    λ e. let more = leb-false n 2049 e in
    let full : min n 2049 ≡ 2049 = omega arith in
    ap (λ (k : ℕ). take k line) full ∙ take_all 2049 line (omega arith) ∙ sym (take_all n line (omega arith))
