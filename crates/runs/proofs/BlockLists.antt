-- Blocks have eight elements each, are as many as document 01 says, and hold what was absorbed; so, where the pattern is known, they tell the
-- absorbed elements apart.
-- Assumes nothing.
use mathlib.Core.Path.{◌≡◌, refl, sym, ap, ap₂, ◌∙◌}
use mathlib.Core.Bool.{true}
use mathlib.Core.List.{List, [], ◌∷◌, ◌++◌, append_assoc}
use Prim.Native.Nat.{ℕ, zero, suc, ◌+◌, ◌-◌, ◌*◌, ◌≤◌, ◌<◌}
use native.Mathlib.Omega.{arith}
use borrow.Author.Tests.{eq-eqb, ltb-true, ltb-false}
use lib.Dec.{eqb, ltb}
use lib.ListN.{length, take, drop, replicate, length-append, length-drop, length-take, length-replicate, take-append-drop}
use lib.Seq.{take_all, take_at, drop_at, take-append-add, length-take-le}
use Rattle.basics.specs.Logic.{when◌then◌else◌, all}
use Rattle.basics.specs.Lists.{zero_padded, joined}
use Rattle.basics.proofs.Cases.{cases, by, and_both, all_both, if_true, if_false}
use Rattle.words.specs.Words.{Phase}
use Rattle.counters.specs.Permutations.{block_count}
use Rattle.runs.specs.Blocks.{eights, blocks, block_total, held_by}
use Rattle.runs.specs.Lengths.{absorb_length}

-- ---- the blocks of one phase

length_eights : (n : ℕ) (xs : List ℕ) → length (eights n xs) ≡ n
unfolding eights
length_eights zero xs = refl
length_eights (suc n) xs = ap suc (length_eights n _)

-- eight places are filled
padded_long : (xs : List ℕ) → length (zero_padded 8 (take 8 xs)) ≡ 8
padded_long xs =
    let front = take 8 xs in
    let short = length-take 8 xs in
    length-append front (replicate (8 - length front) 0) ∙ rw (length-replicate {A = ℕ} (8 - length front) 0) (omega arith)

eights_long : (n : ℕ) (xs : List ℕ) → all (λ b. eqb (length b) 8) (eights n xs) ≡ true
unfolding all eights
eights_long zero xs = refl
eights_long (suc n) xs = and_both _ _ (eq-eqb _ 8 (padded_long xs)) (eights_long n _)

-- the last block of a phase, and one that others follow
last_held : (xs rest : List ℕ) → length xs ≤ 8 → take (length xs) (zero_padded 8 (take 8 xs) ++ rest) ≡ xs
last_held xs rest h =
    let all-taken = take_all 8 xs h in
    let zeros : List ℕ = replicate (8 - length xs) 0 in
    ap (λ (l : List ℕ). take (length xs) ((l ++ replicate (8 - length l) 0) ++ rest)) all-taken
    ∙ ap (take (length xs)) (append_assoc xs zeros rest)
    ∙ take_at xs (zeros ++ rest) (length xs) refl

more_held : (xs rest : List ℕ) → 8 < length xs → take (length (drop 8 xs)) rest ≡ drop 8 xs
    → take (length xs) (zero_padded 8 (take 8 xs) ++ rest) ≡ xs
more_held xs rest h e =
    let front = take 8 xs in
    let long = length-take-le 8 xs (omega arith) in
    let full : 8 - length front ≡ 0 = omega arith in
    let place : length xs ≡ length front + length (drop 8 xs) = omega (arith, length-drop 8 xs) in
    ap₂ (λ (k z : ℕ). take k ((front ++ replicate z 0) ++ rest)) place full
    ∙ ap (λ (l : List ℕ). take (length front + length (drop 8 xs)) l) (append_assoc front [] rest)
    ∙ take-append-add front rest (length (drop 8 xs))
    ∙ ap (λ (l : List ℕ). front ++ l) e
    ∙ take-append-drop 8 xs

eights_held : (n : ℕ) (xs : List ℕ) → length xs ≤ 8 * n → take (length xs) (joined (eights n xs)) ≡ xs
unfolding eights joined
eights_held zero xs h =
    let none : length xs ≡ 0 = omega arith in
    ap (λ (k : ℕ). take {A = ℕ} k []) none ∙ take_all 0 xs (omega arith)
eights_held (suc n) xs h =
    let rest = joined (eights n (drop 8 xs)) in
    cases (ltb 8 (length xs))
    (λ l.
    let shorter = length-drop 8 xs in
    more_held xs rest (ltb-true 8 (length xs) l) (eights_held n (drop 8 xs) (omega arith)))
    λ l. last_held xs rest (ltb-false 8 (length xs) l)

phase_held : (n : ℕ) (xs : List ℕ) → n ≤ length xs → take n (joined (eights (block_count n) (take n xs))) ≡ take n xs
unfolding block_count
phase_held n xs h =
    let long = length-take-le n xs h in
    ap (λ (k : ℕ). take k (joined (eights (block_count n) (take n xs)))) (sym long)
    ∙ eights_held (block_count n) (take n xs) (omega arith)

-- ---- the blocks of a pattern

pub blocks_long : (ps : List Phase) (xs : List ℕ) → all (λ b. eqb (length b) 8) (blocks ps xs) ≡ true
unfolding all blocks
blocks_long [] xs = refl
blocks_long (a ∷ ps) xs =
    by (λ (bs : List (List ℕ)). all (λ b. eqb (length b) 8) bs ≡ true) a.absorbs _ _
    (λ _. all_both (λ b. eqb (length b) 8) (eights (block_count a.elements) (take a.elements xs)) _ (eights_long _ _) (blocks_long ps _))
    λ _. blocks_long ps xs

pub blocks_total : (ps : List Phase) (xs : List ℕ) → length (blocks ps xs) ≡ block_total ps
unfolding blocks block_total
blocks_total [] xs = refl
blocks_total (a ∷ ps) xs =
    let n = block_count a.elements in
    let first = eights n (take a.elements xs) in
    let later = blocks ps (drop a.elements xs) in
    cases a.absorbs
    (λ k.
    ap length (if_true _ _ _ k)
    ∙ length-append first later
    ∙ ap₂ (λ (i j : ℕ). i + j) (length_eights n (take a.elements xs) ∙ sym (if_true _ _ _ k)) (blocks_total ps _))
    λ k.
    ap length (if_false _ _ _ k)
    ∙ blocks_total ps xs
    ∙ omega (arith, if_false a.absorbs n 0 k)

pub blocks_held : (ps : List Phase) (xs : List ℕ) → length xs ≡ absorb_length ps → held_by ps (blocks ps xs) ≡ xs
unfolding blocks absorb_length held_by
blocks_held [] xs h = take_all 0 xs (omega arith)
blocks_held (a ∷ ps) xs h =
    let n = a.elements in
    let count = block_count n in
    let first = eights count (take n xs) in
    let later = blocks ps (drop n xs) in
    let size : length xs ≡ (when a.absorbs then n else 0) + absorb_length ps = h in
    cases a.absorbs
    (λ k.
    let some : (when a.absorbs then n else 0) ≡ n = if_true _ _ _ k in
    let shorter = length-drop n xs in
    if_true _ _ _ k
    ∙ ap (λ (bs : List (List ℕ)). take n (joined (take count bs)) ++ held_by ps (drop count bs)) (if_true _ _ _ k)
    ∙ ap₂ (λ (front back : List (List ℕ)). take n (joined front) ++ held_by ps back)
    (take_at first later count (length_eights count (take n xs)))
    (drop_at first later count (length_eights count (take n xs)))
    ∙ ap₂ (λ (front back : List ℕ). front ++ back) (phase_held n xs (omega arith)) (blocks_held ps (drop n xs) (omega arith))
    ∙ take-append-drop n xs)
    λ k.
    let none : (when a.absorbs then n else 0) ≡ 0 = if_false _ _ _ k in
    if_false _ _ _ k
    ∙ ap (held_by ps) (if_false _ _ _ k)
    ∙ blocks_held ps xs (omega arith)

pub blocks_tell : (ps : List Phase) (xs ys : List ℕ) → length xs ≡ absorb_length ps → length ys ≡ absorb_length ps
    → blocks ps xs ≡ blocks ps ys → xs ≡ ys
blocks_tell ps xs ys h l e = sym (blocks_held ps xs h) ∙ ap (held_by ps) e ∙ blocks_held ps ys l
