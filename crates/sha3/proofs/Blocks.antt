-- The blocks of the message that are whole, in turn.
-- Assumes nothing.
use Rattle.std.proofs.Common.{◌≡◌, ◌∙◌, ℕ, zero, suc, ◌+◌, ◌*◌, ◌≤◌, List, length, take, drop, replicate, fold, sym, ap, arith}
use Rattle.std.specs.Simd.{first_chunks}
use lib.Seq.{drop-drop}
use Rattle.keccak.specs.Permutation.{permutation}
use Rattle.sha3.specs.Sponge.{padded, add_block, absorb}
use Rattle.sha3.proofs.Padding.{in_message}

-- the state after one more block
abbrev pub one_more : List ℕ → List ℕ → List ℕ
one_more a p = permutation (add_block a p)

from_block : (m : List ℕ) (k n : ℕ) → 136 * (k + n) ≤ length m
    → fold one_more (absorb (padded m) k) (first_chunks 136 n (drop (136 * k) m)) ≡ absorb (padded m) (k + n)
unfolding absorb
from_block m k zero h = ap (absorb (padded m)) (omega arith)
from_block m k (suc n) h =
    let rest = drop (136 * k) m in
    let this : one_more (absorb (padded m) k) (take 136 rest) ≡ absorb (padded m) (suc k) =
    ap (one_more (absorb (padded m) k)) (sym (in_message m k (omega arith))) in
    let behind : drop 136 rest ≡ drop (136 * suc k) m = drop-drop 136 (136 * k) m ∙ ap (λ (i : ℕ). drop i m) (omega arith) in
    (λ i. fold one_more (this i) (first_chunks 136 n (behind i)))
    ∙ from_block m (suc k) n (omega arith)
    ∙ ap (absorb (padded m)) (omega arith)

pub whole_blocks : (m : List ℕ) (n : ℕ) → 136 * n ≤ length m → fold one_more (replicate 25 0) (first_chunks 136 n m) ≡ absorb (padded m) n
unfolding absorb
whole_blocks m n h = from_block m 0 n (omega arith) ∙ ap (absorb (padded m)) (omega arith)
