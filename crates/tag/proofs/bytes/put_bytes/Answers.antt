-- `tag::bytes::put_bytes` meets its contract.
-- Assumes nothing.
use mathlib.Core.Path.{◌≡◌, sym, ap, ◌∙◌}
use mathlib.Core.List.{List}
use Prim.Native.Nat.{ℕ, ◌+◌, ◌≤◌}
use native.Mathlib.Omega.{arith}
use lib.ListN.{length, get_or, take, set}
use lib.Seq.{take-length, length-take-le}
use Rattle.basics.specs.Lists.{placed}
use Rattle.basics.proofs.Placed.{placed_none, placed_length, placed_next}
use Rattle.tag.proofs.bytes.put_bytes.Goals as goal

pub loop-i-init : goal.loop-i-init
loop-i-init c = sym (placed_none c.args.buffer.now c.args.at)

-- the buffer keeps its length
same : (buffer now bytes : List ℕ) (at i : ℕ) → i ≤ length bytes → at + length bytes ≤ length buffer
    → now ≡ placed buffer at (take i bytes)
    → length now ≡ length buffer
same buffer now bytes at i inside room is =
    let copied = length-take-le i bytes inside in
    ap length is ∙ placed_length buffer at (take i bytes) (omega arith)

pub bounds-buffer-at : goal.bounds-buffer-at
bounds-buffer-at c = let long = same _ _ _ _ _ (omega arith) c.requires c.loop-i.invariant in omega arith

pub loop-i-preserved : goal.loop-i-preserved
loop-i-preserved c =
    let args = c.args in
    let buffer = args.buffer.now in
    let bytes = args.bytes.now in
    let i = c.loop-i.i in
    ap (λ (l : List ℕ). set l (args.at + i) (get_or bytes i 0)) c.loop-i.invariant
    ∙ placed_next buffer args.at bytes i (omega arith) (omega arith)

pub shape_of-buffer : goal.shape_of-buffer
shape_of-buffer c = same _ _ _ _ _ (omega arith) c.requires c.loop-i.invariant

pub returns : goal.returns
returns c =
    let args = c.args in
    let buffer = args.buffer.now in
    let bytes = args.bytes.now in
    let i = c.loop-i.i in
    let e : i ≡ length bytes = omega arith in
    c.loop-i.invariant
    ∙ ap (λ (k : ℕ). placed buffer args.at (take k bytes)) e
    ∙ ap (placed buffer args.at) (take-length bytes)
