-- `card::text::copy` meets its contract.
-- Assumes nothing.
use mathlib.Core.Path.{◌≡◌, sym, ap, ◌∙◌}
use mathlib.Core.List.{List}
use Prim.Native.Nat.{ℕ, ◌+◌, ◌-◌, ◌≤◌}
use native.Mathlib.Omega.{arith}
use lib.ListN.{length, get_or, take, set, length-take}
use lib.Seq.{length-take-le}
use Rattle.basics.specs.Lists.{placed}
use Rattle.basics.proofs.Placed.{placed_none, placed_length, placed_next}
use Rattle.card.proofs.Front.{take_front}
use borrow.Author.Rules.{rules}
use lib.Seq.{get_or-take}
use Rattle.card.proofs.text.copy.Goals as goal

-- the buffer stays as long as it was
same : (old : List ℕ) (at : ℕ) (bytes buffer : List ℕ) (i : ℕ) → i ≤ length bytes → i ≤ length old - at → buffer ≡ placed old at (take i bytes)
    → length buffer ≡ length old
same old at bytes buffer i read room is =
    let long = length-take-le i bytes read in
    ap length is ∙ placed_length old at (take i bytes) (omega arith)

pub loop-i-init : goal.loop-i-init
loop-i-init c =
    let args = c.args in
    (search rules, search rules, sym (placed_none args.buffer.now args.at))

pub overflow_add-buffer : goal.overflow_add-buffer
overflow_add-buffer c = let long = same _ _ _ _ _ c.loop-i.invariant.0 c.loop-i.invariant.1 c.loop-i.invariant.2 in search rules

pub bounds-buffer-at : goal.bounds-buffer-at
bounds-buffer-at c = let long = same _ _ _ _ _ c.loop-i.invariant.0 c.loop-i.invariant.1 c.loop-i.invariant.2 in search rules

pub loop-i-preserved : goal.loop-i-preserved
loop-i-preserved c =
    let at-loop = c.loop-i in
    let args = c.args in
    let buffer = args.buffer.now in
    let bytes = args.bytes.now in
    let i = at-loop.i in (
      search rules,
      search rules,
      ap (λ (x : ℕ). set at-loop.buffer (args.at + i) x) (get_or-take c.fitting-count.result bytes i 0 (search rules))
          ∙ ap (λ (l : List ℕ). set l (args.at + i) (get_or bytes i 0)) at-loop.invariant.2
          ∙ placed_next buffer args.at bytes i (search rules) (search rules),
    )

pub shape_of-buffer : goal.shape_of-buffer
shape_of-buffer c = same _ _ _ _ _ c.loop-i.invariant.0 c.loop-i.invariant.1 c.loop-i.invariant.2

pub returns : goal.returns
returns c =
    let args = c.args in
    let buffer = args.buffer.now in
    let bytes = args.bytes.now in
    let room = length buffer - args.at in
    let count : c.fitting-count.result ≡ length (take room bytes) = c.fitting-count.ensures ∙ sym (length-take room bytes) in
    let all : c.loop-i.i ≡ length (take room bytes) = search rules in (
      count,
      c.loop-i.invariant.2 ∙ ap (λ (k : ℕ). placed buffer args.at (take k bytes)) all ∙ ap (placed buffer args.at) (sym (take_front room bytes)),
    )
