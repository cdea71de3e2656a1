-- `card::text::put_hex` meets its contract.
-- Assumes nothing.
use mathlib.Core.Path.{◌≡◌, sym, ap, ap₂, ◌∙◌}
use mathlib.Core.List.{List}
use Prim.Native.Nat.{ℕ, ◌+◌, ◌*◌, ◌≤◌}
use native.Mathlib.Omega.{arith}
use lib.ListN.{length, take, set, length-set}
use lib.Seq.{take_all}
use Rattle.card_grammar.specs.Text.{hex}
use Rattle.basics.specs.Lists.{placed}
use Rattle.basics.proofs.Placed.{placed_none, placed_length}
use Rattle.card.proofs.Bounds.{length_hex}
use Rattle.card.proofs.Digits.{length_hex_front, next_byte}
use borrow.Author.Rules.{rules}
use Rattle.card.proofs.text.put_hex.Goals as goal

-- the buffer stays as long as it was
same : (old : List ℕ) (at : ℕ) (bytes buffer : List ℕ) (i : ℕ) → at + 2 * length bytes ≤ length old → i ≤ length bytes
    → buffer ≡ placed old at (hex (take i bytes)) → length buffer ≡ length old
same old at bytes buffer i room read is =
    let long = length_hex_front bytes i read in
    ap length is ∙ placed_length old at (hex (take i bytes)) (omega arith)

pub loop-i-init : goal.loop-i-init
unfolding hex
loop-i-init c = (search rules, sym (placed_none c.args.buffer.now c.args.at))

pub hex_digit-requires : goal.hex_digit-requires
hex_digit-requires c = omega arith

pub bounds-buffer-at : goal.bounds-buffer-at
bounds-buffer-at c =
    let long = same _ _ _ _ _ c.requires c.loop-i.invariant.0 c.loop-i.invariant.1 in
    omega arith

pub bounds-buffer-at-in-loop-i : goal.bounds-buffer-at-in-loop-i
bounds-buffer-at-in-loop-i c =
    let long = same _ _ _ _ _ c.requires c.loop-i.invariant.0 c.loop-i.invariant.1 in
    simp length-set (omega arith)

pub loop-i-preserved : goal.loop-i-preserved
loop-i-preserved c =
    let buffer = c.args.buffer.now in
    let at = c.args.at in
    let bytes = c.args.bytes.now in
    let i = c.loop-i.i in (
      search rules,
      ap (λ (l : List ℕ). set (set l (at + 2 * i) c.hex_digit.result) (at + 2 * i + 1) c.hex_digit-in-loop-i.result) c.loop-i.invariant.1
          ∙ ap₂ (λ (x y : ℕ). set (set (placed buffer at (hex (take i bytes))) (at + 2 * i) x) (at + 2 * i + 1) y)
          c.hex_digit.ensures
          c.hex_digit-in-loop-i.ensures
          ∙ next_byte buffer at bytes i (omega arith) c.requires,
    )

pub shape_of-buffer : goal.shape_of-buffer
shape_of-buffer c = same _ _ _ _ _ c.requires c.loop-i.invariant.0 c.loop-i.invariant.1

pub returns : goal.returns
returns c =
    let buffer = c.args.buffer.now in
    let bytes = c.args.bytes.now in
    let i = c.loop-i.i in
    let long = length_hex bytes in (
      omega arith,
      c.loop-i.invariant.1 ∙ ap (λ (l : List ℕ). placed buffer c.args.at (hex l)) (take_all i bytes (omega arith)),
    )
