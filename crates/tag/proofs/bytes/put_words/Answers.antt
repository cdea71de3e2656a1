-- `tag::bytes::put_words` meets its contract.
-- Assumes nothing.
use mathlib.Core.Path.{◌≡◌, ap, ◌∙◌}
use mathlib.Core.List.{List}
use Prim.Native.Nat.{ℕ}
use native.Mathlib.Omega.{arith}
use lib.ListN.{length, take}
use lib.Seq.{take-length}
use Rattle.basics.specs.Lists.{placed}
use Rattle.basics.proofs.Placed.{begins}
use Rattle.tag.specs.TagString.{word_bytes}
use Rattle.tag.proofs.WordBytes.{begins_word}
use Rattle.tag.proofs.bytes.put_words.Goals as goal

pub loop-i-init : goal.loop-i-init
unfolding word_bytes
loop-i-init c = begins _

pub put_word-requires : goal.put_word-requires
put_word-requires c = omega (arith, c.loop-i.invariant.long, c.requires)

pub loop-i-preserved : goal.loop-i-preserved
loop-i-preserved c =
    begins_word c.args.words.now c.loop-i.i c.loop-i.invariant (omega arith) c.requires c.put_word.ensures

pub shape_of-buffer : goal.shape_of-buffer
shape_of-buffer c = c.loop-i.invariant.long

pub returns : goal.returns
returns c =
    let buffer = c.args.buffer.now in
    let words = c.args.words.now in
    let i = c.loop-i.i in
    let e : i ≡ length words = omega arith in
    c.loop-i.invariant.is ∙ ap (λ (k : ℕ). placed buffer 0 (word_bytes (take k words))) e
    ∙ ap (λ (l : List ℕ). placed buffer 0 (word_bytes l)) (take-length words)
