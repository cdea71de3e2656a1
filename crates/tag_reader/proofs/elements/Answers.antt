-- `tag_reader::elements` meets its contract.
-- Assumes nothing.
use mathlib.Core.Path.{◌≡◌, refl, ap, ◌∙◌}
use mathlib.Core.List.{List, []}
use Prim.Native.Nat.{ℕ, ◌/◌, ◌%◌, ◌^◌, ◌<◌}
use native.Mathlib.Omega.{arith}
use lib.Bits.{and_mask}
use lib.ListN.{length, get_or}
use Rattle.std.specs.Int.{w32, from_be_bytes}
use Rattle.tag.specs.TagString.{word_at}
use Rattle.basics.proofs.Fill.{start, step, end}
use Rattle.tag.specs.Elements.{tag_elements}
use borrow.Author.Rules.{rules}
use Rattle.tag_reader.proofs.Chunks.{word_read}
use Rattle.tag_reader.proofs.elements.Goals as goal

pub loop-k-init : goal.loop-k-init
loop-k-init c = start 8 _ _ refl

pub loop-k-preserved : goal.loop-k-preserved
loop-k-preserved c =
    let digest = c.args.digest in
    let k = c.loop-k.k in
    let long : ◌≡◌ {A = ℕ} 32 (length digest) = search rules in
    let inside : k < 8 = omega (arith, c.loop-k-test.true, c.as_chunks.ensures.front_len) in
    let word : c.from_be_bytes.result ≡ word_at digest k =
    c.from_be_bytes.ensures
    ∙ ap (λ (l : List (List ℕ)). from_be_bytes w32 (get_or l k [])) c.as_chunks.ensures.front
    ∙ word_read (length digest / 4) digest k [] (omega arith) (omega arith) in
    step _ c.loop-k.invariant inside (and_mask _ 30 ∙ ap (λ (w : ℕ). w % 2 ^ 30) word)

pub returns : goal.returns
unfolding tag_elements
returns c =
    let long : ◌≡◌ {A = ℕ} 32 (length c.args.digest) = search rules in
    end c.loop-k.invariant (omega (arith, c.as_chunks.ensures.front_len))
