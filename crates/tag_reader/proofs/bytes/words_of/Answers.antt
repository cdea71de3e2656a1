-- `tag_reader::bytes::words_of` meets its contract.
-- Assumes nothing.
use mathlib.Core.Path.{◌≡◌, refl, sym, ap, ap₂, ◌∙◌}
use mathlib.Core.List.{List, []}
use Prim.Native.Nat.{ℕ, ◌/◌, ◌<◌}
use native.Mathlib.Numerals.{add-one}
use native.Mathlib.Omega.{arith}
use lib.ListN.{length, get_or, set}
use Rattle.std.specs.Int.{w32, from_be_bytes}
use Rattle.basics.specs.Lists.{tabulate, zero_padded}
use Rattle.basics.proofs.Fill.{length_tabulate}
use Rattle.basics.proofs.Zeros.{push_number}
use Rattle.tag.specs.TagString.{word_at, words_of}
use Rattle.tag_reader.proofs.Chunks.{word_read}
use Rattle.tag_reader.proofs.bytes.words_of.Invariants.{front}
use Rattle.tag_reader.proofs.bytes.words_of.Goals as goal

pub loop-k-init : goal.loop-k-init
unfolding tabulate
loop-k-init c = refl

pub loop-k-preserved : goal.loop-k-preserved
unfolding tabulate
loop-k-preserved c =
    let string = c.args.string.now in
    let k = c.loop-k.k in
    let words = front string k in
    let long = length_tabulate k (word_at string) in
    let inside : k < length string / 4 = omega (arith, c.loop-k-test.true, c.as_chunks.ensures.front_len) in
    let word : c.from_be_bytes.result ≡ word_at string k =
    c.from_be_bytes.ensures
    ∙ ap (λ (l : List (List ℕ)). from_be_bytes w32 (get_or l k [])) c.as_chunks.ensures.front
    ∙ word_read (length string / 4) string k [] inside (omega arith) in
    rw add-one
    (ap₂ (λ (l : List ℕ) (w : ℕ). set l k w) c.loop-k.invariant word
    ∙ ap (λ (j : ℕ). set (zero_padded 64 words) j (word_at string k)) (sym long)
    ∙ push_number 64 words (word_at string k) (omega (arith, c.requires)))

pub returns : goal.returns
unfolding words_of
returns c =
    let string = c.args.string.now in
    let k = c.loop-k.k in
    let e : k ≡ length string / 4 = omega (arith, c.as_chunks.ensures.front_len) in
    c.loop-k.invariant ∙ ap (λ (j : ℕ). zero_padded 64 (front string j)) e
