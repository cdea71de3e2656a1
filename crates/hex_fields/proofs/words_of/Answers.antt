-- `hex_fields::words_of` meets its contract.
-- Assumes nothing.
use mathlib.Core.Path.{◌≡◌, ap, ◌∙◌}
use mathlib.Core.List.{List, []}
use Prim.Native.Nat.{ℕ, ◌+◌, ◌*◌, ◌/◌, ◌<◌}
use native.Mathlib.Omega.{arith}
use lib.Dec.{lit<}
use lib.ListN.{get_or, length}
use Rattle.std.specs.Int.{w32, from_be_bytes}
use Rattle.std.specs.Simd.{first_chunks}
use Rattle.basics.proofs.Fill.{start, step, end}
use Rattle.basics.proofs.Parts.{chunk_read, four_bytes_read}
use Rattle.hex_fields.specs.Fields.{field_word, field_words}
use borrow.Author.Rules.{rules}
use Rattle.hex_fields.proofs.words_of.Goals as goal

-- four bytes of a part are read as the word in its place
word_read : (bytes : List ℕ) (parts : List (List ℕ)) (k : ℕ) → parts ≡ first_chunks 4 512 bytes → k < 512
    → from_be_bytes w32 (get_or parts k []) ≡ field_word bytes k
unfolding field_word
word_read bytes parts k e h =
    let at = λ (j : ℕ) (l : j < 4). ap (λ (p : List (List ℕ)). get_or (get_or p k []) j 0) e ∙ chunk_read 4 512 bytes k j h l in
    let zero : 4 * k + 0 ≡ 4 * k = omega arith in
    rw (at 0 (lit< tt), at 1 (lit< tt), at 2 (lit< tt), at 3 (lit< tt), zero) (four_bytes_read _ _ _ _)

pub loop-k-init : goal.loop-k-init
loop-k-init c = start 512 _ _ (search rules)

pub loop-k-preserved : goal.loop-k-preserved
loop-k-preserved c =
    let count : length c.args.bytes.now / 4 ≡ 512 = omega arith in
    let parts = c.as_chunks.ensures.front ∙ ap (λ (n : ℕ). first_chunks 4 n c.args.bytes.now) count in
    step _ c.loop-k.invariant (omega arith) (c.from_be_bytes.ensures ∙ word_read c.args.bytes.now _ c.loop-k.k parts (omega arith))

pub returns : goal.returns
unfolding field_words
returns c = end c.loop-k.invariant (omega arith)
