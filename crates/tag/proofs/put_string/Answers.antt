-- `tag::put_string` meets its contract.
-- Assumes nothing.
use mathlib.Core.Path.{◌≡◌, ap, ◌∙◌}
use mathlib.Core.List.{List}
use Prim.Native.Nat.{ℕ, ◌+◌, ◌*◌, ◌≤◌}
use native.Mathlib.Omega.{arith}
use lib.ListN.{length}
use Rattle.basics.specs.Lists.{placed}
use Rattle.basics.proofs.Placed.{placed_length}
use Rattle.basics.specs.Answers.{number_of}
use Rattle.tag.specs.TagString.{word_bytes, tail_of}
use Rattle.tag.specs.Forms.{form_number}
use Rattle.tag.specs.Answers.{written_answer}
use Rattle.tag.proofs.WordBytes.{length_word_bytes}
use Rattle.tag.proofs.Forms.{tail_long, tail_short}
use Rattle.tag.proofs.Writing.{buffer_too_short_law, whole_string}
use Rattle.tag.proofs.put_string.Goals as goal

-- the buffer behind both: the separator stands behind the words
behind_words : (buffer now copied separator ws : List ℕ) → now ≡ placed buffer 0 (word_bytes ws)
    → copied ≡ placed now (4 * length ws) separator
    → copied ≡ placed (placed buffer 0 (word_bytes ws)) (4 * length ws) separator
behind_words buffer now copied separator ws e behind =
    behind ∙ ap (λ (l : List ℕ). placed l (4 * length ws) separator) e

-- and is as long as it was
as_long : (buffer separator ws : List ℕ) → 4 * length ws + length separator ≤ length buffer
    → length (placed (placed buffer 0 (word_bytes ws)) (4 * length ws) separator) ≡ length buffer
as_long buffer separator ws room =
    let words = length_word_bytes ws in
    let half = placed_length buffer 0 (word_bytes ws) (omega arith) in
    placed_length (placed buffer 0 (word_bytes ws)) (4 * length ws) separator (omega arith) ∙ half

pub overflow_add-length : goal.overflow_add-length
overflow_add-length c = omega (arith, tail_short (form_number c.args.form), c.tail_length.ensures)

pub returns-then-buffer-length : goal.returns-then-buffer-length
unfolding written_answer number_of
returns-then-buffer-length c =
    let args = c.args in
    buffer_too_short_law (form_number args.form) args.words.now args.separator.now args.buffer.now c.tail_length.result c.tail_length.ensures
    c.if-buffer-length.true

pub put_bytes-requires : goal.put_bytes-requires
put_bytes-requires c = omega (arith, c.put_words.auto.buffer, c.if-buffer-length.false)

pub put_tail-requires : goal.put_tail-requires
put_tail-requires c =
    let args = c.args in
    let words = args.words.now in
    let separator = args.separator.now in
    let behind = behind_words args.buffer.now _ _ separator words c.put_words.ensures c.put_bytes.ensures in
    let tail = tail_long (form_number args.form) (length separator) in
    rw behind (omega (arith, as_long args.buffer.now separator words (omega (arith, c.if-buffer-length.false)), tail, c.tail_length.ensures, c.if-buffer-length.false))

pub returns : goal.returns
unfolding written_answer
returns c =
    let args = c.args in
    let words = args.words.now in
    let separator = args.separator.now in
    let string = whole_string (form_number args.form) words separator args.buffer.now c.tail_length.result c.tail_length.ensures
    c.if-buffer-length.false in
    let behind = behind_words args.buffer.now _ _ separator words c.put_words.ensures c.put_bytes.ensures in (
      string.0,
      c.put_tail.ensures
          ∙ ap (λ (l : List ℕ). placed l (4 * length words + length separator) (tail_of (form_number args.form) (length separator))) behind
          ∙ string.1,
    )
