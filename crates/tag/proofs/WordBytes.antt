-- Words as bytes, in a string and in a buffer.
-- Assumes nothing.
use mathlib.Core.Path.{◌≡◌, refl, sym, ap, subst, ◌∙◌}
use mathlib.Core.List.{List, [], ◌∷◌, ◌++◌, append_assoc, append-nil}
use Prim.Native.Nat.{ℕ, ◌+◌, ◌*◌, ◌/◌, ◌≤◌, ◌<◌}
use native.Mathlib.Numerals.{add-one}
use native.Mathlib.Omega.{arith}
use lib.ListN.{length, get_or, take, drop, length-append}
use lib.Seq.{length-take-le, take-length, take-suc}
use borrow.Rule.Slice.PartMut.{put_mid}
use Rattle.std.specs.Int.{w32, to_be_bytes}
use Rattle.std.proofs.lemmas.Slice.{put_mid-paste}
use Rattle.basics.specs.Lists.{placed}
use Rattle.basics.specs.Digits.{digits}
use Rattle.basics.proofs.Placed.{Begins, begins_more}
use Rattle.basics.proofs.Positional.{length_digits}
use Rattle.tag.specs.TagString.{word_bytes}

-- a text copied to a part of a buffer
pub part_copied : (buffer text : List ℕ) (at k : ℕ) → k ≡ length text → put_mid at k buffer text ≡ placed buffer at text
unfolding placed
part_copied buffer text at k e =
    put_mid-paste at k buffer text text (length text) refl (sym e) refl
    ∙ ap (λ (l : List ℕ). take at buffer ++ l ++ drop (at + length text) buffer) (take-length text)

-- a word's bytes, as the library has them
pub bytes_of_word : (w : ℕ) → to_be_bytes w32 w ≡ digits 256 4 w
unfolding digits
bytes_of_word w =
    let d2 : w / 65536 ≡ w / 256 / 256 = omega arith in
    let d3 : w / 16777216 ≡ w / 256 / 256 / 256 = omega arith in
    rw (d2, d3)

pub length_word_bytes : (ws : List ℕ) → length (word_bytes ws) ≡ 4 * length ws
unfolding word_bytes
length_word_bytes [] = refl
length_word_bytes (w ∷ ws) =
    let e = length-append (digits 256 4 w) (word_bytes ws) in
    let d = length_digits 256 4 w in
    let r = length_word_bytes ws in
    omega arith

pub word_bytes_append : (ws vs : List ℕ) → word_bytes (ws ++ vs) ≡ word_bytes ws ++ word_bytes vs
unfolding word_bytes
word_bytes_append [] vs = refl
word_bytes_append (w ∷ ws) vs =
    ap (λ (l : List ℕ). digits 256 4 w ++ l) (word_bytes_append ws vs) ∙ sym (append_assoc (digits 256 4 w) (word_bytes ws) (word_bytes vs))

-- one word more at the front of a buffer
next_word : (ws : List ℕ) (i : ℕ) → i < length ws → word_bytes (take i ws) ++ digits 256 4 (get_or ws i 0) ≡ word_bytes (take (i + 1) ws)
unfolding word_bytes
next_word ws i h =
    let front = word_bytes (take i ws) in
    sym
    (ap (λ (k : ℕ). word_bytes (take k ws)) (add-one i)
    ∙ ap word_bytes (take-suc ws i 0 h)
    ∙ word_bytes_append (take i ws) (get_or ws i 0 ∷ [])
    ∙ ap (λ (l : List ℕ). front ++ l) (append-nil (digits 256 4 (get_or ws i 0))))

pub begins_word : {buffer after next : List ℕ} (ws : List ℕ) (i : ℕ) → Begins buffer (word_bytes (take i ws)) after
    → i < length ws → 4 * length ws ≤ length buffer
    → next ≡ placed after (4 * i) (digits 256 4 (get_or ws i 0)) → Begins buffer (word_bytes (take (i + 1) ws)) next
begins_word {buffer} {after} {next} ws i b h room e =
    let word = digits 256 4 (get_or ws i 0) in
    let four : length word ≡ 4 = length_digits 256 4 (get_or ws i 0) in
    let front : length (word_bytes (take i ws)) ≡ 4 * i =
    length_word_bytes (take i ws) ∙ ap (λ (k : ℕ). 4 * k) (length-take-le i ws (omega arith)) in
    subst (λ (l : List ℕ). Begins buffer l next) (next_word ws i h) (begins_more b (4 * i) (sym front) word (omega arith) e)
