-- The texts of answers, written part by part.
-- Assumes nothing.
use mathlib.Core.Path.{◌≡◌, refl, sym, ap, ◌∙◌}
use mathlib.Core.List.{List, [], ◌∷◌, ◌++◌, append_assoc}
use Prim.Native.Nat.{ℕ, ◌+◌, ◌-◌, ◌≤◌}
use native.Mathlib.Omega.{arith}
use lib.ListN.{length, take, length-append}
use Rattle.basics.specs.Lists.{placed}
use Rattle.basics.proofs.Placed.{begins, begins_more, begins_copied}
use Rattle.card_grammar.specs.Text.{ascii, hex, decimal}
use Rattle.tag.specs.TagString.{max_string}
use Rattle.card.specs.Answer.{longest_answer, ok_text, no_text, newline, with_newline}
use Rattle.card.proofs.Bounds.{length_hex, number_digits, count_digits, length_ok, length_no, length_with_newline}

abbrev no_front : List ℕ
no_front = ascii "(no "

abbrev ok_front : List ℕ
ok_front = ascii "(ok "

-- the parts, one behind the other, are the text
no_parts : (number : ℕ) → no_front ++ decimal number ++ ascii ")\n" ≡ with_newline (no_text number)
unfolding no_text with_newline
no_parts number = ap (λ (l : List ℕ). no_front ++ l) (sym (append_assoc (decimal number) (ascii ")") (newline ∷ [])))

ok_parts : (string : List ℕ) (permutations : ℕ)
    → ok_front ++ hex string ++ ascii " " ++ decimal permutations ++ ascii ")\n" ≡ with_newline (ok_text string permutations)
unfolding ok_text with_newline
ok_parts string permutations =
    let count = decimal permutations in
    ap (λ (l : List ℕ). ok_front ++ l)
    (append_assoc (hex string ++ ascii " ") count (ascii ")\n")
    ∙ append_assoc (hex string) (ascii " ") (count ++ ascii ")\n")
    ∙ ap (λ (l : List ℕ). hex string ++ (32 ∷ l)) (sym (append_assoc count (ascii ")") (newline ∷ [])))
    ∙ sym (append_assoc (hex string) (32 ∷ (count ++ ascii ")")) (newline ∷ [])))

-- three parts, and what the buffer is after each
pub no_written : (buffer after1 after2 after3 : List ℕ) (number end : ℕ) → longest_answer ≤ length buffer → number ≤ 99
    → after1 ≡ placed buffer 0 (take (length buffer - 0) no_front)
    → (end ≡ 4 + length (decimal number)) × (after2 ≡ placed after1 4 (decimal number))
    → after3 ≡ placed after2 end (take (length after2 - end) (ascii ")\n"))
    → (end + 2 ≡ length (with_newline (no_text number))) × (after3 ≡ placed buffer 0 (with_newline (no_text number)))
no_written buffer after1 after2 after3 number end room small p1 p2 p3 =
    let few = number_digits number small in
    let front = begins_copied (begins buffer) 0 refl no_front (omega arith) p1 in
    let digits = begins_more front 4 refl (decimal number) (omega arith) p2.1 in
    let all = begins_copied digits end (omega arith) (ascii ")\n") (omega arith) p3 in (
      omega (arith, length_no number, length_with_newline (no_text number)),
      all.is ∙ ap (placed buffer 0) (no_parts number),
    )

-- five parts, and what the buffer is after each
pub ok_written : (buffer after1 after2 after3 after4 after5 string : List ℕ) (permutations tag-end end : ℕ)
    → longest_answer ≤ length buffer
    → length string ≤ max_string
    → permutations ≤ 99999999999
    → after1 ≡ placed buffer 0 (take (length buffer - 0) ok_front)
    → (tag-end ≡ 4 + length (hex string)) × (after2 ≡ placed after1 4 (hex string))
    → after3 ≡ placed after2 tag-end (take (length after2 - tag-end) (ascii " "))
    → (end ≡ tag-end + 1 + length (decimal permutations)) × (after4 ≡ placed after3 (tag-end + 1) (decimal permutations))
    → after5 ≡ placed after4 end (take (length after4 - end) (ascii ")\n"))
    → (end + 2 ≡ length (with_newline (ok_text string permutations))) × (after5 ≡ placed buffer 0 (with_newline (ok_text string permutations)))
ok_written buffer after1 after2 after3 after4 after5 string permutations tag-end end room short small p1 p2 p3 p4 p5 =
    let tag = length_hex string in
    let few = count_digits permutations small in
    let front = begins_copied (begins buffer) 0 refl ok_front (omega arith) p1 in
    let tagged = begins_more front 4 refl (hex string) (omega arith) p2.1 in
    let spaced = begins_copied tagged tag-end (omega arith) (ascii " ") (omega arith) p3 in
    let with-space = length-append (hex string) (ascii " ") in
    let counted = begins_more spaced (tag-end + 1) (omega arith) (decimal permutations) (omega arith) p4.1 in
    let with-count = length-append (hex string ++ ascii " ") (decimal permutations) in
    let all = begins_copied counted end (omega arith) (ascii ")\n") (omega arith) p5 in (
      omega (arith, length_ok string permutations, length_with_newline (ok_text string permutations)),
      all.is ∙ ap (placed buffer 0) (ok_parts string permutations),
    )
