-- Cards, lines and answers.
use Rattle.std.specs.Prelude.{◌≡◌, refl, List, [], ◌∷◌, ◌++◌, ℕ, ◌+◌, ◌/◌, ◌%◌, ◌≤◌, ◌<◌}
use Rattle.std.proofs.Common.{◌∙◌, arith, lt-ltb, le-ltb}
use Prim.Native.Char.{Char, code}
use Prim.Native.String.{String}
use Rattle.basics.specs.Logic.{when◌then◌else◌, ◌or◌, same, any}
use Rattle.basics.specs.Lists.{sum}
use Rattle.basics.specs.Digits.{digits}
use Rattle.basics.specs.Refusals.{first_number}
use Rattle.basics.proofs.Cases.{if_true, if_false}
use Rattle.words.specs.Words.{is_absorb, length_of, phase_of, word_of}
use Rattle.pattern.specs.Pattern.{join, merge, phases, merged_words}
use Rattle.pattern.specs.Opening.{word_rows, opening_rows, opening_number}
use Rattle.tag.specs.TagString.{word_bytes, tail_of, string_of, tag_string}
use Rattle.counters.specs.Permutations.{block_count, phase_permutations, permutations_at, full_permutations}
use Rattle.card_grammar.specs.Text.{ascii, head_text, middle_text, end_text, hex_digit, hex, separator_text, decimal_up_to, decimal, call_text, calls_text, card_text}
use Rattle.card_grammar.specs.Machine.{head_at, middle_at, hex_value, decimal_value, expected, move_of, run, card_at}
use Rattle.card_grammar.specs.Card.{card_of}
use Rattle.card_grammar.proofs.Digits.{decimal_small, decimal_more}
use Rattle.card.specs.Answer.{ok_text, no_text, card_answer, reading_answer, answer, with_newline}
use Rattle.card_lines.specs.Lines.{before, lines, answers, output}
use Rattle.card_lines.specs.Calls.{start_fed}

-- A text's bytes are the codes of its characters.
pub bytes_of_characters : (c : Char) (rest : String) → (ascii "" ≡ []) × (ascii (String.◌∷◌ c rest) ≡ code c ∷ ascii rest)
bytes_of_characters c rest = (refl, refl)

-- The characters that lines and answers are made of, as bytes.
pub bytes_of_text :
    (ascii "\n ()0123456789" ≡ 10 ∷ 32 ∷ 40 ∷ 41 ∷ 48 ∷ 49 ∷ 50 ∷ 51 ∷ 52 ∷ 53 ∷ 54 ∷ 55 ∷ 56 ∷ 57 ∷ [])
    × (head_text ≡ 40 ∷ 99 ∷ 97 ∷ 114 ∷ 100 ∷ 32 ∷ 40 ∷ 100 ∷ 111 ∷ 109 ∷ 97 ∷ 105 ∷ 110 ∷ [])
    × (middle_text ≡ 41 ∷ 32 ∷ 40 ∷ 99 ∷ 97 ∷ 108 ∷ 108 ∷ 115 ∷ [])
    × (end_text ≡ 41 ∷ 41 ∷ [])
bytes_of_text = (refl, refl, refl, refl)

-- Hexadecimal and decimal digits, by rule.
pub digits_of_text : (d b n : ℕ) (bs : List ℕ)
    → (d < 10 → hex_digit d ≡ 48 + d) × (10 ≤ d → hex_digit d ≡ 87 + d)
    × (hex [] ≡ []) × (hex (b ∷ bs) ≡ hex_digit (b / 16) ∷ hex_digit (b % 16) ∷ hex bs)
    × (separator_text [] ≡ []) × (separator_text (b ∷ bs) ≡ 32 ∷ hex (b ∷ bs))
unfolding hex_digit hex separator_text
digits_of_text d b n bs = (
  λ l. if_true _ _ _ (lt-ltb d 10 l) ∙ omega arith,
  λ l. if_false _ _ _ (le-ltb d 10 l) ∙ omega arith,
  refl,
  refl,
  refl,
  refl,
)

pub decimal_by_rule : (n : ℕ) → (n < 10 → decimal n ≡ (n + 48) ∷ []) × (10 ≤ n → decimal n ≡ decimal (n / 10) ++ ((n % 10 + 48) ∷ []))
decimal_by_rule n = (decimal_small n, decimal_more n)

-- Calls, cards and answers, with their letters as bytes.
pub text_by_rule : (w b n : ℕ) (ws s string : List ℕ)
    → (calls_text [] ≡ []) × (calls_text (w ∷ ws) ≡ call_text w ++ calls_text ws)
    × (call_text w ≡ 32 ∷ 40 ∷ (when is_absorb w then 97 else 115) ∷ 32 ∷ (decimal (length_of w) ++ (41 ∷ [])))
    × (card_text s ws ≡ head_text ++ separator_text s ++ middle_text ++ calls_text ws ++ end_text)
    × (ok_text string n ≡ 40 ∷ 111 ∷ 107 ∷ 32 ∷ (hex string ++ (32 ∷ (decimal n ++ (41 ∷ [])))))
    × (no_text n ≡ 40 ∷ 110 ∷ 111 ∷ 32 ∷ (decimal n ++ (41 ∷ [])))
unfolding calls_text call_text card_text ok_text no_text
text_by_rule w b n ws s string = (refl, refl, refl, refl, refl, refl)

-- The output, answer by answer.
pub output_by_answers : (input line : List ℕ) (ls : List (List ℕ))
    → (output input ≡ answers (lines input)) × (answers [] ≡ []) × (answers (line ∷ ls) ≡ with_newline (answer line) ++ answers ls)
    × (with_newline line ≡ line ++ (10 ∷ []))
unfolding output answers with_newline
output_by_answers input line ls = (refl, refl, refl, refl)

-- "lower-case hexadecimal", "decimal .., no leading zero but 0 itself"
pub digits_by_hand :
    (hex (0x01 ∷ 0x23 ∷ 0x45 ∷ 0x67 ∷ 0x89 ∷ 0xab ∷ 0xcd ∷ 0xef ∷ []) ≡ ascii "0123456789abcdef")
    × (decimal 1234567890 ≡ ascii "1234567890")
    × (decimal 0 ≡ ascii "0")
unfolding hex hex_digit decimal decimal_up_to when◌then◌else◌
digits_by_hand = (refl, refl, refl)

-- "separator in lower-case hexadecimal pairs, (domain) if empty"; "lengths decimal"; "(calls) if none"
pub text_of_a_card :
    (card_text (0xab ∷ 0x0f ∷ []) (0x80000078 ∷ 2147483647 ∷ []) ≡ ascii "(card (domain ab0f) (calls (a 120) (s 2147483647)))")
    × (card_text [] [] ≡ ascii "(card (domain) (calls))")
unfolding card_text separator_text hex hex_digit calls_text call_text decimal decimal_up_to is_absorb length_of when◌then◌else◌
text_of_a_card = (refl, refl)

-- An empty line is a line, a carriage return ends none, and "the last newline may be missing".
pub lines_by_hand : lines (10 ∷ 13 ∷ 10 ∷ 97 ∷ []) ≡ [] ∷ (13 ∷ []) ∷ (97 ∷ []) ∷ []
unfolding lines before when◌then◌else◌
lines_by_hand = refl

-- Digits a to f, numbers of two digits, an empty line, and a last line without its newline.
pub output_of_unlike_digits :
    output (ascii "(card (domain abcdef) (calls (a 10) (s 11)))\n(card)\n(card (domain) (calls (a 16777217)))\n\n(card (domain ff) (calls (a 90) (s 1)))")
    ≡ ascii "(ok 8000000a0000000babcdef 3)\n(no 14)\n(no 19)\n(no 14)\n(ok 8000005a00000001ff 12)\n"
unfolding output lines before answers with_newline answer reading_answer card_answer ok_text no_text card_of head_at middle_at hex_value decimal_value expected move_of run card_at
    opening_number opening_rows word_rows first_number tag_string string_of tail_of word_bytes digits merged_words phases merge join phase_of word_of is_absorb length_of
    full_permutations permutations_at phase_permutations block_count sum hex_digit hex decimal_up_to decimal when◌then◌else◌ ◌or◌ same any
output_of_unlike_digits = refl

-- The numbers with which a caller begins.
pub numbers_at_the_start : start_fed ≡ record { held = 0; used = 0; written = 0 }
numbers_at_the_start = refl
