-- The answer to a line. From document 01, "Cards".
use Rattle.std.specs.Prelude.{List, [], ◌∷◌, ◌++◌, ℕ, eqb}
use Prim.Native.Char.{code}
use Rattle.basics.specs.Logic.{when◌then◌else◌}
use Rattle.basics.specs.Numbers.{accepted, not_card}
use Rattle.pattern.specs.Opening.{Opening, opening, opening_number}
use Rattle.tag.specs.TagString.{tag_string}
use Rattle.counters.specs.Permutations.{full_permutations}
use Rattle.card_grammar.specs.Text.{ascii, hex, decimal}
use Rattle.card_grammar.specs.Grammar.{Reading, card, none}
use Rattle.card_grammar.specs.Card.{card_of}

-- "in brackets, ok, tag string in lower-case hexadecimal, permutations of a full session": "(ok 80000006000000034142 1)"
unfoldable pub ok_text : List ℕ → ℕ → List ℕ
ok_text string permutations = ascii "(ok " ++ (hex string ++ (ascii " " ++ (decimal permutations ++ ascii ")")))

-- "or no and the number": "(no 3)"
unfoldable pub no_text : ℕ → List ℕ
no_text number = ascii "(no " ++ (decimal number ++ ascii ")")

-- the form of a card's tag string: "The stored cards carry neither field nor form", and are "form 1"
abbrev pub card_form : ℕ
card_form = 1

-- the answer to a card: START's numbers about an opening
unfoldable pub card_answer : Opening → List ℕ
card_answer o = when eqb (opening_number o) accepted then ok_text (tag_string card_form o) (full_permutations o.words) else no_text (opening_number o)

-- "14 before 1 to 6"
unfoldable pub reading_answer : Reading → List ℕ
reading_answer (card separator ws) = card_answer (opening ws separator)
reading_answer none = no_text not_card

-- the answer to a line
unfoldable pub answer : List ℕ → List ℕ
answer line = reading_answer (card_of line)

-- "one bracketed form a line": a line's end
abbrev pub newline : ℕ
newline = code "\n"

-- a text as it is printed, with a newline behind it
unfoldable pub with_newline : List ℕ → List ℕ
with_newline text = text ++ (newline ∷ [])

-- how long an answer is at most with its newline: "(ok ", 1,032 digits, a space, 11 digits, a bracket, the newline
abbrev pub longest_answer : ℕ
longest_answer = 1050
