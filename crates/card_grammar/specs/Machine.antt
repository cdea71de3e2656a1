-- The machine that reads a line byte by byte, whose code is the crate card_machine. `card_of` is computed by it, and fixed by theorems whatever
-- the machine.
use Rattle.std.specs.Prelude.{List, [], ◌∷◌, ◌++◌, ℕ, ◌+◌, ◌-◌, ◌*◌, ltb, leb, eqb, get_or}
use Rattle.basics.specs.Logic.{when◌then◌else◌}
use Rattle.card_grammar.specs.Text.{head_text, middle_text}
use Rattle.card_grammar.specs.Grammar.{Reading, card, none}
use Rattle.card_grammar.specs.declared.machine.Mode.{Mode}
use Rattle.card_grammar.specs.declared.machine.Mode.TheVariants.{Head, Domain, First, Half, More, Middle, Calls, Open}
use Rattle.card_grammar.specs.declared.machine.Mode.TheVariants.{Kind, Space, Start, Zero, Length, Close, End, Dead}
use Rattle.card_grammar.specs.declared.machine.Move.{Move}
use Rattle.card_grammar.specs.declared.machine.Move.TheVariants.{To, Byte, Word}

unfoldable pub head_at : ℕ → ℕ
head_at k = get_or head_text k 0

unfoldable pub middle_at : ℕ → ℕ
middle_at k = get_or middle_text k 0

-- the value of a digit, or 16 (10) for a byte that is none
unfoldable pub hex_value : ℕ → ℕ
hex_value b =
    when ltb b 48 then 16
    else when leb b 57 then b - 48
    else when ltb b 97 then 16
    else when leb b 102 then b - 97 + 10
    else 16

unfoldable pub decimal_value : ℕ → ℕ
decimal_value b = when ltb b 48 then 10 else when leb b 57 then b - 48 else 10

unfoldable pub expected : ℕ → ℕ → Mode → Move
expected b wanted next = when eqb b wanted then To next else To Dead

-- What a byte does. In every mode that a line leads to, the digit h is below 16 and the word t + v below 2^32: the program tests both to show
-- that they fit a byte and a word, so the tests stand here too.
unfoldable pub move_of : Mode → ℕ → Move
move_of (Head k) b = when ltb k 12 then expected b (head_at k) (Head (k + 1)) else expected b (head_at k) Domain
move_of Domain b = when eqb b 32 then To First else expected b 41 (Middle 1)
move_of First b = when ltb (hex_value b) 16 then To (Half (hex_value b)) else To Dead
move_of (Half h) b = when ltb (hex_value b) 16 then (when ltb h 16 then Byte (h * 16 + hex_value b) else To Dead) else To Dead
move_of More b = when eqb b 41 then To (Middle 1) else when ltb (hex_value b) 16 then To (Half (hex_value b)) else To Dead
move_of (Middle k) b = when ltb k 7 then expected b (middle_at k) (Middle (k + 1)) else expected b (middle_at k) Calls
move_of Calls b = when eqb b 32 then To Open else expected b 41 Close
move_of Open b = expected b 40 Kind
move_of Kind b = when eqb b 97 then To (Space 2147483648) else expected b 115 (Space 0)
move_of (Space t) b = expected b 32 (Start t)
move_of (Start t) b =
    when eqb b 48 then To (Zero t) else when ltb (decimal_value b) 10 then To (Length t (decimal_value b)) else To Dead
move_of (Zero t) b = when eqb b 41 then Word t else To Dead
move_of (Length t v) b =
    when eqb b 41 then (when ltb (t + v) 4294967296 then Word (t + v) else To Dead)
    else when ltb (decimal_value b) 10 then
    (when leb (v * 10 + decimal_value b) 2147483647 then To (Length t (v * 10 + decimal_value b)) else To Dead)
    else To Dead
move_of Close b = expected b 41 End
move_of End b = To Dead
move_of Dead b = To Dead

-- the machine, with the separator and the words that it has read
pub record State : Type 0 where
  pub mode : Mode
  pub separator : List ℕ
  pub words : List ℕ

abbrev pub at : Mode → List ℕ → List ℕ → State
at m s w = record { mode = m; separator = s; words = w }

abbrev pub state_after : Move → List ℕ → List ℕ → State
state_after (To m) s w = at m s w
state_after (Byte x) s w = at More (s ++ (x ∷ [])) w
state_after (Word x) s w = at Calls s (w ++ (x ∷ []))

abbrev pub stepped : State → ℕ → State
stepped st b = state_after (move_of st.mode b) st.separator st.words

unfoldable pub run : State → List ℕ → State
run st [] = st
run st (b ∷ l) = run (stepped st b) l

abbrev pub fresh : State
fresh = at (Head 0) [] []

-- the card of the separator and words that the machine has read, if it stands behind a whole card
unfoldable pub card_at : State → Reading
card_at st = elim st.mode [
  | End ↦ card st.separator st.words
  | Head k ↦ none
  | Domain ↦ none
  | First ↦ none
  | Half h ↦ none
  | More ↦ none
  | Middle k ↦ none
  | Calls ↦ none
  | Open ↦ none
  | Kind ↦ none
  | Space t ↦ none
  | Start t ↦ none
  | Zero t ↦ none
  | Length t v ↦ none
  | Close ↦ none
  | Dead ↦ none
]
