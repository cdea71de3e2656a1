-- Calls of `feed` and of `answer_lines` in turn, each on the line in progress that the one before it left. Document 01 leaves it to the program
-- how input and output are cut; what is common to every choice is `output`.
use Rattle.std.specs.Prelude.{List, [], ◌∷◌, ◌++◌, ℕ, zero, suc, ◌+◌, ◌-◌, ltb, length, drop}
use Rattle.basics.specs.Logic.{when◌then◌else◌}
use Rattle.card.specs.Answer.{longest_answer}
use Rattle.card_lines.specs.Stream.{writes, takes, line_after, fed, last_answer}
use Rattle.card_lines.specs.declared.Fed.{Fed}

-- the line in progress: its places, and how many bytes it has
pub record Held : Type 0 where
  pub line : List ℕ
  pub held : ℕ

-- ---- calls of `feed`, each with a piece

-- the line in progress that a call leaves
unfoldable pub leaves : Held → List ℕ → Held
leaves h piece = record { line = line_after h.line h.held piece; held = (fed h.line h.held piece).held }

-- what the calls write, in order
unfoldable pub writes_all : Held → List (List ℕ) → List ℕ
writes_all h [] = []
writes_all h (piece ∷ pieces) = writes h.line h.held piece ++ writes_all (leaves h piece) pieces

-- what the calls take of their pieces, in order
unfoldable pub takes_all : List (List ℕ) → List ℕ
takes_all [] = []
takes_all (piece ∷ pieces) = takes piece ++ takes_all pieces

-- the line in progress that they leave
unfoldable pub leaves_all : Held → List (List ℕ) → Held
leaves_all h [] = h
leaves_all h (piece ∷ pieces) = leaves_all (leaves h piece) pieces

-- ---- a call of `answer_lines`; `last` is what the last call gave

-- how many places the output has
abbrev pub output_places : ℕ
output_places = 65536

-- The pieces that it lends to `feed` in turn: what is left of its own, while there is a byte, and room in the output for the longest answer. The
-- first argument bounds how many calls there are; the length of what is left is enough.
unfoldable pub feedings : ℕ → ℕ → Held → List ℕ → List (List ℕ)
feedings zero room h rest = []
feedings (suc k) room h [] = []
feedings (suc k) room h (b ∷ bs) =
    when ltb room longest_answer then [] else
    (b ∷ bs) ∷ feedings k (room - length (writes h.line h.held (b ∷ bs))) (leaves h (b ∷ bs)) (drop (length (takes (b ∷ bs))) (b ∷ bs))

-- what it begins with, and its calls of `feed`
abbrev pub held_of : List ℕ → Fed → Held
held_of line last = record { line = line; held = last.held }

unfoldable pub feedings_of : List ℕ → Fed → List ℕ → List (List ℕ)
feedings_of line last piece = let rest = drop last.used piece in feedings (length rest) output_places (held_of line last) rest

-- what it writes, the places of the line in progress that it leaves, and its numbers
unfoldable pub answered_text : List ℕ → Fed → List ℕ → List ℕ
answered_text line last piece = writes_all (held_of line last) (feedings_of line last piece)

unfoldable pub answered_line : List ℕ → Fed → List ℕ → List ℕ
answered_line line last piece = (leaves_all (held_of line last) (feedings_of line last piece)).line

unfoldable pub answered_fed : List ℕ → Fed → List ℕ → Fed
answered_fed line last piece =
    record {
      held = (leaves_all (held_of line last) (feedings_of line last piece)).held;
      used = last.used + length (takes_all (feedings_of line last piece));
      written = length (answered_text line last piece);
    }

-- ---- a caller of `answer_lines`

-- the numbers at the start, and before each piece: `start` and `next_piece`
abbrev pub start_fed : Fed
start_fed = record { held = 0; used = 0; written = 0 }

abbrev pub next_fed : Fed → Fed
next_fed last = record { held = last.held; used = 0; written = 0 }

-- what it keeps from call to call: at the start, before a piece, and after a call
pub record Kept : Type 0 where
  pub line : List ℕ
  pub last : Fed

abbrev pub kept_of : List ℕ → Fed → Kept
kept_of line last = record { line = line; last = last }

abbrev pub start_kept : List ℕ → Kept
start_kept line = kept_of line start_fed

unfoldable pub next_kept : Kept → Kept
next_kept s = record { line = s.line; last = next_fed s.last }

unfoldable pub kept_after : Kept → List ℕ → Kept
kept_after s piece = record { line = answered_line s.line s.last piece; last = answered_fed s.line s.last piece }

-- It calls until its piece is used up: what these calls write, and what it then keeps. The first argument bounds how many calls there are; the
-- length of the piece is enough.
unfoldable pub piece_text : ℕ → Kept → List ℕ → List ℕ
piece_text zero s piece = []
piece_text (suc k) s piece =
    when ltb s.last.used (length piece) then answered_text s.line s.last piece ++ piece_text k (kept_after s piece) piece else []

unfoldable pub piece_kept : ℕ → Kept → List ℕ → Kept
piece_kept zero s piece = s
piece_kept (suc k) s piece = when ltb s.last.used (length piece) then piece_kept k (kept_after s piece) piece else s

-- the same for piece after piece, and behind them what `end` writes
unfoldable pub text_of_pieces : Kept → List (List ℕ) → List ℕ
text_of_pieces s [] = last_answer s.line s.last.held
text_of_pieces s (piece ∷ pieces) =
    piece_text (length piece) (next_kept s) piece ++ text_of_pieces (piece_kept (length piece) (next_kept s) piece) pieces
