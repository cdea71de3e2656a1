-- What a line is read as. The machine computes it, and two theorems of claims/specs/Cards.antt fix it whatever the machine: it is the separator and
-- words whose card the line is (`cards_are_their_text`), and none exactly if the line is no card (`other_lines_are_no_card`).
use Rattle.std.specs.Prelude.{List, ℕ, ltb, length}
use Rattle.basics.specs.Logic.{when◌then◌else◌}
use Rattle.card_grammar.specs.Grammar.{Reading, none}
use Rattle.card_grammar.specs.Machine.{run, fresh, card_at}

-- what a line is read as: none if it has more than 2,048 bytes, else what the machine has read when the line ends
unfoldable pub card_of : List ℕ → Reading
card_of line = when ltb 2048 (length line) then none else card_at (run fresh line)
