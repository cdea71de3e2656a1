-- Document 01's three card lines, in one and in pieces.
use Rattle.std.specs.Prelude.{◌≡◌, List, [], ◌∷◌, ℕ, length}
use Rattle.std.proofs.Common.{◌∙◌}
use Rattle.basics.specs.Logic.{when◌then◌else◌}
use Rattle.basics.specs.Lists.{joined}
use Rattle.card_grammar.specs.Text.{ascii}
use Rattle.card.specs.Answer.{with_newline}
use Rattle.card_lines.specs.Lines.{before, lines, output}
use Rattle.card_lines.specs.Calls.{start_kept, text_of_pieces}
use Rattle.card_lines.proofs.Callers.{pieces_output}
use Rattle.card_lines.proofs.Cutting.{start_holds}
use Rattle.claims.specs.Cards.{line1, line2, line3, answer1, answer2, answer3, three_lines}

-- "Whole input and output"
pub whole_example : output (ascii "(card (domain 4142) (calls (a 3) (a 3) (s 3)))\n(card (domain) (calls (s 1)))\n(card (domain) (calls (a 0)))\n")
    ≡ ascii "(ok 80000006000000034142 1)\n(no 3)\n(no 2)\n"
unfolding output lines before line1 line2 line3 when◌then◌else◌ with_newline
whole_example = three_lines _ _ _ answer1 answer2 answer3

-- the same input in pieces, the first cut inside its second line, the second empty, the third cut before its last newline
pub example_in_pieces : (line : List ℕ) → length line ≡ 2049
    → text_of_pieces
    (start_kept line)
    (ascii "(card (domain 4142) (calls (a 3) (a 3) (s 3)))\n(card (dom"
    ∷ []
    ∷ ascii "ain) (calls (s 1)))\n(card (domain) (calls (a 0)))"
    ∷ ascii "\n"
    ∷ [])
    ≡ ascii "(ok 80000006000000034142 1)\n(no 3)\n(no 2)\n"
unfolding joined output lines before line1 line2 line3 when◌then◌else◌ with_newline
example_in_pieces line long = pieces_output _ (start_kept line) [] (start_holds line long) ∙ three_lines _ _ _ answer1 answer2 answer3
