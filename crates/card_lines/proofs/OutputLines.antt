-- The output of an input that begins with a line.
-- Assumes nothing.
use mathlib.Core.Path.{◌≡◌, refl, ap, ◌∙◌}
use mathlib.Core.Bool.{false}
use mathlib.Core.List.{List, [], ◌∷◌, ◌++◌, append-nil}
use Prim.Native.Nat.{ℕ}
use lib.Dec.{eqb}
use Rattle.basics.proofs.Cases.{if_true, if_false}
use Rattle.card.specs.Answer.{answer, with_newline}
use Rattle.card_lines.specs.Lines.{before, lines, answers, output}

-- no byte is a newline
unfoldable pub NoNewline : List ℕ → Type 0
NoNewline [] = Unit {0}
NoNewline (b ∷ bs) = (eqb b 10 ≡ false) × NoNewline bs

pub join_no_newline : (a b : List ℕ) → NoNewline a → NoNewline b → NoNewline (a ++ b)
unfolding NoNewline
join_no_newline [] b h k = k
join_no_newline (x ∷ a) b h k = (h.0, join_no_newline a b h.1 k)

lines_newline : (a rest : List ℕ) → NoNewline a → lines (a ++ (10 ∷ rest)) ≡ a ∷ lines rest
unfolding NoNewline lines before
lines_newline [] rest h = if_true _ _ _ refl
lines_newline (b ∷ a) rest h = if_false _ _ _ h.0 ∙ ap (before b) (lines_newline a rest h.1)

lines_one : (b : ℕ) (a : List ℕ) → NoNewline (b ∷ a) → lines (b ∷ a) ≡ (b ∷ a) ∷ []
unfolding NoNewline lines before
lines_one b [] h = if_false _ _ _ h.0
lines_one b (x ∷ a) h = if_false _ _ _ h.0 ∙ ap (before b) (lines_one x a h.1)

-- a line that a newline ends
pub output_newline : (a rest : List ℕ) → NoNewline a → output (a ++ (10 ∷ rest)) ≡ with_newline (answer a) ++ output rest
unfolding output answers
output_newline a rest h = ap answers (lines_newline a rest h)

-- no line, and one line that the end of the input ends
pub output_none : output [] ≡ []
unfolding output answers lines
output_none = refl

pub output_last : (b : ℕ) (a : List ℕ) → NoNewline (b ∷ a) → output (b ∷ a) ≡ with_newline (answer (b ∷ a))
unfolding output answers
output_last b a h = ap answers (lines_one b a h) ∙ append-nil (with_newline (answer (b ∷ a)))
