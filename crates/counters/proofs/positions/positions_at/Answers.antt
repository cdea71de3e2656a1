-- `counters::positions::positions_at` meets its contract.
-- Assumes nothing.
use mathlib.Core.Path.{sym, ap, ◌∙◌}
use Prim.Native.Nat.{ℕ}
use Rattle.words.specs.Words.{length_of}
use Rattle.counters.specs.Positions.{positions_after}
use Rattle.counters.proofs.Bounds.{inside_phase, at_start, between_phases}
use borrow.Author.Rules.{rules}
use Rattle.counters.proofs.positions.positions_at.Goals as goal

pub returns-then-place-gt0 : goal.returns-then-place-gt0
returns-then-place-gt0 c =
    c.positions_after.ensures
    ∙ ap (λ (w : ℕ). positions_after w c.args.place.done) c.phase_word.ensures
    ∙ sym (inside_phase _ _ _ (search rules))

pub returns-then-place-eq0 : goal.returns-then-place-eq0
returns-then-place-eq0 c = sym (at_start _ _ _ (search rules) (search rules))

pub returns : goal.returns
returns c =
    let word = c.phase_word-word.ensures in
    c.positions_after-2.ensures
    ∙ ap (positions_after _) c.length_of.ensures
    ∙ ap (λ (w : ℕ). positions_after w (length_of w)) word
    ∙ sym (between_phases _ _ _ (search rules) (search rules))
