-- `seal::NoteContext::are_elements` meets its contract.
-- Assumes nothing.
use mathlib.Core.Path.{sym, ◌∙◌}
use mathlib.Core.Bool.{false≢true}
use Rattle.basics.proofs.Cases.{and_step, and_stop}
use Rattle.seal.specs.Seal.{are_elements}
use Rattle.seal.proofs.NoteContext.are_elements.Goals as goal
use Rattle.seal.proofs.NoteContext.are_elements.Goals.{then-is_reduced, else-is_reduced}

pub returns-then-is_reduced-2 : goal.returns-then-is_reduced-2
unfolding are_elements
returns-then-is_reduced-2 c =
    elim c.if-is_reduced.branch [
      | then-is_reduced w ↦ c.is_reduced-then-is_reduced-2.ensures
          ∙ sym
          (and_step _ _ (sym c.is_reduced.ensures ∙ w.if-is_reduced.true)
          ∙ and_step _ _ (sym w.is_reduced-then-is_reduced.ensures ∙ sym w.value-is ∙ c.if-is_reduced-2.true))
      | else-is_reduced w ↦ absurd (false≢true (sym w.if-is_reduced.false ∙ sym w.value-is ∙ c.if-is_reduced-2.true))
    ]

pub returns-else-is_reduced-2 : goal.returns-else-is_reduced-2
unfolding are_elements
returns-else-is_reduced-2 c =
    elim c.if-is_reduced.branch [
      | then-is_reduced w ↦ c.if-is_reduced-2.false
          ∙ sym
          (and_step _ _ (sym c.is_reduced.ensures ∙ w.if-is_reduced.true)
          ∙ and_stop _ _ (sym w.is_reduced-then-is_reduced.ensures ∙ sym w.value-is ∙ c.if-is_reduced-2.false))
      | else-is_reduced w ↦ c.if-is_reduced-2.false ∙ sym (and_stop _ _ (sym c.is_reduced.ensures ∙ w.if-is_reduced.false))
    ]
