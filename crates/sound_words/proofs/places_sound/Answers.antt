-- `sound_words::places_sound` meets its contract.
-- Assumes nothing.
use mathlib.Core.Path.{sym, ap, ◌∙◌}
use borrow.Author.Tests.{le-leb, lt-leb}
use lib.Dec.{eqb}
use Rattle.basics.specs.Logic.{all}
use Rattle.basics.proofs.Cases.{and_step, and_stop}
use Rattle.pattern.specs.Pattern.{sound_words, sound_places}
use Rattle.sound_words.proofs.places_sound.Goals as goal

pub returns-in_default : goal.returns-in_default
unfolding sound_places
returns-in_default c = sym (and_stop _ _ (lt-leb _ _ c.in_default.ensures.cases))

pub returns-then-is_sound : goal.returns-then-is_sound
unfolding sound_places
returns-then-is_sound c =
    let (fits, used, unused, _, _) = c.in-Some.ensures.cases in
    let sound = ap sound_words (sym used) ∙ sym c.is_sound.ensures ∙ c.if-is_sound.true in
    c.all_zero.ensures ∙ ap (all (λ w. eqb w 0)) unused ∙ sym (and_step _ _ (le-leb _ _ fits) ∙ and_step _ _ sound)

pub returns-else-is_sound : goal.returns-else-is_sound
unfolding sound_places
returns-else-is_sound c =
    let (fits, used, _, _, _) = c.in-Some.ensures.cases in
    let not_sound = ap sound_words (sym used) ∙ sym c.is_sound.ensures ∙ c.if-is_sound.false in
    c.if-is_sound.false ∙ sym (and_step _ _ (le-leb _ _ fits) ∙ and_stop _ _ not_sound)
