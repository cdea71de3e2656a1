-- `progress::place::Place::is_sound` meets its contract.
-- Assumes nothing.
use mathlib.Core.Path.{sym, ap, ◌∙◌}
use native.Mathlib.Omega.{arith}
use borrow.Author.Tests.{lt-ltb, le-ltb, le-leb, lt-leb}
use lib.Dec.{ltb}
use Rattle.basics.proofs.Cases.{if_true, if_false, and_step, and_stop}
use Rattle.words.specs.Words.{length_of}
use Rattle.progress.specs.Place.{sound_place}
use borrow.Author.Rules.{rules}
use Rattle.progress.proofs.place.Place.is_sound.Goals as goal

pub returns-then-self-count : goal.returns-then-self-count
unfolding sound_place
returns-then-self-count c = sym (and_stop _ _ (lt-leb _ _ c.if-self-count.true))

pub returns-then-self-count-2 : goal.returns-then-self-count-2
unfolding sound_place
returns-then-self-count-2 c =
    let phase = c.args.self.phase in
    let count = c.args.count in
    sym (and_step _ _ (le-leb phase count (omega arith)) ∙ if_false _ _ _ (le-ltb phase count (omega arith)))

pub returns : goal.returns
unfolding sound_place
returns c =
    let phase = c.args.self.phase in
    let count = c.args.count in
    let length = c.length_of.ensures ∙ ap length_of c.phase_word.ensures in
    ap (ltb c.args.self.done) length ∙ sym (and_step _ _ (le-leb phase count (omega arith)) ∙ if_true _ _ _ (lt-ltb phase count (search rules)))
