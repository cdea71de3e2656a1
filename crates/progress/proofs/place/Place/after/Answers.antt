-- `progress::place::Place::after` meets its contract.
-- Assumes nothing.
use mathlib.Core.Path.{◌≡◌, sym, ap, ◌∙◌}
use native.Mathlib.Numerals.{add-one}
use native.Mathlib.Omega.{arith}
use Rattle.words.specs.Words.{length_of}
use Rattle.progress.specs.Place.{phase_length}
use Rattle.progress.proofs.Calls.{stays_behind, stays_at_end, goes_on, next_phase}
use borrow.Author.Rules.{rules}
use Rattle.progress.proofs.place.Place.after.Goals as goal

pub returns-then-self-count : goal.returns-then-self-count
returns-then-self-count c =
    let args = c.args in
    sym (stays_behind args.words.now _ args.self.phase args.self.done args.elements (search rules))

pub returns-then-self-length : goal.returns-then-self-length
returns-then-self-length c =
    let args = c.args in
    let long : c.length_of-length.result ≡ phase_length args.words.now args.self.phase =
    c.length_of-length.ensures ∙ ap length_of c.phase_word.ensures in
    sym (stays_at_end args.words.now args.count args.self.phase args.self.done args.elements (search rules) (omega arith))

pub returns-then-elements-length : goal.returns-then-elements-length
returns-then-elements-length c =
    let args = c.args in
    let long : c.length_of-length.result ≡ phase_length args.words.now args.self.phase =
    c.length_of-length.ensures ∙ ap length_of c.phase_word.ensures in
    (λ i. record { phase = add-one args.self.phase i; done = 0 })
    ∙ sym (next_phase args.words.now args.count args.self.phase args.self.done args.elements (search rules) (omega arith) (omega arith))

pub returns : goal.returns
returns c =
    let args = c.args in
    let long : c.length_of-length.result ≡ phase_length args.words.now args.self.phase =
    c.length_of-length.ensures ∙ ap length_of c.phase_word.ensures in
    sym (goes_on args.words.now args.count args.self.phase args.self.done args.elements (search rules) (omega arith) (omega arith))
