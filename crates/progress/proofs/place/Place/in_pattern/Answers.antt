-- `progress::place::Place::in_pattern` meets its contract.
-- Assumes nothing.
use mathlib.Core.Path.{◌≡◌, sym, ap, ◌∙◌}
use lib.ListN.{get_or}
use Rattle.words.specs.Words.{is_absorb, length_of}
use Rattle.words.specs.Kinds.{absorbs}
use Rattle.progress.proofs.Calls.{kinds_differ, kinds_agree, after_last, wrong_kind, past_end, in_length}
use borrow.Author.Rules.{rules}
use Rattle.progress.proofs.place.Place.in_pattern.Goals as goal

pub returns-then-self-count : goal.returns-then-self-count
returns-then-self-count c =
    let args = c.args in
    sym (after_last args.words.now _ _ args.self.done _ _ (search rules))

pub returns-then-ne : goal.returns-then-ne
returns-then-ne c =
    let args = c.args in
    let other = kinds_differ _ _ (sym c.ne.ensures ∙ c.if-ne.true) in
    let same = c.kind_of.ensures ∙ ap is_absorb c.phase_word-word.ensures in
    sym (wrong_kind args.words.now _ _ args.self.done _ _ (search rules) (λ e. other (same ∙ e)))

pub returns-then-self-length : goal.returns-then-self-length
returns-then-self-length c =
    let args = c.args in
    let kind : is_absorb (get_or args.words.now args.self.phase 0) ≡ absorbs args.kind =
    sym (c.kind_of.ensures ∙ ap is_absorb c.phase_word-word.ensures) ∙ kinds_agree _ _ (sym c.ne.ensures ∙ c.if-ne.false) in
    let long : c.length_of-length.result ≡ length_of (get_or args.words.now args.self.phase 0) =
    c.length_of-length.ensures ∙ ap length_of c.phase_word-word.ensures in
    sym (past_end args.words.now _ _ args.self.done _ _ (search rules) kind (rw (sym long) (search rules)))

pub returns : goal.returns
returns c =
    let args = c.args in
    let kind : is_absorb (get_or args.words.now args.self.phase 0) ≡ absorbs args.kind =
    sym (c.kind_of.ensures ∙ ap is_absorb c.phase_word-word.ensures) ∙ kinds_agree _ _ (sym c.ne.ensures ∙ c.if-ne.false) in
    let long : c.length_of-length.result ≡ length_of (get_or args.words.now args.self.phase 0) =
    c.length_of-length.ensures ∙ ap length_of c.phase_word-word.ensures in
    rw long
    (sym (in_length args.words.now _ _ args.self.done _ _ (search rules) kind (rw (sym long) (search rules))))
