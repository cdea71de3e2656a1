-- `tag_reader::read` meets its contract.
-- Assumes nothing.
use mathlib.Core.Path.{ap, ◌∙◌}
use Rattle.std.specs.Prelude.{Err}
use Rattle.std.proofs.lemmas.Result.{err_from_is_err_and}
use Rattle.pattern.specs.Answers.{words_answer}
use Rattle.pattern.specs.Opening.{with_words}
use Rattle.tag_reader.specs.Answers.{parts_answer}
use Rattle.tag_reader.proofs.Place.{words_alone}
use Rattle.tag_reader.proofs.read.Goals as goal

pub returns-in_err-parts : goal.returns-in_err-parts
unfolding words_answer parts_answer with_words
returns-in_err-parts c =
    let args = c.args in
    let err = err_from_is_err_and c.from_residual.result c.from_residual.ensures.1 in
    ap words_answer (err.1 ∙ ap Err err.2) ∙ words_alone args.form args.string.now args.separator_length _ c.in_err-parts.ensures

pub returns : goal.returns
unfolding words_answer parts_answer
returns c =
    let args = c.args in
    words_alone args.form args.string.now args.separator_length _ c.in_ok-parts.ensures
