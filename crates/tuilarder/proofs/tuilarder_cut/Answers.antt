use mathlib.Core.Path.{ap, ◌∙◌}
use Rattle.pattern.specs.Opening.{WordList}
use Rattle.tuilarder.proofs.AnswerNumbers.{of_words}
use Rattle.tuilarder.proofs.tuilarder_cut.Goals as goal

pub returns : goal.returns
returns c =
    let e = c.cut-cut.ensures in (
      c.number.ensures ∙ of_words _ ∙ ap (λ (a : WordList). a.number) e,
      c.store_words.ensures.0 ∙ ap (λ (a : WordList). a.words) e,
      c.store_words.ensures.1 ∙ ap (λ (a : WordList). a.count) e,
    )
