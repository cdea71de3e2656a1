use mathlib.Core.Path.{sym, ap, ◌∙◌}
use Rattle.std.specs.Prelude.{Result}
use Rattle.basics.specs.Answers.{answer_number}
use Rattle.basics.specs.declared.Refusal.{Refusal}
use Rattle.tag_reader.specs.Answers.{parts_answer}
use Rattle.tag_reader.specs.Parts.{PartsRead, parts_read}
use Rattle.tag_reader.specs.declared.Parts.{Parts}
use Rattle.tuilarder.proofs.AnswerNumbers.{of_parts}
use Rattle.tuilarder.proofs.tuilarder_read_tag.Goals.{in-Ok, in-Err}
use Rattle.tuilarder.proofs.tuilarder_read_tag.Goals as goal

pub returns : goal.returns
unfolding parts_answer parts_read
returns c =
    let s = c.args.string.now in
    let e = c.read_parts-parts.ensures in
    elim c.match-parts.branch [
      | in-Ok w ↦
          let is = sym w.in-Ok.is in (
            c.number.ensures ∙ ap answer_number (w.parts-is ∙ is) ∙ of_parts s _ ∙ ap (λ (a : PartsRead). a.number) e,
            w.words-is ∙ ap (λ (r : Result Parts Refusal). (parts_answer s r).words) is ∙ ap (λ (a : PartsRead). a.words) e,
            w.count-is ∙ ap (λ (r : Result Parts Refusal). (parts_answer s r).count) is ∙ ap (λ (a : PartsRead). a.count) e,
            w.separator_start-is ∙ ap (λ (r : Result Parts Refusal). (parts_answer s r).start) is ∙ ap (λ (a : PartsRead). a.start) e,
            w.separator_count-is ∙ ap (λ (r : Result Parts Refusal). (parts_answer s r).length) is ∙ ap (λ (a : PartsRead). a.length) e,
          )
      | in-Err w ↦
          let is = sym w.in-Err.is in (
            c.number.ensures ∙ ap answer_number w.parts-is ∙ of_parts s _ ∙ ap (λ (a : PartsRead). a.number) e,
            w.words-is ∙ ap (λ (r : Result Parts Refusal). (parts_answer s r).words) is ∙ ap (λ (a : PartsRead). a.words) e,
            w.count-is ∙ ap (λ (r : Result Parts Refusal). (parts_answer s r).count) is ∙ ap (λ (a : PartsRead). a.count) e,
            w.separator_start-is ∙ ap (λ (r : Result Parts Refusal). (parts_answer s r).start) is ∙ ap (λ (a : PartsRead). a.start) e,
            w.separator_count-is ∙ ap (λ (r : Result Parts Refusal). (parts_answer s r).length) is ∙ ap (λ (a : PartsRead). a.length) e,
          )
    ]
