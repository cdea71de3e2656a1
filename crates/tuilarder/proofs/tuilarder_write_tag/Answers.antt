use mathlib.Core.Path.{◌≡◌, refl, ap, ◌∙◌}
use Prim.Native.Nat.{ℕ}
use Rattle.std.specs.Prelude.{Result, Ok, Err}
use Rattle.std.specs.Result.{result_unwrap_or}
use Rattle.basics.specs.declared.Refusal.{Refusal}
use Rattle.tag.specs.Answers.{written_answer}
use Rattle.tag.specs.TagString.{Written}
use Rattle.tuilarder.proofs.AnswerNumbers.{of_written}
use Rattle.tuilarder.proofs.tuilarder_write_tag.Goals as goal

-- how many bytes are written, none where writing is refused
stored : (r : Result ℕ Refusal) → result_unwrap_or r 0 ≡ (written_answer r).length
unfolding written_answer
stored (Ok length) = refl
stored (Err refusal) = refl

pub returns : goal.returns
returns c =
    let e = c.write-string.ensures in (
      c.number.ensures ∙ of_written _ ∙ ap (λ (a : Written). a.number) e.0,
      c.unwrap_or.ensures ∙ stored _ ∙ ap (λ (a : Written). a.length) e.0,
      e.1,
    )
