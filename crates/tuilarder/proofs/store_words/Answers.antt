use mathlib.Core.Path.{sym, ap}
use Rattle.std.specs.Prelude.{Result}
use Rattle.basics.specs.declared.Refusal.{Refusal}
use Rattle.pattern.specs.Opening.{with_words}
use Rattle.pattern.specs.Answers.{words_answer}
use Rattle.pattern.specs.declared.list.Words.{Words}
use Rattle.tuilarder.proofs.store_words.Goals as goal

pub returns-in-Ok : goal.returns-in-Ok
unfolding words_answer
returns-in-Ok c =
    let is = sym c.in-Ok.is in
    (ap (λ (r : Result Words Refusal). (words_answer r).words) is, ap (λ (r : Result Words Refusal). (words_answer r).count) is)

pub returns-in-Err : goal.returns-in-Err
unfolding words_answer with_words
returns-in-Err c =
    let is = sym c.in-Err.is in
    (ap (λ (r : Result Words Refusal). (words_answer r).words) is, ap (λ (r : Result Words Refusal). (words_answer r).count) is)
