use mathlib.Core.Path.{ap, ◌∙◌}
use Rattle.poseidon.specs.Answers.{permuted_answer}
use Rattle.poseidon.specs.Permutation.{Permuted}
use Rattle.tuilarder.proofs.tuilarder_permute.Goals as goal

pub returns-in-Ok : goal.returns-in-Ok
unfolding permuted_answer
returns-in-Ok c = (ap (λ (a : Permuted). a.number) c.in-Ok.ensures, ap (λ (a : Permuted). a.state) c.in-Ok.ensures)

pub returns-in-Err : goal.returns-in-Err
unfolding permuted_answer
returns-in-Err c = (c.from.ensures ∙ ap (λ (a : Permuted). a.number) c.in-Err.ensures, ap (λ (a : Permuted). a.state) c.in-Err.ensures)
