-- What one permutation answers with, as one record.
use Rattle.std.specs.Prelude.{List, ℕ, Result, Ok, Err}
use Rattle.basics.specs.Numbers.{accepted}
use Rattle.basics.specs.Answers.{number_of}
use Rattle.basics.specs.declared.Refusal.{Refusal}
use Rattle.poseidon.specs.Permutation.{Permuted}

-- number 0 and the state that a call gives; or the number of a refusal and the state that it got
unfoldable pub permuted_answer : List ℕ → Result (List ℕ) Refusal → Permuted
permuted_answer s (Ok state) = record { number = accepted; state = state }
permuted_answer s (Err refusal) = record { number = number_of refusal; state = s }
