-- `poseidon::remainder` meets its contract.
-- Assumes nothing.
use native.Mathlib.Omega.{arith}
use Rattle.poseidon.proofs.Subtraction.{not_less, less_once, less_twice}
use Rattle.poseidon.proofs.remainder.Goals as goal

pub returns-then-x-m : goal.returns-then-x-m
returns-then-x-m c = not_less (omega arith)

pub returns-then-once-m : goal.returns-then-once-m
returns-then-once-m c = less_once (omega arith) (omega arith)

pub returns-else-once-m : goal.returns-else-once-m
returns-else-once-m c = less_twice (omega arith) (omega arith) (omega arith)
