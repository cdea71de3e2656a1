-- `field::mul` meets its contract.
-- Assumes nothing.
use mathlib.Core.Path.{◌∙◌, ap}
use Prim.Native.Nat.{ℕ, ◌%◌}
use Rattle.field.specs.Field.{modulus}
use Rattle.field.proofs.mul.Goals as goal

pub returns : goal.returns
returns c = c.reduce.ensures ∙ ap (λ (x : ℕ). x % modulus c.args.field) c.wide_mul.ensures
