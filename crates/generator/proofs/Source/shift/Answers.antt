-- `Source::shift` meets its contract.
-- Assumes nothing.
use native.Mathlib.Omega.{arith}
use Rattle.generator.specs.Generator.{shifted}
use Rattle.generator.proofs.Streams.{shift_in}
use Rattle.generator.proofs.Source.shift.Goals as goal

pub returns-clause-register : goal.returns-clause-register
unfolding shifted
returns-clause-register c =
    rw (c.rotate_left.ensures.after, c.next_bit-bit.ensures) (shift_in c.args.self.now.register _ (omega arith))
