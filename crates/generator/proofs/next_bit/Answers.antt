-- `generator::next_bit` meets its contract.
-- Assumes nothing.
use Rattle.generator.specs.Generator.{next_bit}
use Rattle.generator.proofs.next_bit.Goals as goal

pub returns : goal.returns
unfolding next_bit
returns c = cc
