-- What the loop of `Source::start` keeps: the bits dropped and those to come are the new bits.
use mathlib.Core.Path.{◌≡◌}
use Prim.Native.Nat.{◌-◌}
use lib.ListN.{drop}
use Rattle.generator.specs.Generator.{new_bits}
use Rattle.generator.proofs.Source.start.Given as goal

abbrev pub invariant-loop : goal.invariant-loop
invariant-loop l =
    (l.source.left ≡ l.limit - 160) × (drop l.counter (new_bits l.limit l.fn.register) ≡ new_bits (l.limit - l.counter) l.source.register)
