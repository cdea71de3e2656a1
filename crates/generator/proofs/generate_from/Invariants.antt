-- What the loop of `generator::generate_from` keeps: the places passed hold the constants found, and zeros behind them.
use mathlib.Core.Path.{◌≡◌}
use mathlib.Core.List.{List}
use Prim.Native.Nat.{ℕ}
use lib.ListN.{length, take, drop}
use Rattle.basics.specs.Lists.{zero_padded}
use Rattle.generator.specs.Steps.{constants_left}
use Rattle.generator.proofs.generate_from.Given as goal

-- i places hold the first i constants, count of them, with zeros behind them; the rest are to come
pub record Filled (constants rest places : List ℕ) (i count : ℕ) : Type 0 where
  pub to_come : rest ≡ drop i constants
  pub number : count ≡ length (take i constants)
  pub is : take i places ≡ zero_padded i (take i constants)

abbrev pub invariant-loop-place : goal.invariant-loop-place
invariant-loop-place l =
    Filled (constants_left l.modulus l.initial.source) (constants_left l.modulus l.source) l.constants l.place-index l.count
