-- A table of refusals: rows in the order in which they are looked at, each a condition with the number that a call gets where it holds.
use Rattle.std.specs.Prelude.{Bool, List, [], ◌∷◌, ℕ}
use Rattle.basics.specs.Logic.{when◌then◌else◌}
use Rattle.basics.specs.Numbers.{accepted}

-- a row of a table
pub record Row : Type 0 where
  pub applies : Bool
  pub number : ℕ

-- a row before other rows: where the condition holds, the call gets the number
infixr 20 ◌gets◌⨾◌
abbrev pub ◌gets◌⨾◌ : Bool → ℕ → List Row → List Row
condition gets n ⨾ rows = record { applies = condition; number = n } ∷ rows

-- the number that a call gets: the first row that applies gives it, and where none does, the call is accepted
unfoldable pub first_number : List Row → ℕ
first_number [] = accepted
first_number (row ∷ rows) = when row.applies then row.number else first_number rows
