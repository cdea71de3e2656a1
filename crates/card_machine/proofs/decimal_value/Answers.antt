-- `card_machine::decimal_value` meets its contract.
-- Assumes nothing.
use mathlib.Core.Path.{sym}
use native.Mathlib.Omega.{arith}
use Rattle.card_machine.proofs.Values.{decimal_digit, decimal_none}
use Rattle.card_machine.proofs.decimal_value.Goals as goal

pub returns-in-48-to-57 : goal.returns-in-48-to-57
returns-in-48-to-57 c = (omega arith, sym (decimal_digit _ (omega arith) (omega arith)))

pub returns-in_default : goal.returns-in_default
returns-in_default c = decimal_none _ (λ h l. omega arith)

pub returns-in_default-2 : goal.returns-in_default-2
returns-in_default-2 c = decimal_none _ (λ h l. omega arith)
