-- `card_machine::hex_value` meets its contract.
-- Assumes nothing.
use mathlib.Core.Path.{sym}
use native.Mathlib.Omega.{arith}
use Rattle.card_machine.proofs.Values.{hex_decimal, hex_letter, hex_none}
use Rattle.card_machine.proofs.hex_value.Goals as goal

pub returns-in-48-to-57 : goal.returns-in-48-to-57
returns-in-48-to-57 c = (omega arith, sym (hex_decimal _ (omega arith) (omega arith)))

pub returns-in-97-to-102 : goal.returns-in-97-to-102
returns-in-97-to-102 c = (omega arith, sym (hex_letter _ (omega arith) (omega arith)))

pub returns-in_default : goal.returns-in_default
returns-in_default c = hex_none _ (λ h l. omega arith) (λ h l. omega arith)

pub returns-in_default-2 : goal.returns-in_default-2
returns-in_default-2 c = hex_none _ (λ h l. omega arith) (λ h l. omega arith)

pub returns-in_default-3 : goal.returns-in_default-3
returns-in_default-3 c = hex_none _ (λ h l. omega arith) (λ h l. omega arith)
