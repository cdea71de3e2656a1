-- What a table is answered, as one record: the number of document 01's table under "Calls turned away", and what comes with it.
use Rattle.std.specs.Prelude.{ℕ, Result, Ok, Err}
use Rattle.basics.specs.Numbers.{accepted}
use Rattle.basics.specs.Answers.{number_of}
use Rattle.basics.specs.declared.Refusal.{Refusal}
use Rattle.basics.specs.declared.Refusal.TheVariants.{OwnersRowInvalid, OwnersGap, SeparatorTooShort}
use Rattle.owners.specs.Owners.{Checked}
use Rattle.owners.specs.declared.Asked.{Asked}
use Rattle.owners.specs.declared.TableFault.{TableFault}
use Rattle.owners.specs.declared.TableFault.TheVariants.{Row, Gap}
use Rattle.owners.specs.declared.AskFault.{AskFault}
use Rattle.owners.specs.declared.AskFault.TheVariants.{Table, SeparatorTooShort as NoSeparator}

-- why a call is turned away whose table is at fault
unfoldable pub table_refusal : TableFault → Refusal
table_refusal (Row _) = OwnersRowInvalid
table_refusal (Gap _) = OwnersGap

-- what comes with it: the first row at fault, counted from 1, or the least number that no row holds
unfoldable pub fault_place : TableFault → ℕ
fault_place (Row k) = k
fault_place (Gap n) = n

-- why a table that is asked turns its caller away
unfoldable pub ask_refusal : AskFault → Refusal
ask_refusal (Table fault) = table_refusal fault
ask_refusal NoSeparator = SeparatorTooShort

-- what comes with it
unfoldable pub ask_place : AskFault → ℕ
ask_place (Table fault) = fault_place fault
ask_place NoSeparator = 0

-- the answer to a table that is checked
unfoldable pub checked_answer : {A : Type 0} → Result A TableFault → Checked
checked_answer (Ok _) = record { number = accepted; place = 0 }
checked_answer (Err fault) = record { number = number_of (table_refusal fault); place = fault_place fault }

-- the answer to a table that is asked for a separator
unfoldable pub asked_answer : Result ℕ AskFault → Asked
asked_answer (Ok line) = record { number = accepted; place = 0; line = line }
asked_answer (Err fault) = record { number = number_of (ask_refusal fault); place = ask_place fault; line = 0 }
