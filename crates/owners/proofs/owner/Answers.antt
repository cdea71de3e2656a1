-- `owners::owner` meets its contract.
-- Assumes nothing.
use mathlib.Core.Path.{◌≡◌, refl, sym, ap, ◌∙◌}
use mathlib.Core.Bool.{false, not, true≢false}
use mathlib.Core.List.{List}
use Prim.Native.Nat.{ℕ, ◌<◌}
use native.Mathlib.Omega.{arith}
use Rattle.std.specs.Prelude.{Option, Some, None, MatchOption, IsSome, Result, Ok, Err, IsErrAnd}
use Rattle.std.proofs.lemmas.Option.{MatchOption-at_some}
use Rattle.basics.specs.Logic.{any}
use Rattle.basics.proofs.Parts.{first_four_read}
use Rattle.basics.specs.Answers.{number_of}
use Rattle.basics.specs.Numbers.{accepted}
use Rattle.owners.specs.Owners.{Table, Checked, table_of, holds, is_free, number_count, checked, separator_number, line_of, asked}
use Rattle.owners.specs.Answers.{table_refusal, ask_refusal, ask_place, checked_answer, asked_answer}
use Rattle.owners.specs.declared.TableFault.{TableFault}
use Rattle.owners.specs.declared.TableFault.TheVariants.{Row, Gap}
use Rattle.owners.specs.declared.AskFault.{AskFault}
use Rattle.owners.specs.declared.AskFault.TheVariants.{Table as InTable}
use Rattle.owners.proofs.Answers.{asked_refused, asked_short, asked_line}
use Rattle.owners.proofs.Tables.{passed_numbers, covering_all}
use Rattle.owners.proofs.owner.Goals as goal

-- a refusal is no acceptance
not_accepted : (fault : TableFault) → number_of (table_refusal fault) ≡ accepted → ⊥
unfolding number_of table_refusal
not_accepted (Row k) = λ e. omega arith
not_accepted (Gap n) = λ e. omega arith

module _ (A : Type 0) (t : Table) (separator : List ℕ) where
  refused : (fault : TableFault) → checked_answer {A = A} (Err fault) ≡ checked t → asked_answer (Err (InTable fault)) ≡ asked t separator
  unfolding checked_answer asked_answer ask_refusal ask_place
  refused fault e =
      let number = ap (λ (a : Checked). a.number) e in
      let n = asked_refused t separator (λ p. not_accepted fault (number ∙ p)) in
      sym (rw (← e) at n)

  accepted_is : (a : A) → checked_answer {A = A} (Ok a) ≡ checked t → (checked t).number ≡ accepted
  unfolding checked_answer
  accepted_is a e = sym (ap (λ (a : Checked). a.number) e)

-- a fault of the table is passed on
passed_on : (answer : Result ℕ AskFault) (fault : TableFault) → IsErrAnd answer (λ ask. ask ≡ InTable fault) → answer ≡ Err (InTable fault)
passed_on (Ok line) fault e = absurd e
passed_on (Err ask) fault e = ap Err e

-- some row of a table that is accepted holds a number
held : (t : Table) (n : ℕ) → (checked t).number ≡ accepted → n < number_count → any (holds n) t.rows ≡ false → ⊥
unfolding is_free
held t n e h none = true≢false (ap not (sym none) ∙ covering_all t (passed_numbers t e) n h)

some_line : (o : Option ℕ) (P : Type 0) (Q : ℕ → Type 0) → MatchOption o P Q → (P → ⊥) → IsSome o
some_line None P Q p none = absurd (none p)
some_line (Some line) P Q p none = refl

pub returns-in_err-check : goal.returns-in_err-check
returns-in_err-check c =
    rw (passed_on _ _ c.from_residual.ensures.1) (refused _ _ c.args.separator.now _ c.in_err-check.ensures)

pub returns-in_default : goal.returns-in_default
unfolding asked_answer number_of ask_refusal ask_place
returns-in_default c =
    sym (asked_short _ _ (accepted_is _ _ c.args.separator.now _ c.in_ok-check.ensures) c.in_default.ensures.cases)

pub unwrap-requires : goal.unwrap-requires
unwrap-requires c =
    let table = table_of c.args.table.now in
    let accepts = accepted_is _ table c.args.separator.now _ c.in_ok-check.ensures in
    some_line _ _ _ c.line_of.ensures (held table _ accepts c.from_be_bytes-number.type_inv)

pub returns : goal.returns
unfolding asked_answer separator_number
returns c =
    let table = table_of c.args.table.now in
    let separator = c.args.separator.now in
    let accepts = accepted_is _ table separator _ c.in_ok-check.ensures in
    let number = c.from_be_bytes-number.ensures ∙ first_four_read separator _ c.in-Some.ensures.cases.enough c.in-Some.ensures.cases.same in
    let line = MatchOption-at_some _ _ _ c.unwrap.ensures c.line_of.ensures ∙ ap (λ (n : ℕ). line_of n table.rows) number in
    rw line (sym (asked_line table separator accepts c.in-Some.ensures.cases.enough))
