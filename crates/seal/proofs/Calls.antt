-- What a SQUEEZE that is accepted writes, and calls that are accepted.
-- Assumes nothing.
use mathlib.Core.Path.{◌≡◌, refl, sym, ap, ◌∙◌}
use mathlib.Core.Bool.{true}
use mathlib.Core.List.{List}
use mathlib.Core.Logic.{◌≢◌}
use Prim.Native.Nat.{ℕ, zero, suc, ◌≤◌}
use native.Mathlib.Omega.{arith}
use borrow.Author.Tests.{eq-eqb}
use lib.ListN.{length}
use Rattle.basics.specs.Logic.{all}
use Rattle.std.specs.Prelude.{Result, Ok, Err, IsOk}
use Rattle.basics.specs.Numbers.{accepted}
use Rattle.basics.specs.Answers.{number_of, answer_number}
use Rattle.basics.specs.declared.Refusal.{Refusal}
use Rattle.basics.proofs.Refused.{refusal_some}
use Rattle.basics.proofs.Cases.{if_true}
use Rattle.field.specs.Field.{is_element}
use Rattle.session.specs.Record.{squeeze_one, squeezed_all, field_in}
use Rattle.session.specs.Calls.{Answer, giving, squeeze, squeeze_buffer}
use Rattle.session.specs.Answers.{start_answer}
use Rattle.session.specs.declared.Session.{Session}
use Rattle.session.proofs.SoundRecord.{parts}
use Rattle.runs.proofs.Outcomes.{squeeze_takes}
use Rattle.runs.proofs.SqueezedElements.{squeezed_reduced}

pub squeezed_length : (n : ℕ) (r : Session) → length (squeezed_all r n) ≡ n
unfolding squeezed_all
squeezed_length zero r = refl
squeezed_length (suc n) r = ap suc (squeezed_length n (squeeze_one r))

-- into a buffer of so many places
pub squeezed_written : (r : Session) (buffer : List ℕ) (n : ℕ) → n ≡ length buffer → (squeeze r n).number ≡ accepted → squeeze_buffer r buffer ≡ squeezed_all r n
unfolding squeeze_buffer
squeezed_written r buffer n long e = rw (sym long) (if_true _ _ _ (eq-eqb _ _ e))

-- they are elements of the record's field
pub squeezed_elements_law : (r : Session) (n : ℕ) → (squeeze r n).number ≡ accepted → all (is_element (field_in r)) (squeezed_all r n) ≡ true
squeezed_elements_law r n e = squeezed_reduced n r (parts r (squeeze_takes r n e).sounds).reduced

-- ---- calls that answer with a Result

refusal_positive : (refusal : Refusal) → 1 ≤ number_of refusal
refusal_positive refusal = omega (arith, refusal_some refusal)

pub is_ok_law : {A : Type 0} (r : Result A Refusal) → answer_number r ≡ accepted → IsOk r
unfolding answer_number
is_ok_law (Ok x) e = refl
is_ok_law (Err refusal) e = absurd (omega (arith, refusal_positive refusal, e))

pub refused_law : (A : Type 0) (refusal : Refusal) → answer_number {A = A} (Err refusal) ≢ accepted
unfolding answer_number
refused_law A refusal e = omega (arith, refusal_positive refusal, e)

pub given_number : (n : ℕ) (r : Session) {a : Answer} → giving n r ≡ a → n ≡ a.number
unfolding giving
given_number n r e = ap (λ (b : Answer). b.number) e

pub given_session : (n : ℕ) (r : Session) {a : Answer} → giving n r ≡ a → r ≡ a.session
unfolding giving
given_session n r e = ap (λ (b : Answer). b.session) e

-- START
pub start_number_law : (r : Result Session Refusal) {a : Answer} → start_answer r ≡ a → answer_number r ≡ a.number
unfolding start_answer answer_number giving
start_number_law (Ok s) e = ap (λ (b : Answer). b.number) e
start_number_law (Err refusal) e = ap (λ (b : Answer). b.number) e

pub start_session_law : (r : Result Session Refusal) (s : Session) {a : Answer} → r ≡ Ok s → start_answer r ≡ a → s ≡ a.session
unfolding start_answer giving
start_session_law r s ok e = ap (λ (b : Answer). b.session) (ap start_answer (sym ok) ∙ e)
