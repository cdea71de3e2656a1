-- The buffer that a SQUEEZE leaves, by its number.
-- Assumes nothing.
use mathlib.Core.Path.{◌≡◌}
use mathlib.Core.Bool.{false}
use mathlib.Core.List.{List}
use mathlib.Core.Logic.{◌≢◌}
use Prim.Native.Nat.{ℕ}
use borrow.Author.Tests.{eq-eqb, ne_eqb}
use lib.ListN.{length}
use Rattle.basics.specs.Numbers.{accepted}
use Rattle.basics.specs.Refusals.{first_number}
use Rattle.basics.proofs.Cases.{if_true, if_false}
use Rattle.session.specs.Record.{squeezed_all}
use Rattle.session.specs.Calls.{giving, call_rows, answer_of, squeeze, squeeze_buffer}
use Rattle.session.specs.declared.Session.{Session}

module _ (r : Session) (buffer : List ℕ) where
  pub buffer_left : first_number (call_rows false (length buffer) r) ≢ accepted → squeeze_buffer r buffer ≡ buffer
  unfolding squeeze_buffer squeeze answer_of giving
  buffer_left z = if_false _ _ _ (ne_eqb _ _ z)

  pub buffer_written : first_number (call_rows false (length buffer) r) ≡ accepted → squeeze_buffer r buffer ≡ squeezed_all r (length buffer)
  unfolding squeeze_buffer squeeze answer_of giving
  buffer_written e = if_true _ _ _ (eq-eqb _ _ e)
