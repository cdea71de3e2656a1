-- What a SQUEEZE writes are elements: numbers below p.
-- Assumes nothing.
use mathlib.Core.Path.{◌≡◌, refl}
use mathlib.Core.Bool.{true}
use Prim.Native.Nat.{ℕ, zero, suc}
use Rattle.basics.specs.Logic.{all}
use Rattle.basics.proofs.Cases.{and_both}
use Rattle.field.specs.Field.{is_element}
use Rattle.poseidon.specs.Permutation.{parameters}
use Rattle.sponge.proofs.Elements.{element_reduced, left_reduced}
use Rattle.field.proofs.Moduli.{positive}
use Rattle.session.specs.Record.{sponge_of, moved, squeeze_one, squeezed_one, squeezed_all, field_in, parameters_in}
use Rattle.session.specs.declared.Session.{Session}

module _ (r : Session) (reduced : all (is_element (field_in r)) r.state ≡ true) where
  one_reduced : is_element (field_in r) (squeezed_one r) ≡ true
  unfolding squeezed_one sponge_of parameters
  one_reduced = element_reduced (parameters_in r) (positive (field_in r)) (sponge_of r) reduced

  state_stays_reduced : all (is_element (field_in r)) (squeeze_one r).state ≡ true
  unfolding squeeze_one moved sponge_of parameters
  state_stays_reduced = left_reduced (parameters_in r) (positive (field_in r)) (sponge_of r) reduced

pub squeezed_reduced : (n : ℕ) (r : Session) → all (is_element (field_in r)) r.state ≡ true → all (is_element (field_in r)) (squeezed_all r n) ≡ true
unfolding squeezed_all squeeze_one moved all
squeezed_reduced zero r e = refl
squeezed_reduced (suc n) r e = and_both _ _ (one_reduced r e) (squeezed_reduced n (squeeze_one r) (state_stays_reduced r e))
