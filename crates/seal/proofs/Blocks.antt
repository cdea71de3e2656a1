-- A block and its result have one length.
-- Assumes nothing.
use mathlib.Core.Path.{◌≡◌, sym, ◌∙◌}
use mathlib.Core.List.{List}
use Prim.Native.Nat.{ℕ}
use lib.ListN.{length}
use Rattle.field.specs.declared.Field.{Field}
use Rattle.session.specs.declared.Session.{Session}
use Rattle.seal.specs.Seal.{keystream, plus, minus}
use Rattle.seal.proofs.Overwrite.{zip_length}
use Rattle.seal.proofs.Calls.{squeezed_length}

module _ (r : Session) (block : List ℕ) where
  pub plus_length : (f : Field) → length (plus f block (keystream r block)) ≡ length block
  unfolding plus
  plus_length f = zip_length _ block (keystream r block) (sym (squeezed_length (length block) r)) ∙ squeezed_length (length block) r

  pub minus_length : (f : Field) → length (minus f block (keystream r block)) ≡ length block
  unfolding minus
  minus_length f = zip_length _ block (keystream r block) (sym (squeezed_length (length block) r)) ∙ squeezed_length (length block) r
