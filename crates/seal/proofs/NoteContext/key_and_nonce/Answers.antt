-- `seal::NoteContext::key_and_nonce` meets its contract.
-- Assumes nothing.
use mathlib.Core.Path.{◌≡◌, ap, ap₂, ◌∙◌}
use mathlib.Core.List.{List, ◌++◌, append-nil}
use Prim.Native.Nat.{ℕ, ◌≤◌}
use native.Mathlib.Omega.{arith}
use borrow.Rule.Slice.PartMut.{put_mid}
use lib.ListN.{length, drop, drop_of_length-le}
use lib.Seq.{take_at, drop_at}
use Rattle.seal.proofs.NoteContext.key_and_nonce.Goals as goal

-- the second half of an array written, behind the first
halves : (front back zeros : List ℕ) → length front ≡ 8 → length zeros ≤ 8 → put_mid 8 8 (front ++ zeros) back ≡ front ++ back
halves front back zeros long short =
    ap₂ (λ (a b : List ℕ). a ++ (back ++ drop 8 b)) (take_at front zeros 8 long) (drop_at front zeros 8 long)
    ∙ ap (λ (l : List ℕ). front ++ (back ++ l)) (drop_of_length-le zeros short)
    ∙ ap (λ (l : List ℕ). front ++ l) (append-nil back)

pub returns : goal.returns
returns c =
    halves _ _ _ (c.copy_from_slice.ensures.len) (omega arith)
    ∙ ap₂ (λ (a b : List ℕ). a ++ b) c.copy_from_slice.ensures.after c.copy_from_slice-2.ensures.after
