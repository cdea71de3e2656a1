-- `sound_words::fault` meets its contract.
-- Assumes nothing.
use mathlib.Core.Path.{◌≡◌, refl, sym, ap, ◌∙◌}
use mathlib.Core.Bool.{Bool, true, false}
use Prim.Native.Nat.{ℕ}
use mir.Val.{bool_byte}
use lib.Dec.{eqb}
use Rattle.basics.specs.Logic.{when◌then◌else◌, ◌or◌, same}
use Rattle.words.specs.Words.{is_absorb, length_of}
use Rattle.sound_words.specs.Faults.{fault_of}
use Rattle.sound_words.proofs.fault.Goals as goal
use Rattle.sound_words.proofs.fault.Goals.{then-same_kind, else-same_kind}

by_tests : (a b : Bool) → bool_byte (a or b) ≡ (when a then 1 else when b then 1 else 0)
unfolding when◌then◌else◌ ◌or◌
by_tests true b = refl
by_tests false true = refl
by_tests false false = refl

at_true : (a b : Bool) → a ≡ true → (a or b) ≡ true
unfolding ◌or◌
at_true a b e = rw e refl

at_false : (a b : Bool) → a ≡ false → (a or b) ≡ b
unfolding ◌or◌
at_false a b e = rw e refl

pub returns : goal.returns
unfolding fault_of
returns c =
    let of_kind = same (is_absorb c.args.last) (is_absorb c.args.word) in
    let is_empty = eqb (length_of c.args.word) 0 in
    let is : c.if-same_kind.from ≡ (of_kind or is_empty) = elim c.if-same_kind.branch [
      | then-same_kind w ↦ w.from-is ∙ w.if-same_kind.true ∙ sym (at_true _ _ (sym w.if-same_kind.ensures))
      | else-same_kind w ↦ w.from-is ∙ ap (λ (n : ℕ). eqb n 0) w.length_of.ensures ∙ sym (at_false _ _ (sym w.if-same_kind.ensures))
    ] in
    c.from.ensures ∙ ap bool_byte is ∙ by_tests of_kind is_empty
