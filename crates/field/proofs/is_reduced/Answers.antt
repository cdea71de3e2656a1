-- `field::is_reduced` meets its contract: the test of each number is that it is below the modulus.
-- Assumes nothing.
use mathlib.Core.Path.{◌≡◌, ◌∙◌, ap, refl}
use mathlib.Core.Bool.{Bool, true, false, ◌&&◌}
use mathlib.Core.List.{List, [], ◌∷◌}
use Prim.Native.Nat.{ℕ}
use Rattle.std.proofs.Common.{rules, tests}
use Rattle.std.specs.List.{list_all}
use Rattle.std.proofs.lemmas.Iterator.{YieldsList-from_slice}
use Rattle.std.proofs.lemmas.Iterator.Search.{all_from_yields_List}
use Rattle.basics.specs.Logic.{all, ◌and◌}
use Rattle.basics.specs.Lists.{is_below}
use Rattle.field.proofs.is_reduced.Goals as goal

both : (b : Bool) {r s : Bool} → r ≡ s → (b && r) ≡ b and s
unfolding ◌and◌
both true e = e
both false e = refl

-- the library's word for the same
all_is : (test : ℕ → Bool) (xs : List ℕ) → list_all test xs ≡ all test xs
unfolding all ◌and◌
all_is test [] = refl
all_is test (x ∷ xs) = both (test x) (all_is test xs)

pub returns : goal.returns
returns c =
    all_from_yields_List (is_below c.modulus-p.result) _ _ _ c.all.ensures.ran (YieldsList-from_slice c.args.elements.now cc) (λ x b q k. search (rules, tests))
    ∙ all_is _ _ ∙ ap (λ m. all (is_below m) c.args.elements.now) c.modulus-p.ensures
