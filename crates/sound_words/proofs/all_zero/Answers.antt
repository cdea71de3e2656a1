-- `sound_words::all_zero` meets its contract.
-- Assumes nothing.
use mathlib.Core.Path.{◌≡◌, refl, ap, ◌∙◌}
use mathlib.Core.Bool.{Bool, true, false}
use mathlib.Core.List.{List, [], ◌∷◌}
use Prim.Native.Nat.{ℕ}
use Rattle.std.proofs.Common.{◌&&◌, eqb, rules, tests}
use Rattle.std.specs.List.{list_all}
use Rattle.std.proofs.lemmas.Iterator.{YieldsList-from_slice}
use Rattle.std.proofs.lemmas.Iterator.Search.{all_from_yields_List}
use Rattle.basics.specs.Logic.{◌and◌, all}
use Rattle.sound_words.proofs.all_zero.Goals as goal

-- both definitions of what all are
both : (a b : Bool) → (a && b) ≡ (a and b)
unfolding ◌and◌
both true b = refl
both false b = refl

same_all : (test : ℕ → Bool) (ws : List ℕ) → list_all test ws ≡ all test ws
unfolding all
same_all test [] = refl
same_all test (w ∷ ws) = ap (λ b. test w && b) (same_all test ws) ∙ both (test w) (all test ws)

pub returns : goal.returns
returns c =
    let words = c.args.words.now in
    all_from_yields_List (λ w. eqb w 0) _ _ _ c.all.ensures.ran (YieldsList-from_slice words cc) (λ x b q k. search (rules, tests))
    ∙ same_all (λ w. eqb w 0) words
