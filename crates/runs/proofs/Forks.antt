-- What a list of calls does after another is what it does to the record that the other left: a copied record's later calls depend on that
-- record alone.
-- Assumes nothing.
use mathlib.Core.Path.{◌≡◌, refl, sym, ap, ◌∙◌}
use mathlib.Core.List.{List, [], ◌∷◌, ◌++◌, append_assoc}
use Prim.Native.Nat.{ℕ}
use Rattle.session.specs.declared.Session.{Session}
use Rattle.runs.specs.Calls.{Call, left, left_by, absorbed_in, absorbed, squeezed_in, squeezed}

pub left_by_append : (r : Session) (cs ds : List Call) → left_by r (cs ++ ds) ≡ left_by (left_by r cs) ds
unfolding left_by
left_by_append r [] ds = refl
left_by_append r (c ∷ cs) ds = left_by_append (left r c) cs ds

pub absorbed_append : (r : Session) (cs ds : List Call) → absorbed r (cs ++ ds) ≡ absorbed r cs ++ absorbed (left_by r cs) ds
unfolding left_by absorbed
absorbed_append r [] ds = refl
absorbed_append r (c ∷ cs) ds =
    ap (λ (xs : List ℕ). absorbed_in r c ++ xs) (absorbed_append (left r c) cs ds) ∙ sym (append_assoc (absorbed_in r c) _ _)

pub squeezed_append : (r : Session) (cs ds : List Call) → squeezed r (cs ++ ds) ≡ squeezed r cs ++ squeezed (left_by r cs) ds
unfolding left_by squeezed
squeezed_append r [] ds = refl
squeezed_append r (c ∷ cs) ds =
    ap (λ (xs : List ℕ). squeezed_in r c ++ xs) (squeezed_append (left r c) cs ds) ∙ sym (append_assoc (squeezed_in r c) _ _)
