-- The third demand, as one theorem of every two finished sessions of one field and one form. A `Run` is a session that START opened, with its whole list of calls,
-- refused ones included, that ends in an accepted FINISH (`runs/specs/Runs.antt`).
use Rattle.std.specs.Prelude.{◌≡◌, ◌↔◌, length}
use Rattle.runs.specs.Runs.{Run, tag_of, pattern_of, absorbed_of, squeezed_of, blocks_of, permutations_of}
use Rattle.runs.proofs.Compared.{demand_3}

-- "Two sessions are compared only inside one field"; "Among form 2 sessions of one field, tag strings tell patterns and separators whatever the
-- lengths. Nothing is said between the forms." (document 02): separators of equal length are asked for in form 1 alone.
-- "Let START open two sessions, with separators of equal length in bytes .. Then for every two such lists the two tag strings are equal
-- exactly when merged patterns and separators are both equal. Where they are, the two lists of blocks are equal exactly when the same
-- elements were absorbed in the same order; and where the lists of blocks are equal too, the two sessions squeeze the same elements in the
-- same order with the same number of permutations, whichever calls their lists hold."
pub third_demand : (a b : Run) → a.field ≡ b.field → a.form ≡ b.form
    → (a.form ≡ 1 → length a.opening.separator ≡ length b.opening.separator)
    → ((tag_of a ≡ tag_of b) ↔ ((pattern_of a ≡ pattern_of b) × (a.opening.separator ≡ b.opening.separator)))
    × (tag_of a ≡ tag_of b
    → ((blocks_of a ≡ blocks_of b) ↔ (absorbed_of a ≡ absorbed_of b))
    × (blocks_of a ≡ blocks_of b → (squeezed_of a ≡ squeezed_of b) × (permutations_of a ≡ permutations_of b)))
third_demand a b f g h =
    let d = demand_3 a b f g h in
    (d.0, λ e. ((d.1 e).0, λ q. (d.1 e).1 q))
