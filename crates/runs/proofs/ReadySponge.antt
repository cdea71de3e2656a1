-- A sponge made ready for one element more: where the element goes or comes from, and the permutations done, for any parameters of the
-- permutation.
-- Assumes nothing.
use mathlib.Core.Path.{◌≡◌, sym, ◌∙◌}
use mathlib.Core.Bool.{true, false}
use Prim.Native.Nat.{ℕ, suc, ◌+◌, ◌<◌}
use native.Mathlib.Omega.{arith}
use borrow.Author.Tests.{eqb-true, eqb-false}
use Rattle.basics.specs.Lists.{Below}
use Rattle.basics.proofs.Cases.{by}
use Rattle.words.specs.Words.{is_absorb}
use Rattle.counters.specs.Permutations.{phase_permutations}
use Rattle.basics.specs.Figures.{rate}
use Rattle.poseidon.specs.Permutation.{Parameters}
use Rattle.poseidon.proofs.Bounds.{permutation_reduced}
use Rattle.sponge.specs.Sponge.{outer, ready_to_absorb, ready_to_squeeze}
use Rattle.sponge.specs.Sponge.{Sponge}
use Rattle.counters.specs.Positions.{in_last_block}
use Rattle.runs.proofs.Positions.{position, absorb_full, absorb_room, squeeze_full, squeeze_room}

-- a place below 8 names itself
outer_after : (at n : ℕ) → at + 1 ≡ in_last_block n → outer at + 1 ≡ in_last_block n
unfolding in_last_block
outer_after at n e = omega arith

-- d elements of the phase of a word are done, with so many permutations before that phase; the next element's place in the state is `at`
pub record Ready (F : Parameters) (word d before at : ℕ) (t : Sponge) : Type 0 where
  pub reduced : Below F.modulus t.state
  pub after : outer at + 1 ≡ in_last_block (suc d)
  pub counted : t.permutations ≡ before + phase_permutations word (suc d)

module _
    (F : Parameters)
    (pos : 0 < F.modulus)
    (word d before : ℕ)
    (s : Sponge)
    (reduced : Below F.modulus s.state)
    (counted : s.permutations ≡ before + phase_permutations word d)
  where
    pub ready_to_absorb_law : is_absorb word ≡ true → s.absorb_position ≡ position 0 d
        → Ready F word d before (ready_to_absorb F s).absorb_position (ready_to_absorb F s)
    unfolding ready_to_absorb
    ready_to_absorb_law e a =
        by (λ (t : Sponge). Ready F word d before t.absorb_position t) _ _ _
        (λ q.
        let n = absorb_full word e d (sym a ∙ eqb-true _ _ q) in
        record { reduced = permutation_reduced F pos s.state; after = outer_after 0 (suc d) n.after; counted = omega (arith, n.counted) })
        λ q.
        let n = absorb_room word e d (λ z. eqb-false _ _ q (a ∙ z)) in
        record { reduced = reduced; after = outer_after s.absorb_position (suc d) (omega (arith, n.after)); counted = omega (arith, n.counted) }

    pub ready_to_squeeze_law : is_absorb word ≡ false → s.squeeze_position ≡ position rate d
        → Ready F word d before (ready_to_squeeze F s).squeeze_position (ready_to_squeeze F s)
    unfolding ready_to_squeeze
    ready_to_squeeze_law e a =
        by (λ (t : Sponge). Ready F word d before t.squeeze_position t) _ _ _
        (λ q.
        let n = squeeze_full word e d (sym a ∙ eqb-true _ _ q) in
        record { reduced = permutation_reduced F pos s.state; after = outer_after 0 (suc d) n.after; counted = omega (arith, n.counted) })
        λ q.
        let n = squeeze_room word e d (λ z. eqb-false _ _ q (a ∙ z)) in
        record { reduced = reduced; after = outer_after s.squeeze_position (suc d) (omega (arith, n.after)); counted = omega (arith, n.counted) }
