-- The sponge of SAFE (source 001, Algorithm 2), element by element, as document 01 fixes it under "Session steps" and "Tags". F are the
-- parameters of the permutation.
use Rattle.std.specs.Prelude.{List, [], ◌∷◌, ℕ, zero, suc, ◌+◌, ◌%◌, eqb, get_or, set}
use Rattle.basics.specs.Logic.{when◌then◌else◌}
use Rattle.basics.specs.Figures.{rate}
use Rattle.poseidon.specs.Permutation.{Parameters, permutation}

-- the state, both positions, and a count of permutations
pub record Sponge : Type 0 where
  pub state : List ℕ
  pub absorb_position : ℕ
  pub squeeze_position : ℕ
  pub permutations : ℕ

-- a sponge of its parts: the state, the absorb and the squeeze position, and how many permutations are counted
abbrev pub sponge : List ℕ → ℕ → ℕ → ℕ → Sponge
sponge state absorb squeeze permutations =
    record { state = state; absorb_position = absorb; squeeze_position = squeeze; permutations = permutations }

-- the place in the state that a position names. Positions are 0 to 8, and 8 is gone to 0 before; the remainder keeps every other number off
-- the inner elements.
abbrev pub outer : ℕ → ℕ
outer position = position % rate

-- "If that is 8, it permutes and goes to 0 first."
unfoldable pub ready_to_absorb : Parameters → Sponge → Sponge
ready_to_absorb F s =
    when eqb s.absorb_position rate then sponge (permutation F s.state) 0 s.squeeze_position (s.permutations + 1) else s

-- "ABSORB adds each element at the absorb position.", and moves that on; "A call of at least one element then sets the squeeze position to
-- 8": with every element, so that it is 8 after the last.
unfoldable pub absorb_element : Parameters → Sponge → ℕ → Sponge
absorb_element F s x =
    let t = ready_to_absorb F s in
    let at = outer t.absorb_position in
    sponge (set t.state at ((get_or t.state at 0 + x) % F.modulus)) (at + 1) rate t.permutations

-- "If that is 8, it first permutes and sets both positions to 0. Squeezing does not otherwise move the absorb position"
unfoldable pub ready_to_squeeze : Parameters → Sponge → Sponge
ready_to_squeeze F s =
    when eqb s.squeeze_position rate then sponge (permutation F s.state) 0 0 (s.permutations + 1) else s

-- "SQUEEZE copies from the squeeze position.": the element that comes out
unfoldable pub squeezed_element : Parameters → Sponge → ℕ
squeezed_element F s = let t = ready_to_squeeze F s in get_or t.state (outer t.squeeze_position) 0

-- the sponge afterwards, with the squeeze position moved on
unfoldable pub squeeze_element : Parameters → Sponge → Sponge
squeeze_element F s =
    let t = ready_to_squeeze F s in
    sponge t.state t.absorb_position (outer t.squeeze_position + 1) t.permutations

-- elements absorbed one after the other
unfoldable pub absorb_elements : Parameters → Sponge → List ℕ → Sponge
absorb_elements F s [] = s
absorb_elements F s (x ∷ xs) = absorb_elements F (absorb_element F s x) xs

-- n elements squeezed one after the other: the sponge afterwards
unfoldable pub squeeze_elements : Parameters → Sponge → ℕ → Sponge
squeeze_elements F s zero = s
squeeze_elements F s (suc n) = squeeze_elements F (squeeze_element F s) n

-- and the elements that come out, in order
unfoldable pub squeezed_elements : Parameters → Sponge → ℕ → List ℕ
squeezed_elements F s zero = []
squeezed_elements F s (suc n) = squeezed_element F s ∷ squeezed_elements F (squeeze_element F s) n
