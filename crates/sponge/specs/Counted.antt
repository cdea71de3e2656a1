-- The sponge that code keeps, and a count of permutations.
use Rattle.std.specs.Prelude.{ℕ}
use Rattle.sponge.specs.Sponge.{Sponge, sponge}
use Rattle.sponge.specs.declared.SpongeState.{SpongeState}

-- a state and its positions, with so many permutations counted
abbrev pub counted : SpongeState → ℕ → Sponge
counted s permutations = sponge s.state s.absorb_position s.squeeze_position permutations
