-- Definitions that no public contract cites: what private functions of the crate take and give.
use Rattle.std.specs.Prelude.{ℕ, ◌+◌}
use Rattle.basics.specs.Logic.{when◌then◌else◌}
use Rattle.progress.specs.Place.{place_after}
use Rattle.sponge.specs.Sponge.{Sponge, sponge}
use Rattle.session.specs.Record.{wiped, moved}
use Rattle.session.specs.Calls.{Answer, giving, wipes}
use Rattle.session.specs.declared.Session.{Session}

-- the answer to a call that is turned away
unfoldable pub refused_with : ℕ → Session → Answer
refused_with number r = giving number (when wipes number then wiped else r)

-- the record with what a call made of its sponge, n elements further on in its pattern
unfoldable pub moved_on : Session → Sponge → ℕ → Session
moved_on r s n =
    moved r (sponge s.state s.absorb_position s.squeeze_position (r.permutations + s.permutations))
    (place_after r.words r.count r.phase r.done n)
