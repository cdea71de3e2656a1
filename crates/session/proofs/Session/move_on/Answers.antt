-- `session::Session::move_on` meets its contract.
-- Assumes nothing.
use mathlib.Core.Path.{ap, ap₂, ◌∙◌}
use Prim.Native.Nat.{ℕ, ◌+◌}
use Rattle.progress.specs.Place.{place_after}
use Rattle.sponge.specs.Counted.{counted}
use Rattle.session.specs.Record.{moved}
use Rattle.session.specs.Steps.{moved_on}
use Rattle.session.proofs.Session.move_on.Goals as goal

pub returns : goal.returns
unfolding moved_on moved
returns c =
    let r = c.args.self.now in
    let place = c.after-place.ensures
    ∙ ap₂ (λ (phase done : ℕ). place_after r.words r.count phase done c.args.elements) c.place.ensures.0 c.place.ensures.1 in
    ap (moved r (counted c.args.sponge (r.permutations + c.args.permutations))) place
