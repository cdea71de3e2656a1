-- `sha3::add_block` meets its contract.
-- Assumes nothing.
use Rattle.std.proofs.Common.{◌≡◌, ℕ, ◌<◌, get_or, rules}
use Rattle.keccak.proofs.Elements.{at_from_fn}
use Rattle.sha3.specs.Sponge.{add_block, added_lane}
use Rattle.sha3.proofs.Lanes.{by_each}
use Rattle.sha3.proofs.add_block.Goals as goal

pub returns : goal.returns
unfolding add_block
returns c =
    let each : (i : ℕ) → i < 25 → get_or c.from_fn.result i 0 ≡ added_lane c.args.a c.args.block.now i =
    at_from_fn _ _ _ (λ i y f' called. search rules) c.from_fn.ensures.items in
    by_each 25 _ c.from_fn.ensures.items.long each
