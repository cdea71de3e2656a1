-- `sha3::squeeze` meets its contract.
-- Assumes nothing.
use Rattle.std.proofs.Common.{◌≡◌, ◌∙◌, ℕ, ◌/◌, ◌%◌, ◌<◌, get_or, rules, arith}
use Rattle.std.specs.Int.{w64, to_le_bytes}
use Rattle.keccak.proofs.Elements.{at_from_fn}
use Rattle.sha3.specs.Sponge.{byte_of, squeeze}
use Rattle.sha3.proofs.Lanes.{by_each, as_written}
use Rattle.sha3.proofs.squeeze.Goals as goal

pub returns : goal.returns
unfolding squeeze byte_of
returns c =
    let a = c.args.a in
    let each : (i : ℕ) → i < 32 → get_or c.from_fn.result i 0 ≡ get_or (to_le_bytes w64 (get_or a (i / 8) 0)) (i % 8) 0 =
    at_from_fn _ _ _ (λ i y f' called. search rules) c.from_fn.ensures.items in
    by_each 32 _ c.from_fn.ensures.items.long (λ i below. each i below ∙ as_written (get_or a (i / 8) 0) (i % 8) (omega arith))
