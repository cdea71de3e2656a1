-- `sha3::lane` meets its contract.
-- Assumes nothing.
use Rattle.std.proofs.Common.{◌≡◌, ◌∙◌, ◌*◌, ◌/◌, ◌≤◌, [], length, get_or, take, drop, sym, ap, arith, rules}
use Rattle.std.specs.Int.{w64, from_le_bytes}
use Rattle.sha3.proofs.Lanes.{block_lane, capacity_lane, part_at}
use Rattle.sha3.proofs.lane.Goals as goal

pub returns-in-Some : goal.returns-in-Some
returns-in-Some c =
    let block = c.args.block.now in
    let i = c.args.i in
    let bytes : c.in-Some.bytes.now ≡ get_or c.as_chunks.result.0.now i [] = search rules in
    let part : c.in-Some.bytes.now ≡ take 8 (drop (8 * i) block) =
    bytes
    ∙ ap (λ lanes. get_or lanes i []) c.as_chunks.ensures.front
    ∙ part_at block (length block / 8) i (omega (arith, c.as_chunks.ensures.front_len, c.in-Some.ensures.lookup.3.0)) in
    c.from_le_bytes.ensures ∙ ap (from_le_bytes w64) part ∙ block_lane block i

pub returns-in-None : goal.returns-in-None
returns-in-None c =
    let behind : length c.args.block.now ≤ 8 * c.args.i = omega (arith, c.as_chunks.ensures.front_len, c.in-None.ensures.lookup.3) in
    sym (capacity_lane c.args.block.now c.args.i behind)
