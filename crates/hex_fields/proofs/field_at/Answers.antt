-- `hex_fields::field_at` meets its contract.
-- Assumes nothing.
use mathlib.Core.Path.{◌≡◌, refl, ap, ap₂, ◌∙◌}
use mathlib.Core.Bool.{false}
use mathlib.Core.Logic.{◌⊎◌, inl, inr}
use Prim.Native.Nat.{ℕ, ◌+◌, ◌*◌, ◌-◌}
use native.Mathlib.Omega.{arith}
use lib.Dec.{lit<}
use lib.ListN.{get_or}
use Rattle.hex_fields.specs.Fields.{max_bytes, is_pair, pair_byte}
use Rattle.hex_fields.proofs.Reading.{rest_is, pairs_long, pair_code, pair_short, pair_end, pair_yes, read_pair, none_left, field_read, behind_end, behind_inner}
use Rattle.hex_fields.proofs.field_at.Goals as goal
use Rattle.hex_fields.proofs.field_at.Goals.{else-loop-pair-test, then-loop-pair-test+then-count-eq-MAX_BYTES, then-count-eq-MAX_BYTES-via-then-count-eq-MAX_BYTES, then-count-eq-MAX_BYTES-via-else-count-eq-MAX_BYTES+then-pair-lt48}

pub loop-pair-preserved : goal.loop-pair-preserved
loop-pair-preserved c =
    let text = c.args.text.now in
    let at = c.args.at in
    let count = c.loop-pair.count in
    let inv = c.loop-pair.invariant in
    let rest = ap (λ r. r.now) c.unwrap_or.ensures ∙ rest_is text at _ _ refl c.get.ensures.lookup in
    let long = pairs_long text at _ _ rest c.as_chunks.ensures.front c.as_chunks.ensures.front_len in
    let code = pair_code text at _ _ rest c.as_chunks.ensures.front c.loop-pair.pair-index in
    let place : at + 2 * c.loop-pair.pair-index + 0 ≡ at + 2 * count = omega arith in
    let behind : at + 2 * c.loop-pair.pair-index + 1 ≡ at + 2 * count + 1 = omega arith in
    let high = code 0 (omega arith) (lit< tt) ∙ ap (λ (k : ℕ). get_or text k 0) place in
    let low = code 1 (omega arith) (lit< tt) ∙ ap (λ (k : ℕ). get_or text k 0) behind in
    let next : at + 2 * count + 2 ≡ at + 2 * (count + 1) = omega arith in
    let read = read_pair inv.1 c.byte.result (omega (arith, inv.1.within)) (pair_yes text (at + 2 * count) (omega arith) (omega arith)) (c.byte.ensures ∙ ap₂ pair_byte high low) in
    (omega arith, rw next at read)

pub returns : goal.returns
returns c =
    let text = c.args.text.now in
    let at = c.args.at in
    let count = c.loop-pair.count in
    let inv = c.loop-pair.invariant in
    let r = inv.1 in
    let rest = ap (λ r. r.now) c.unwrap_or.ensures ∙ rest_is text at _ _ refl c.get.ensures.lookup in
    let long = pairs_long text at _ _ rest c.as_chunks.ensures.front c.as_chunks.ensures.front_len in
    let left : max_bytes - count ≡ 0 ⊎ is_pair text (at + 2 * count) ≡ false =
    elim c.loop-pair-test.branch [
      | else-loop-pair-test w ↦ inr (pair_short _ _ (omega arith))
      | then-loop-pair-test+then-count-eq-MAX_BYTES w ↦
          elim w.then-count-eq-MAX_BYTES.branch [
            | then-count-eq-MAX_BYTES-via-then-count-eq-MAX_BYTES v ↦ inl (omega arith)
            | then-count-eq-MAX_BYTES-via-else-count-eq-MAX_BYTES+then-pair-lt48 v ↦
                let place : at + 2 * c.loop-pair.pair-index + 0 ≡ at + 2 * count = omega arith in
                let high = pair_code text at _ _ rest c.as_chunks.ensures.front c.loop-pair.pair-index 0 (omega arith) (lit< tt) ∙ ap (λ (k : ℕ). get_or text k 0) place in
                inr (pair_end _ _ (omega arith) (rw (← high) v.if-pair-lt48.true))
          ]
    ] in
    let ends = c.place_behind.ensures in
    record {
      value = field_read r (none_left _ text _ left) ends;
      bytes_len =
          (r.long, r.within, rw ends (omega (arith, behind_end text (at + 2 * count))), λ h. rw ends (behind_inner text _ _ (omega arith) h));
    }
