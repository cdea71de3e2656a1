-- `sha3::sha3_256` meets its contract.
-- Assumes nothing.
use Rattle.std.proofs.Common.{◌≡◌, ◌∙◌, suc, ◌/◌, [], ◌∷◌, length, replicate, fold, refl, sym, ap, rules, arith}
use Rattle.std.proofs.lemmas.Fn.{fold_over, slice_gives, fronts}
use Rattle.std.proofs.lemmas.List.Sums.{fold-append}
use Rattle.sha3.specs.Sponge.{padded, block, absorb, squeeze, sha3}
use Rattle.sha3.proofs.Blocks.{one_more, whole_blocks}
use Rattle.sha3.proofs.Padding.{blocks_padded, last_padded}
use Rattle.sha3.proofs.sha3_256.Goals as goal

pub returns : goal.returns
unfolding sha3 absorb
returns c =
    let m = c.args.«data».now in
    let p = padded m in
    let n = length m / 136 in
    let folded : c.fold-a.result ≡ fold one_more (replicate 25 0) c.iter.result.rest.now =
    fold_over fronts (λ y. y.now) _ (λ blocks s. s ≡ fold one_more (replicate 25 0) blocks) _
    (λ blocks s x t f' earlier called.
    let now : t ≡ one_more s x.now = search rules in
    (now ∙ ap (λ r. one_more r x.now) earlier ∙ sym (fold-append one_more (replicate 25 0) blocks (x.now ∷ [])), search rules))
    _ _ _ _ (slice_gives c.iter.result) refl c.fold-a.ensures.ran in
    let absorbed : c.fold-a.result ≡ absorb p n =
    folded
    ∙ ap (fold one_more (replicate 25 0)) (c.iter.ensures.rest ∙ c.as_chunks.ensures.front)
    ∙ whole_blocks m n (omega arith) in
    let last : c.last_block.result ≡ block p n =
    c.last_block.ensures ∙ ap padded c.as_chunks.ensures.back ∙ sym (last_padded m n refl) in
    let count : length p / 136 ≡ suc n = rw (blocks_padded m) (omega arith) in
    c.squeeze.ensures ∙ ap squeeze (c.absorb.ensures ∙ (λ i. one_more (absorbed i) (last i))) ∙ ap (λ k. squeeze (absorb p k)) (sym count)
