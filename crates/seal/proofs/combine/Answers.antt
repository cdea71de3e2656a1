-- `seal::combine` meets its contract.
-- Assumes nothing.
use mathlib.Core.Path.{refl, sym, ap, ◌∙◌}
use Prim.Native.Nat.{◌<◌}
use lib.ListN.{length, get_or, length-set}
use Rattle.seal.proofs.Overwrite.{over_begin, over_at, over_step, zip_length, zip_at}
use borrow.Author.Rules.{rules}
use Rattle.seal.proofs.combine.Goals as goal

pub loop-i-init : goal.loop-i-init
loop-i-init g c = (refl, λ h e. over_begin _ _ (zip_length h _ _ c.requires.long))

pub loop-i-preserved : goal.loop-i-preserved
loop-i-preserved g c =
    let block = c.args.block.now in
    let entry = c.args.squeezed.now in
    let i = c.loop-i.i in
    let fits : i < length entry = search rules in (
      length-set c.loop-i.squeezed i c.f.result ∙ c.loop-i.invariant.0,
      λ h e.
          let inv = c.loop-i.invariant.1 h e in
          over_step inv fits c.f.result
          (e _ _ _ c.f.ensures
          ∙ ap (h (get_or block i 0)) (over_at inv fits)
          ∙ sym (zip_at h block entry c.requires.long i fits)),
    )
