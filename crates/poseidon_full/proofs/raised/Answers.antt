-- `poseidon_full::raised` meets its contract.
-- Assumes nothing.
use Rattle.std.proofs.Common.{ℕ, ◌+◌, get_or, subst}
use Rattle.montgomery.specs.Montgomery.{Raised}
use Rattle.poseidon_full.proofs.raised.Goals as goal

pub returns : goal.returns
returns c =
    let a = c.args in
    let p = a.copies.now in
    let i = a.i in
    subst
    (λ (n : ℕ).
    Raised a.power n (get_or p i 0) (get_or p (24 + i) 0) (get_or p (48 + i) 0) (get_or p (72 + i) 0) (get_or p (96 + i) 0) (get_or p (120 + i) 0) (get_or p (144 + i) 0)
    (get_or p (168 + i) 0) (get_or p (192 + i) 0) c.power_of_any.result)
    c.wide.ensures c.power_of_any.ensures
