-- `montgomery::power` meets its contract.
-- Assumes nothing.
use Rattle.std.proofs.Common.{ℕ, sym, subst}
use Rattle.montgomery.specs.Montgomery.{RaisedSmall}
use Rattle.montgomery.proofs.Powers.{small_other}
use Rattle.montgomery.proofs.power.Goals as goal

pub returns-then-power-eq3 : goal.returns-then-power-eq3
returns-then-power-eq3 c =
    let a = c.args in
    subst (λ (z : ℕ). RaisedSmall z a.x a.m a.q a.r c.third_power.result) (sym c.if-power-eq3.true) c.third_power.ensures

pub returns-else-power-eq3 : goal.returns-else-power-eq3
returns-else-power-eq3 c = small_other _ _ _ _ c.if-power-eq3.false c.seventh_power.ensures
