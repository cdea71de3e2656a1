-- `montgomery::power_of_any` meets its contract.
-- Assumes nothing.
use Rattle.std.proofs.Common.{ℕ, sym, subst}
use Rattle.montgomery.specs.Montgomery.{Raised}
use Rattle.montgomery.proofs.Powers.{any_third, any_other}
use Rattle.montgomery.proofs.power_of_any.Goals as goal

pub returns-then-power-eq3 : goal.returns-then-power-eq3
returns-then-power-eq3 c =
    let a = c.args in
    subst (λ (z : ℕ). Raised z a.x a.m a.q a.m2 a.q2 a.m3 a.q3 a.m4 a.q4 a.r c.third_power_of_any.result) (sym c.if-power-eq3.true)
    (any_third a.x a.m a.q a.m2 a.q2 a.r a.m3 a.q3 a.m4 a.q4 c.third_power_of_any.ensures)

pub returns-else-power-eq3 : goal.returns-else-power-eq3
returns-else-power-eq3 c = any_other _ _ _ _ _ _ _ _ _ _ c.if-power-eq3.false c.seventh_power_of_any.ensures
