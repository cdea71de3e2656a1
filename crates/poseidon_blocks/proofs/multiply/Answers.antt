-- `poseidon_blocks::multiply` meets its contract.
-- Assumes nothing.
use Rattle.std.proofs.Common.{◌≡◌, ℕ, ◌+◌, ◌*◌, ◌%◌, get_or, refl, subst, arith}
use Rattle.poseidon_blocks.specs.Blocks.{MatrixRow}
use Rattle.poseidon_blocks.proofs.Blocks.{halves_start, halves_step, halves_end, at_first_rows, at_last_rows}
use Rattle.poseidon_blocks.proofs.multiply.Goals as goal

pub loop-i-init : goal.loop-i-init
loop-i-init c = halves_start refl

pub loop-i-preserved : goal.loop-i-preserved
loop-i-preserved c =
    let a = c.args in
    let l = c.loop-i in
    let first = c.half_twice-first.ensures in
    let last = c.half_twice-last.ensures in
    let sums = c.sums_of_halves-sums.ensures in
    let two = c.two_rows-two.ensures in
    let place : 24 * (a.addends_row % 11) + 12 + l.i ≡ 24 * (a.addends_row % 11) + (12 + l.i) = omega arith in
    halves_step _ _ l.invariant (omega arith) (at_first_rows a.table.now a.x.now _ _ _ a.m first last sums (omega arith) two.at_first)
    (subst (λ (k : ℕ). MatrixRow a.table.now a.x.now (get_or a.addends.now k 0) a.m a.q a.r (12 + l.i) c.two_rows-two.result.last) place
    (at_last_rows a.table.now a.x.now _ _ _ a.m first last sums (omega arith) two.at_last))

pub returns : goal.returns
returns c = halves_end c.loop-i.invariant (omega arith)
