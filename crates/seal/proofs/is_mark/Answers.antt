-- `seal::is_mark` meets its contract.
-- Assumes nothing.
use mathlib.Core.Path.{◌≡◌, refl, sym, ap₂, ◌∙◌}
use mathlib.Core.Bool.{Bool, true, false, not}
use Prim.Native.Nat.{ℕ, ◌+◌}
use native.Mathlib.Omega.{arith}
use mir.Val.{bool_byte}
use lib.Dec.{eqb}
use lib.ListN.{length, get_or, drop}
use Rattle.std.proofs.lemmas.List.{length_push}
use Rattle.std.proofs.lemmas.Slice.Zip.{zip_turn, zip_end}
use Rattle.basics.specs.Logic.{◌and◌}
use Rattle.seal.specs.Seal.{is_mark}
use Rattle.seal.proofs.Marks.{difference_least, compared, mark_end}
use Rattle.seal.proofs.is_mark.Goals as goal

pub loop-x-init : goal.loop-x-init
unfolding ◌and◌
loop-x-init c = (omega arith, refl)

pub loop-x-preserved : goal.loop-x-preserved
loop-x-preserved c =
    let mark = c.args.mark.now in
    let given = c.args.given.now in
    let k = length c.loop-x.yielded in
    let turn = zip_turn mark given c.loop-x.yielded c.into_iter-x-iterator.result c.loop-x.x-iterator c.next.new.self _ (cc) (cc) c.loop-x.yielded_by _ c.in-Some.is c.next.ensures.steps in
    let more = length_push c.loop-x.yielded (c.in-Some.x, c.in-Some.y) in
    let one : c.from-differences.result ≡ bool_byte (not (eqb (get_or mark k 0) (get_or given k 0))) =
    c.from-differences.ensures ∙ ap₂ (λ (a b : ℕ). bool_byte (not (eqb a b))) (turn.2 0) (turn.3 0) in (
      omega (arith, c.loop-x.invariant.0, more, difference_least (not (eqb (get_or mark k 0) (get_or given k 0))), one),
      c.loop-x.invariant.1
          ∙ compared c.loop-x.differences mark given k turn.0 turn.1
          ∙ ap₂ (λ (d j : ℕ). eqb (c.loop-x.differences + d) 0 and is_mark (drop j mark) (drop j given)) (sym one) (sym more),
    )

and-done : (a b : Bool) → b ≡ true → (a and b) ≡ a
unfolding ◌and◌
and-done true b e = e
and-done false b e = refl

pub returns : goal.returns
returns c =
    let mark = c.args.mark.now in
    let given = c.args.given.now in
    let end = zip_end mark given c.loop-x.yielded c.into_iter-x-iterator.result c.loop-x.x-iterator c.next.new.self _ (cc) (cc) c.loop-x.yielded_by c.in-None.is c.next.ensures.steps in
    sym (c.loop-x.invariant.1 ∙ and-done _ _ (mark_end mark given (length c.loop-x.yielded) (omega (arith, end, c.requires.0, c.requires.1)) (omega (arith, end, c.requires.0, c.requires.1))))
