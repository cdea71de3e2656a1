-- `seal::pass_blocks` meets its contract.
-- Assumes nothing.
use mathlib.Core.Path.{◌≡◌, sym, ◌∙◌}
use Prim.Native.Nat.{◌+◌, ◌≤◌}
use native.Mathlib.Omega.{arith}
use lib.ListN.{length, get_or, drop, length-drop}
use lib.Seq.{length-take-le}
use Rattle.seal.proofs.Passes.{span, rest, pass_room, pass_asked, pass_step_law, pass_end, pass_last}
use borrow.Author.Rules.{rules}
use Rattle.seal.proofs.pass_blocks.Goals as goal

pub slice_bounds-pass_block-end : goal.slice_bounds-pass_block-end
slice_bounds-pass_block-end g c =
    let fits = pass_room g.P.Pass.given g.P.Pass.after g.P.Pass.Asks c.loop-n.invariant c.loop-n-test.true in
    let room : c.loop-n.at + get_or c.args.lengths.now c.loop-n.n-index 0 ≤ length c.args.text.now = omega (arith, fits, c.requires.0) in
    search rules

pub slice_bounds-pass_block-end-in-loop-n : goal.slice_bounds-pass_block-end-in-loop-n
slice_bounds-pass_block-end-in-loop-n g c =
    let fits = pass_room g.P.Pass.given g.P.Pass.after g.P.Pass.Asks c.loop-n.invariant c.loop-n-test.true in
    let room : c.loop-n.at + get_or c.args.lengths.now c.loop-n.n-index 0 ≤ length c.loop-n.out = omega (arith, fits, c.loop-n.invariant.long) in
    search rules

pub pass_block-requires : goal.pass_block-requires
pass_block-requires g c =
    let inv = c.loop-n.invariant in
    let lengths = c.args.lengths.now in
    let text = c.args.text.now in
    let at = c.loop-n.at in
    let n = get_or lengths c.loop-n.n-index 0 in
    let fits = pass_room g.P.Pass.given g.P.Pass.after g.P.Pass.Asks inv c.loop-n-test.true in
    rw (span at n)
    (record {
      long = length-take-le n (drop at text) (omega (arith, length-drop at text, fits, c.requires.0))
          ∙ sym (length-take-le n (drop at c.loop-n.out) (omega (arith, length-drop at c.loop-n.out, fits, inv.long)));
      asked = (rest lengths text (c.loop-n.n-index + 1) (at + n), pass_asked g.P.Pass.given g.P.Pass.after g.P.Pass.Asks inv c.loop-n-test.true);
    })

pub loop-n-preserved : goal.loop-n-preserved
loop-n-preserved g c =
    let inv = c.loop-n.invariant in
    let h = c.loop-n-test.true in
    let lengths = c.args.lengths.now in
    let at = c.loop-n.at in
    let n = get_or lengths c.loop-n.n-index 0 in
    let fits = pass_room g.P.Pass.given g.P.Pass.after g.P.Pass.Asks inv h in
    let span = span at n in
    let long : length c.pass_block.new.out ≡ n =
    c.pass_block.auto.out ∙ rw span (length-take-le n (drop at c.loop-n.out) (omega (arith, length-drop at c.loop-n.out, fits, inv.long))) in
    rw span
    (pass_step_law g.P.Pass.given g.P.Pass.after g.P.Pass.Asks inv h c.pass_block.new.out c.pass_block.new.session long
    (rw span at c.pass_block.ensures.gives)
    (rw span at c.pass_block.ensures.leaves)
    (rw span at c.pass_block.ensures.asks (rest lengths c.args.text.now (c.loop-n.n-index + 1) (at + n)) (pass_asked g.P.Pass.given g.P.Pass.after g.P.Pass.Asks inv h)))

pub returns : goal.returns
returns g c =
    let inv = c.loop-n.invariant in
    let h : length c.args.lengths.now ≤ c.loop-n.n-index = search rules in (
      pass_last g.P.Pass.given g.P.Pass.after g.P.Pass.Asks inv h (g.met.P.Pass.after_none c.loop-n.session),
      pass_end g.P.Pass.given g.P.Pass.after g.P.Pass.Asks inv h (g.met.P.Pass.given_none c.loop-n.session),
    )
