-- `seal::are_sound_lengths` meets its contract.
-- Assumes nothing.
use mathlib.Core.Path.{sym, ◌∙◌}
use mathlib.Core.Logic.{◌⊎◌}
use Prim.Native.Nat.{◌≤◌, ◌<◌}
use borrow.Author.Rules.{rules}
use borrow.Author.Tests.{tests, le-leb, lt-leb}
use Rattle.std.proofs.lemmas.Iterator.{cases_from_all, YieldsList-from_slice}
use lib.ListN.{length}
use Rattle.basics.proofs.Cases.{and_step, and_stop}
use Rattle.seal.specs.Seal.{sound_lengths}
use Rattle.seal.proofs.Lengths.{each_declarable}
use Rattle.seal.proofs.are_sound_lengths.Goals as goal

pub returns-then-is_empty : goal.returns-then-is_empty
unfolding sound_lengths
returns-then-is_empty c = let size = length c.args.lengths.now in sym (and_stop _ _ (lt-leb 1 size (search rules)))

pub returns-then-lengths-gt-MAX_BLOCKS : goal.returns-then-lengths-gt-MAX_BLOCKS
unfolding sound_lengths
returns-then-lengths-gt-MAX_BLOCKS c =
    let size = length c.args.lengths.now in
    sym (and_step _ _ (le-leb 1 size (search rules)) ∙ and_stop _ _ (lt-leb size 31 (search rules)))

pub returns : goal.returns
unfolding sound_lengths
returns c =
    let ns = c.args.lengths.now in
    let size = length ns in
    each_declarable _ ns
    (cases_from_all _ _ _ (λ n. (1 ≤ n) × (n ≤ 16777216)) (λ n. (n < 1) ⊎ (16777216 < n)) c.all.ensures.ran (YieldsList-from_slice ns cc)
    (λ x q k. search (rules, tests))
    (λ x q k. search (rules, tests)))
    ∙ sym (and_step _ _ (le-leb 1 size (search rules)) ∙ and_step _ _ (le-leb size 31 (search rules)))
