-- `seal::total` meets its contract.
-- Assumes nothing.
use mathlib.Core.Path.{sym, ◌∙◌}
use native.Mathlib.Omega.{arith}
use borrow.Author.Rules.{rules}
use borrow.Author.Tests.{tests}
use Rattle.std.proofs.lemmas.Iterator.{YieldsList-from_slice, YieldsList-from_map}
use Rattle.std.proofs.lemmas.Iterator.Consumers.{sum_by_from_yields_List}
use Rattle.std.proofs.lemmas.Iterator.Adapters.{at_most_from_yields_List, fits_from_length}
use Rattle.seal.proofs.Lengths.{lengths_sound, total_is_sum}
use Rattle.seal.proofs.total.Goals as goal

pub sum-requires-clause-fits : goal.sum-requires-clause-fits
sum-requires-clause-fits c =
    fits_from_length _ _ 31 _ (at_most_from_yields_List (YieldsList-from_slice c.args.lengths.now cc) (lengths_sound _ c.requires).few) c.map.ensures.closure (omega arith) (λ x r q k. search (rules, tests))

pub returns : goal.returns
returns c =
    let ns = c.args.lengths.now in
    sum_by_from_yields_List (λ n. n) ns c.map.result c.sum.result c.sum.ensures.ran
    (YieldsList-from_map _ (λ n. n) (YieldsList-from_slice ns cc) c.map.ensures.closure (λ x r q k. search rules))
    ∙ sym (total_is_sum ns)
