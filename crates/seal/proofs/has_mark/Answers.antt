-- `seal::has_mark` meets its contract.
-- Assumes nothing.
use mathlib.Core.Path.{◌≡◌, refl, ap, ◌∙◌}
use mathlib.Core.List.{List}
use Prim.Native.Nat.{ℕ}
use lib.ListN.{replicate}
use Rattle.session.specs.Record.{squeezed_all}
use Rattle.seal.specs.Seal.{is_mark}
use Rattle.seal.proofs.Calls.{squeezed_written, is_ok_law, given_number}
use Rattle.seal.proofs.has_mark.Goals as goal
use Rattle.seal.proofs.has_mark.Goals.{After-squeeze}

pub unwrap-requires : goal.unwrap-requires
unwrap-requires c = is_ok_law _ (given_number _ _ c.squeeze.ensures.0 ∙ c.requires.1)

-- what the session squeezes stands in the array
mark : (c : After-squeeze) → c.squeeze.new.output ≡ squeezed_all c.args.session.now 8
mark c = c.squeeze.ensures.1 ∙ squeezed_written c.args.session.now (replicate 8 0) 8 refl c.requires.1

pub returns : goal.returns
returns c =
    let given = c.args.given.now in
    c.is_mark.ensures ∙ ap (λ (l : List ℕ). is_mark l given) (mark (goal.at.returns c).After-squeeze)
