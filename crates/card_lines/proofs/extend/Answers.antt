-- `card_lines::extend` meets its contract.
-- Assumes nothing.
use mathlib.Core.Path.{◌≡◌, ap₂, ◌∙◌}
use mathlib.Core.List.{List}
use Prim.Native.Nat.{ℕ, ◌+◌, ◌-◌}
use lib.ListN.{length, take, length-take}
use Rattle.basics.specs.Lists.{placed}
use Rattle.card_lines.proofs.HeldLine.{within_places, within_length}
use borrow.Author.Rules.{rules}
use Rattle.card_lines.proofs.extend.Goals as goal

pub overflow_add-result : goal.overflow_add-result
overflow_add-result c =
    let line = c.args.line.now in
    let long : length line ≡ 2049 = search rules in
    let start = c.within-start.ensures in
    let count = c.copy.ensures.0 in
    let short = length-take (length line - c.within-start.result) c.args.bytes.now in
    search rules

pub returns : goal.returns
returns c =
    let args = c.args in
    let line = args.line.now in
    let bytes = args.bytes.now in
    let long : length line ≡ 2049 = search rules in
    let start = c.within-start.ensures in
    let copied : ℕ → ℕ → List ℕ = λ n at. take (n - at) bytes in (
      ap₂ (λ (a b : ℕ). a + b) start (c.copy.ensures.0 ∙ ap₂ (λ (n at : ℕ). length (copied n at)) long start) ∙ within_length args.held bytes,
      c.copy.ensures.1 ∙ ap₂ (λ (n at : ℕ). placed line at (copied n at)) long start ∙ within_places line args.held bytes,
    )
