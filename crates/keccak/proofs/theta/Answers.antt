-- `keccak::theta` meets its contract.
-- Assumes nothing.
use Rattle.std.proofs.Common.{◌≡◌, ◌∙◌, ℕ, ◌+◌, ◌%◌, ◌<◌, get_or, ap, rules, arith}
use Rattle.keccak.specs.Permutation.{◌⊕◌, lane, rotate, parity, effect, theta, theta_lane}
use Rattle.keccak.specs.Steps.{effect_of}
use Rattle.keccak.proofs.Elements.{at_from_fn, parity_mod}
use Rattle.keccak.proofs.theta.Goals as goal

pub returns : goal.returns
unfolding theta effect
returns c =
    let a = c.args.a in
    let parity_at : (x : ℕ) → x < 5 → get_or c.from_fn-c.result x 0 ≡ parity a x =
    at_from_fn _ _ _ (λ x y f' called. search rules) c.from_fn-c.ensures.items in
    let of_parities : (x : ℕ) → x < 5 → get_or c.from_fn-d.result x 0 ≡ effect_of c.from_fn-c.result x =
    at_from_fn _ _ _ (λ x y f' called. search rules) c.from_fn-d.ensures.items in
    let parity_mod_at : (x : ℕ) → get_or c.from_fn-c.result (x % 5) 0 ≡ parity a x =
    λ x. parity_at (x % 5) (omega arith) ∙ parity_mod a x in
    let effect_at : (x : ℕ) → x < 5 → get_or c.from_fn-d.result x 0 ≡ effect a x =
    λ x below. of_parities x below ∙ (λ i. parity_mod_at (x + 4) i ⊕ rotate (parity_mod_at (x + 1) i) 1) in
    c.state.ensures (theta_lane a) (λ x y x_below y_below r called.
    let e : r ≡ lane a x y ⊕ get_or c.from_fn-d.result x 0 = search rules in
    e ∙ ap (λ d. lane a x y ⊕ d) (effect_at x x_below))
