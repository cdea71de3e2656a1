-- `keccak::permute` meets its contract.
-- Assumes nothing.
use Rattle.std.proofs.Common.{◌≡◌, ◌∙◌, ℕ, List, [], ◌∷◌, fold, refl, sym, ap, rules}
use Rattle.std.proofs.lemmas.Fn.{fold_over, slice_gives, fronts}
use Rattle.std.proofs.lemmas.List.Sums.{fold-append}
use Rattle.keccak_tables.specs.Tables.{round_constants}
use Rattle.keccak.specs.Permutation.{theta, rho, pi, chi, iota, round, rounds, permutation}
use Rattle.keccak.proofs.permute.Goals as goal

abbrev one_more : List ℕ → ℕ → List ℕ
one_more a constant = iota (chi (pi (rho (theta a)))) constant

-- the round constants in turn
in_turn : (a : List ℕ) → fold one_more a round_constants ≡ permutation a
unfolding round_constants permutation rounds round
in_turn a = refl

pub returns : goal.returns
returns c =
    let a = c.args.a in
    let folded : c.fold.result ≡ fold one_more a c.iter.result.rest.now =
    fold_over fronts (λ y. y.now) _ (λ constants s. s ≡ fold one_more a constants) _
    (λ constants s x t f' earlier called.
    let now : t ≡ one_more s x.now = search rules in
    (now ∙ ap (λ r. one_more r x.now) earlier ∙ sym (fold-append one_more a constants (x.now ∷ [])), search rules))
    _ _ _ _ (slice_gives c.iter.result) refl c.fold.ensures.ran in
    folded ∙ ap (fold one_more a) (c.iter.ensures.rest ∙ c.round_constants.ensures) ∙ in_turn a
