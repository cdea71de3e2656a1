-- Definitions that no public contract cites: what private functions of the crate take and give, and the rounds that the proofs go through.
use Rattle.std.specs.Prelude.{List, ℕ, zero, suc, ◌+◌, ◌%◌, get_or}
use Rattle.basics.specs.Lists.{tabulate}
use Rattle.field.specs.declared.Field.{Field}
use Rattle.field.specs.declared.Field.TheVariants.{BabyBear, KoalaBear}
use Rattle.montgomery.specs.Montgomery.{low_product, ReducedAny}
use Rattle.poseidon_rounds.specs.Instance.{Instance}
use Rattle.poseidon_rounds.specs.Places.{Each}
use Rattle.poseidon.specs.Permutation.{Parameters, add_constants, raise_all, multiply, round}

-- a state's remainders modulo m
unfoldable pub remainders : ℕ → List ℕ → List ℕ
remainders m s = tabulate 24 (λ i. get_or s i 0 % m)

-- the numbers of a field's modulus: -1/p modulo 2^32, 2^48 modulo p, 2^32 modulo p
abbrev pub negated_inverse : Field → ℕ
negated_inverse BabyBear = 2013265919
negated_inverse KoalaBear = 2130706431

abbrev pub high_weight : Field → ℕ
high_weight BabyBear = 268295646
high_weight KoalaBear = 134085624

abbrev pub word : Field → ℕ
word BabyBear = 268435454
word KoalaBear = 33554430

-- the matrix's first entry times the word to the field's power
abbrev pub first_entry : Field → ℕ
first_entry BabyBear = 1906550119
first_entry KoalaBear = 816271352

-- each element times the word, and what is added behind the partial rounds, reduced
abbrev pub Rescaled : List ℕ → ℕ → List ℕ → ℕ → ℕ → ℕ → List ℕ → Type 0
Rescaled x word addends m q r out = Each 24 (λ k. ReducedAny (low_product (get_or x k 0) word + get_or addends (120 + k) 0) m q r) out

-- the parameters as the theorems about rounds take them
abbrev pub instance : Parameters → Instance
instance F = record { modulus = F.modulus; power = F.power; partial_rounds = F.partial_rounds; constants = F.constants; inverses = F.inverses }

-- n rounds from round r on
unfoldable pub rounds_from : Parameters → ℕ → ℕ → List ℕ → List ℕ
rounds_from F r zero s = s
rounds_from F r (suc n) s = round F (r + n) (rounds_from F r n s)

-- a full round, whatever its number
abbrev pub full_round : Parameters → ℕ → List ℕ → List ℕ
full_round F r s = multiply F (raise_all F (add_constants F r s))

unfoldable pub full_rounds : Parameters → ℕ → ℕ → List ℕ → List ℕ
full_rounds F r zero s = s
full_rounds F r (suc n) s = full_round F (r + n) (full_rounds F r n s)
