-- What a permutation is given, and that each field's numbers and tables are that.
-- Assumes nothing.
use mathlib.Core.Path.{◌≡◌, ◌∙◌, sym, ap, refl, subst}
use mathlib.Core.Bool.{Bool, true}
use mathlib.Core.List.{List, [], ◌∷◌}
use mathlib.Core.Logic.{inl, inr}
use Prim.Native.Nat.{ℕ, ◌+◌, ◌/◌, ◌<◌, ◌≤◌}
use native.Mathlib.Nat.{mod-lt}
use native.Mathlib.Omega.{arith}
use borrow.Author.Tests.{eqb-true}
use lib.Dec.{eqb, lit<, lit≤}
use lib.ListN.{length, get_or}
use Rattle.basics.specs.Logic.{◌and◌}
use Rattle.basics.specs.Lists.{Below}
use Rattle.basics.proofs.Below.{below_larger}
use Rattle.basics.proofs.Table.{passes, every_entry}
use Rattle.field.specs.Field.{modulus, power, partial_rounds}
use Rattle.field.specs.declared.Field.{Field}
use Rattle.field.specs.declared.Field.TheVariants.{BabyBear, KoalaBear}
use Rattle.field.proofs.Moduli.{positive, small, few_rounds}
use Rattle.montgomery.specs.Montgomery.{Modulus, Power}
use Rattle.poseidon_rounds.specs.Instance.{instance_of}
use Rattle.poseidon_rounds.specs.Tables.{Diagonals, TablesOf}
use Rattle.baby_bear_tables.specs.Tables as babyBear
use Rattle.baby_bear_tables.proofs.Right as babyBearRight
use Rattle.koala_bear_tables.specs.Tables as koalaBear
use Rattle.koala_bear_tables.proofs.Right as koalaBearRight
use Rattle.poseidon_full.specs.Full.{Numbers, Setting, Near, Round, Rounds}
use Rattle.poseidon_partial.specs.Partial.{PartialRounds}
use Rattle.poseidon.specs.Permutation.{Parameters, parameters, permutation}
use Rattle.poseidon.specs.declared.Tables.{Tables}
use Rattle.poseidon.specs.Tables.{tables_of}
use Rattle.poseidon.specs.Steps.{remainders, negated_inverse, high_weight, word, first_entry, Rescaled, instance}
use Rattle.poseidon.proofs.Whole.{remainder_at, remainders_long, permuted_by}

-- numbers and tables of the parameters G, and bounds by which nothing passes 64 bits
pub record Given (G : Parameters) (m q r power n word first_entry : ℕ) (T : Tables) : Type 0 where
  pub pos : 0 < m
  pub modulus : Modulus m q r
  pub power_right : Power m power
  pub rounds : n ≤ 23
  pub word_below : word < 4294967296
  pub entry_below : first_entry < 2130706433
  pub numbers : Numbers m q r T.copies
  pub matrix_below : Below 2130706433 T.matrix
  pub pre_sparse_below : Below 2130706433 T.pre_sparse
  pub sparse_below : Below 2130706433 T.sparse
  pub addends_below : Below 2130706433 T.addends
  pub unit : ℕ
  pub factor : ℕ
  pub tables : TablesOf (instance G) m power n word first_entry unit factor T.matrix T.pre_sparse T.sparse T.first_constants T.addends

-- the code's parts make the permutation
pub permuted_given : (G : Parameters) (state : List ℕ) {m q r power n word first_entry : ℕ} {T : Tables} {s b x d f g out : List ℕ}
    → Given G m q r power n word first_entry T
    → s ≡ remainders m state
    → Rounds m q r power T.matrix T.addends T.copies 0 3 s b
    → Round Diagonals m q r power T.pre_sparse T.addends T.copies 3 4 b x
    → PartialRounds m q r power first_entry n T.sparse T.first_constants x d
    → Rescaled d word T.addends m q r f
    → Rounds m q r power T.matrix T.addends T.copies 6 10 f g
    → out ≡ remainders m g
    → out ≡ permutation G state
permuted_given G state {m} {q} {r} {power} {n} {word} {first_entry} {T} {s} {b} {x} {d} {f} {g} {out} h es hb' hx hd hf hg eo =
    let hb : Rounds m q r power T.matrix T.addends T.copies 0 3 (remainders m state) b =
    subst (λ (y : List ℕ). Rounds m q r power T.matrix T.addends T.copies 0 3 y b) es hb' in
    let setting : Setting m q r power T.matrix T.addends T.copies =
    record { modulus = h.modulus; power_right = h.power_right; numbers = h.numbers; table_below = h.matrix_below; addends_below = h.addends_below } in
    let setting' : Setting m q r power T.pre_sparse T.addends T.copies =
    record { modulus = h.modulus; power_right = h.power_right; numbers = h.numbers; table_below = h.pre_sparse_below; addends_below = h.addends_below } in
    let start : Near m (remainders m state) =
    record {
      long = remainders_long m state;
      each = λ k l. let e : get_or (remainders m state) k 0 < m = subst (λ (y : ℕ). y < m) (sym (remainder_at m state k l)) (mod-lt (get_or state k 0) h.pos) in omega arith;
    } in
    let fb = hb.right setting (lit≤ tt) (lit≤ tt) start in
    let rx = hx.right setting' (lit< tt) (lit< tt) fb.near in
    let pd = hd.right
    (record {
      modulus = h.modulus;
      power_right = h.power_right;
      rounds = h.rounds;
      entry_below = h.entry_below;
      sparse_below = h.sparse_below;
      near = record { long = rx.long; each = λ k l. (rx.each k l).near };
    }) in
    let fg = hg.right setting (lit≤ tt) (lit≤ tt) (record { long = hf.long; each = λ k l. ((hf.each k l).right h.modulus).near }) in
    eo ∙ permuted_by G state h.pos h.modulus h.word_below fb rx pd hf fg h.unit h.factor h.tables

-- copies of numbers: one test over the table
nine : ℕ → ℕ → ℕ → List ℕ
nine m q r = m ∷ q ∷ m ∷ q ∷ m ∷ q ∷ m ∷ q ∷ r ∷ []

is_copy : ℕ → ℕ → ℕ → ℕ → ℕ → Bool
is_copy m q r k x = eqb x (get_or (nine m q r) (k / 24) 0)

copies : (m q r : ℕ) (p : List ℕ) → length p ≡ 216 → passes (is_copy m q r) 0 p ≡ true → Numbers m q r p
unfolding is_copy nine
copies m q r p long e =
    let value : (k j : ℕ) → k < 216 → k / 24 ≡ j → get_or p k 0 ≡ get_or (nine m q r) j 0 =
    λ k j h z. eqb-true _ _ (every_entry (is_copy m q r) p e k (omega arith)) ∙ ap (λ (i : ℕ). get_or (nine m q r) i 0) z in
    record {
      at_m = λ k h. value k 0 (omega arith) (omega arith);
      at_q = λ k h. value (24 + k) 1 (omega arith) (omega arith);
      at_copies = λ k h.
          record {
            second_m = value (48 + k) 2 (omega arith) (omega arith);
            second_q = value (72 + k) 3 (omega arith) (omega arith);
            third_m = value (96 + k) 4 (omega arith) (omega arith);
            third_q = value (120 + k) 5 (omega arith) (omega arith);
            fourth_m = value (144 + k) 6 (omega arith) (omega arith);
            fourth_q = value (168 + k) 7 (omega arith) (omega arith);
          };
      at_r = λ k h. value (192 + k) 8 (omega arith) (omega arith);
    }

modulus_of : (f : Field) → Modulus (modulus f) (negated_inverse f) (high_weight f)
modulus_of BabyBear = record { small = lit≤ tt; inverse = record { small_m = lit< tt; small_q = lit< tt; clears = refl }; power = record { same = refl }; reduced = lit< tt }
modulus_of KoalaBear = record { small = lit≤ tt; inverse = record { small_m = lit< tt; small_q = lit< tt; clears = refl }; power = record { same = refl }; reduced = lit< tt }

numbers_of : (f : Field) → Numbers (modulus f) (negated_inverse f) (high_weight f) (tables_of f).copies
unfolding tables_of babyBear.copies koalaBear.copies passes is_copy nine ◌and◌
numbers_of BabyBear = copies (modulus BabyBear) (negated_inverse BabyBear) (high_weight BabyBear) babyBear.copies refl refl
numbers_of KoalaBear = copies (modulus KoalaBear) (negated_inverse KoalaBear) (high_weight KoalaBear) koalaBear.copies refl refl

pub given : (f : Field) → Given (parameters f) (modulus f) (negated_inverse f) (high_weight f) (power f) (partial_rounds f) (word f) (first_entry f) (tables_of f)
unfolding tables_of parameters instance_of
given BabyBear =
    record {
      pos = positive BabyBear;
      modulus = modulus_of BabyBear;
      power_right = record { which = inr (refl, lit≤ tt) };
      rounds = few_rounds BabyBear;
      word_below = lit< tt;
      entry_below = lit< tt;
      numbers = numbers_of BabyBear;
      matrix_below = below_larger (small BabyBear) babyBear.matrix babyBearRight.matrix_below;
      pre_sparse_below = below_larger (small BabyBear) babyBear.pre_sparse babyBearRight.pre_sparse_below;
      sparse_below = below_larger (small BabyBear) babyBear.sparse babyBearRight.sparse_below;
      addends_below = below_larger (small BabyBear) babyBear.addends babyBearRight.addends_below;
      unit = 943718400;
      factor = 1465352594;
      tables = babyBearRight.right;
    }
given KoalaBear =
    record {
      pos = positive KoalaBear;
      modulus = modulus_of KoalaBear;
      power_right = record { which = inl refl };
      rounds = few_rounds KoalaBear;
      word_below = lit< tt;
      entry_below = lit< tt;
      numbers = numbers_of KoalaBear;
      matrix_below = below_larger (small KoalaBear) koalaBear.matrix koalaBearRight.matrix_below;
      pre_sparse_below = below_larger (small KoalaBear) koalaBear.pre_sparse koalaBearRight.pre_sparse_below;
      sparse_below = below_larger (small KoalaBear) koalaBear.sparse koalaBearRight.sparse_below;
      addends_below = below_larger (small KoalaBear) koalaBear.addends koalaBearRight.addends_below;
      unit = 1057030144;
      factor = 414154551;
      tables = koalaBearRight.right;
    }

-- of the numbers and tables that the code has
pub given_at : (f : Field) {m q r p n w e : ℕ} {T : Tables} → m ≡ modulus f → q ≡ negated_inverse f → r ≡ high_weight f → p ≡ power f → n ≡ partial_rounds f
    → w ≡ word f → e ≡ first_entry f → T ≡ tables_of f → Given (parameters f) m q r p n w e T
given_at f {m} {q} {r} {p} {n} {w} {e} {T} em eq er ep en ew ee eT =
    subst (λ (x : ℕ). Given (parameters f) x q r p n w e T) (sym em)
    (subst (λ (x : ℕ). Given (parameters f) (modulus f) x r p n w e T) (sym eq)
    (subst (λ (x : ℕ). Given (parameters f) (modulus f) (negated_inverse f) x p n w e T) (sym er)
    (subst (λ (x : ℕ). Given (parameters f) (modulus f) (negated_inverse f) (high_weight f) x n w e T) (sym ep)
    (subst (λ (x : ℕ). Given (parameters f) (modulus f) (negated_inverse f) (high_weight f) (power f) x w e T) (sym en)
    (subst (λ (x : ℕ). Given (parameters f) (modulus f) (negated_inverse f) (high_weight f) (power f) (partial_rounds f) x e T) (sym ew)
    (subst (λ (x : ℕ). Given (parameters f) (modulus f) (negated_inverse f) (high_weight f) (power f) (partial_rounds f) (word f) x T) (sym ee)
    (subst (λ (x : Tables). Given (parameters f) (modulus f) (negated_inverse f) (high_weight f) (power f) (partial_rounds f) (word f) (first_entry f) x) (sym eT) (given f))))))))

pub two_subtractions : (f : Field) → 1431655766 ≤ modulus f
two_subtractions BabyBear = lit≤ tt
two_subtractions KoalaBear = lit≤ tt
