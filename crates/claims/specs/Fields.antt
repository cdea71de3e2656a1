-- The two fields of document 02: the numbers that name them and their figures, the laws that both cite, and what START and records do with a
-- field number. What the generator does with one is in `Primitives`.
use Rattle.std.specs.Prelude.{◌≡◌, refl, true, false, not, List, ◌≢◌, ℕ, suc, ◌+◌, ◌-◌, ◌*◌, ◌%◌, ◌^◌, ◌≤◌, ◌<◌, length, get_or, set, replicate}
use Rattle.std.proofs.Common.{ap, ◌∙◌, mul_comm, mod-lt, mod-eq_of_lt, arith, eq-eqb, ne_eqb, ltb-true, lt-ltb, le-ltb}
use Rattle.basics.specs.Logic.{when◌then◌else◌, ◌or◌, all}
use Rattle.basics.specs.Lists.{sum, Below}
use Rattle.basics.specs.Numbers.{accepted, record_not_sound, element_not_reduced, field_unknown}
use Rattle.basics.proofs.Cases.{if_true, if_false, or_neither, and_stop}
use Rattle.basics.proofs.Fill.{length_tabulate, tabulate_at}
use Rattle.field.specs.Field.{modulus, power, partial_rounds, is_field, field_of, is_element}
use Rattle.field.specs.declared.Field.{Field}
use Rattle.field.specs.declared.Field.TheVariants.{BabyBear, KoalaBear}
use Rattle.field.proofs.Congruence as congruence
use Rattle.field.proofs.Moduli as moduli
use Rattle.poseidon_tables.specs.Tables.{constants, inverses}
use Rattle.poseidon_tables.proofs.Entries.{inverses_rule}
use Rattle.poseidon.specs.Permutation.{Parameters, add_constants, raise_all, raise_first, raise, matrix, multiply, round, rounds, permutation, parameters, permuted}
use Rattle.poseidon_rounds.specs.PlainSums.{plain_sums}
use Rattle.poseidon.proofs.Bounds.{multiplied}
use Rattle.poseidon.proofs.PlainSums.{sums_below, round_of_plain_sums}
use Rattle.poseidon.proofs.Remainders.{round_congruent}
use Rattle.pattern.specs.Opening.{Opening, opening_number}
use Rattle.tag.specs.TagString.{is_form}
use Rattle.sponge.specs.Sponge.{ready_to_absorb, absorb_element, ready_to_squeeze, squeezed_element, squeeze_element}
use Rattle.sponge.specs.Sponge.{Sponge}
use Rattle.session.specs.Record.{wiped, opened, open_record, sponge_of, moved, absorb_one, squeeze_one, squeezed_one}
use Rattle.session.specs.Soundness.{sound}
use Rattle.session.specs.Calls.{giving, start_record, start}
use Rattle.session.specs.declared.Session.{Session}
use Rattle.session.proofs.Opening.{start_unknown}
use Rattle.session.proofs.SoundRecord.{parts}
use Rattle.runs.specs.Calls.{Call, answered, left_by}
use Rattle.runs.proofs.Opened.{number_known_both, accepted_start, start_record_law}
use Rattle.runs.proofs.Counted.{start_field}
use Rattle.runs.proofs.SamePattern.{same_left_by}
use Rattle.runs.proofs.EnclosedCalls.{not_sound_refused}

-- ---- the numbers and the figures

-- "a field number, 1 for today's and 2 for this one"
pub fields_by_number : (is_field 1 ≡ true) × (is_field 2 ≡ true) × (field_of 1 ≡ BabyBear) × (field_of 2 ≡ KoalaBear)
unfolding is_field field_of ◌or◌ when◌then◌else◌
fields_by_number = (refl, refl, refl, refl)

-- "field number neither 1 nor 2": no other number names a field.
pub no_third_field : (n : ℕ) → n ≢ 1 → n ≢ 2 → is_field n ≡ false
unfolding is_field
no_third_field n first second = or_neither _ _ (ne_eqb n 1 first) (ne_eqb n 2 second)

-- "p = 2013265921 = 15 × 2^27 + 1.", the seventh power, 21 partial rounds
pub figures_of_field_1 : (modulus BabyBear ≡ 2013265921) × (modulus BabyBear ≡ 15 * 2 ^ 27 + 1) × (power BabyBear ≡ 7) × (partial_rounds BabyBear ≡ 21)
figures_of_field_1 = (refl, moduli.p_by_power_of_two, refl, refl)

-- "2130706433 = 2^31 − 2^24 + 1"; "Field 2 uses the third power, 4 full, 23 partial and 4 full rounds"
pub figures_of_field_2 : (modulus KoalaBear ≡ 2130706433) × (modulus KoalaBear ≡ 2 ^ 31 - 2 ^ 24 + 1) × (power KoalaBear ≡ 3) × (partial_rounds KoalaBear ≡ 23)
figures_of_field_2 = (refl, moduli.p_by_powers_of_two, refl, refl)

-- "An element is a whole number from 0 to 2013265920." (document 00), and in field 2 from 0 to 2130706432: the numbers below p.
pub elements_are_below_p : (f : Field) (x : ℕ) → (is_element f x ≡ true → x < modulus f) × (x < modulus f → is_element f x ≡ true)
elements_are_below_p f x = (ltb-true x (modulus f), lt-ltb x (modulus f))

-- The parameters of each field's permutation are its own figures and tables.
pub parameters_of_each_field : (f : Field)
    → ((parameters f).modulus ≡ modulus f) × ((parameters f).power ≡ power f) × ((parameters f).partial_rounds ≡ partial_rounds f)
    × ((parameters f).constants ≡ constants f) × ((parameters f).inverses ≡ inverses f)
unfolding parameters
parameters_of_each_field f = (refl, refl, refl, refl, refl)

-- "One permutation is 29 rounds"; in field 2 "4 full, 23 partial and 4 full rounds" are 31.
pub rounds_of_each_permutation : (s : List ℕ)
    → (permutation (parameters BabyBear) s ≡ rounds (parameters BabyBear) 29 s) × (permutation (parameters KoalaBear) s ≡ rounds (parameters KoalaBear) 31 s)
unfolding permutation parameters
rounds_of_each_permutation s = (refl, refl)

-- The first four rounds and those behind the partial ones raise all elements; the partial ones, 21 or 23, element 0 alone.
pub full_and_partial_rounds : (f : Field) (r : ℕ) (s : List ℕ)
    → (r < 4 → raise (parameters f) r s ≡ raise_all (parameters f) s)
    × (4 ≤ r → r < 4 + partial_rounds f → raise (parameters f) r s ≡ raise_first (parameters f) s)
    × (4 + partial_rounds f ≤ r → raise (parameters f) r s ≡ raise_all (parameters f) s)
unfolding raise parameters
full_and_partial_rounds f r s = (
  λ l. if_true _ _ _ (lt-ltb r 4 l),
  λ h l. if_false _ _ _ (le-ltb r 4 h) ∙ if_true _ _ _ (lt-ltb r _ l),
  λ h. if_false _ _ _ (le-ltb r 4 (omega arith)) ∙ if_false _ _ _ (le-ltb r _ h),
)

-- A round adds the constants from place 24 times its number on, modulo p, and raises to the seventh or the third power.
pub sums_of_each_round : (f : Field) (r : ℕ) (s : List ℕ) (i : ℕ) → i < 24
    → get_or (add_constants (parameters f) r s) i 0 ≡ (get_or s i 0 + get_or (constants f) (24 * r + i) 0) % modulus f
unfolding add_constants parameters
sums_of_each_round f r s i h = tabulate_at 24 _ i h

pub powers_of_each_round : (f : Field) (s : List ℕ) (i : ℕ) → i < 24
    → (get_or (raise_all (parameters f) s) i 0 ≡ get_or s i 0 ^ power f % modulus f) × (raise_first (parameters f) s ≡ set s 0 (get_or s 0 0 ^ power f % modulus f))
unfolding raise_all raise_first parameters
powers_of_each_round f s i h = (tabulate_at 24 _ i h, refl)

-- "then multiplies by the matrix": each element is the sum of a row's products, modulo p.
pub products_of_each_round : (f : Field) (s : List ℕ) (i : ℕ) → i < 24
    → (length (multiply (parameters f) s) ≡ 24)
    × (get_or (multiply (parameters f) s) i 0 ≡ sum 24 (λ j. matrix (parameters f) i j * get_or s j 0) % modulus f)
unfolding multiply parameters
products_of_each_round f s i h = (length_tabulate 24 _, tabulate_at 24 _ i h)

-- "A round adds its 24 constants; raises ..; then multiplies by the matrix", and each round takes what the one before it gave.
pub rounds_in_turn : (F : Parameters) (r : ℕ) (s : List ℕ)
    → (rounds F 0 s ≡ s) × (rounds F (suc r) s ≡ multiply F (raise F r (add_constants F r (rounds F r s))))
unfolding rounds
rounds_in_turn F r s = (refl, refl)

-- ---- "Laws of sum, product, inverse and round are shown for a modulus as a parameter"

-- A sum's remainder is that of the remainders' sum,
pub sums_by_remainders : (m a b : ℕ) → (a % m + b % m) % m ≡ (a + b) % m
sums_by_remainders m a b = (congruence.add_congruent (congruence.remainder m a) (congruence.remainder m b)).same

-- and so a product's.
pub products_by_remainders : (m a b : ℕ) → (a % m) * (b % m) % m ≡ a * b % m
products_by_remainders m a b = (congruence.mul_congruent (congruence.remainder m a) (congruence.remainder m b)).same

-- What a factor does, one that is its inverse undoes.
pub inverses_undo : (m a b x : ℕ) → a * b % m ≡ 1 % m → x * a % m * b % m ≡ x % m
inverses_undo = congruence.inverse_undoes

-- A round of any parameters goes by the elements' remainders alone, and gives 24 elements below the modulus.
pub rounds_by_remainders : (F : Parameters) (r : ℕ) (s t : List ℕ)
    → ((k : ℕ) → k < 24 → get_or s k 0 % F.modulus ≡ get_or t k 0 % F.modulus) → round F r s ≡ round F r t
rounds_by_remainders F r s t h = round_congruent F r s t (λ k l. record { same = h k l })

pub rounds_give_elements : (F : Parameters) → 0 < F.modulus → (r : ℕ) (s : List ℕ)
    → (length (round F r s) ≡ 24) × Below F.modulus (round F r s)
rounds_give_elements F positive r s = let after = multiplied F positive _ in (after.long, after.reduced)

-- Document 02, P5: "Let that sum be the plain sum of its two inputs, unreduced, so below 2p for inputs below p.": what the code adds a round's constants
-- by, and that a round goes on from there as the definition's does, "since the products that follow reduce anyway".
pub sums_are_plain : (constants : List ℕ) (r : ℕ) (s : List ℕ) (i : ℕ) → i < 24 → get_or (plain_sums constants r s) i 0 ≡ get_or s i 0 + get_or constants (24 * r + i) 0
unfolding plain_sums
sums_are_plain constants r s i h = tabulate_at 24 _ i h

pub plain_sums_are_below_2p : (F : Parameters) → 0 < F.modulus → (r : ℕ) (s : List ℕ) → Below F.modulus s → Below F.modulus F.constants
    → Below (2 * F.modulus) (plain_sums F.constants r s)
plain_sums_are_below_2p = sums_below

pub rounds_of_plain_sums : (F : Parameters) (r : ℕ) (s : List ℕ) → multiply F (raise F r (plain_sums F.constants r s)) ≡ round F r s
rounds_of_plain_sums = round_of_plain_sums

-- "and each field cites them": its sums and products go by remainders, and are elements of it;
pub arithmetic_of_each_field : (f : Field) (a b : ℕ)
    → ((a % modulus f + b % modulus f) % modulus f ≡ (a + b) % modulus f) × ((a % modulus f) * (b % modulus f) % modulus f ≡ a * b % modulus f)
    × (is_element f ((a + b) % modulus f) ≡ true) × (is_element f (a * b % modulus f) ≡ true)
arithmetic_of_each_field f a b = (
  sums_by_remainders (modulus f) a b,
  products_by_remainders (modulus f) a b,
  lt-ltb _ _ (mod-lt (a + b) (moduli.positive f)),
  lt-ltb _ _ (mod-lt (a * b) (moduli.positive f)),
)

-- the inverses of each field's table undo what they are the inverses of,
pub inverses_of_each_field_undo : (f : Field) (k x : ℕ) → k < 47 → x * (k + 24) % modulus f * get_or (inverses f) k 0 % modulus f ≡ x % modulus f
inverses_of_each_field_undo f k x h =
    let product = ap (λ (n : ℕ). n % modulus f) (mul_comm (k + 24) (get_or (inverses f) k 0)) ∙ inverses_rule f k h ∙ moduli.one_is_one f in
    congruence.inverse_undoes (modulus f) (k + 24) (get_or (inverses f) k 0) x product

-- and each field's rounds go by remainders, and give 24 of its elements.
pub rounds_of_each_field : (f : Field) (r : ℕ) (s t : List ℕ)
    → ((k : ℕ) → k < 24 → get_or s k 0 % modulus f ≡ get_or t k 0 % modulus f)
    → (round (parameters f) r s ≡ round (parameters f) r t)
    × (length (round (parameters f) r s) ≡ 24) × (all (is_element f) (round (parameters f) r s) ≡ true)
unfolding parameters
rounds_of_each_field f r s t h =
    let after = rounds_give_elements (parameters f) (moduli.positive f) r s in
    (rounds_by_remainders (parameters f) r s t h, after.0, after.1)

-- ---- START, records and the bare permutation

-- "18: field number neither 1 nor 2, before 1 at START": whatever form number, words and separator there are, and the record is wiped.
pub unknown_field_at_start : (field form : ℕ) (o : Opening) → is_field field ≡ false → start field form o ≡ giving field_unknown wiped
unknown_field_at_start = start_unknown

-- With the numbers of a field and a form START's number is the one of the words and the separator, in either field and form.
pub known_field_at_start : (field form : ℕ) (o : Opening) → is_field field ≡ true → is_form form ≡ true → (start field form o).number ≡ opening_number o
known_field_at_start = number_known_both

-- "START takes a field number .. and the record keeps it": START's record has it, and whatever calls leave open has it still.
pub start_keeps_the_field : (field form : ℕ) (o : Opening) → (start field form o).number ≡ accepted → (start field form o).session.field ≡ field
start_keeps_the_field = start_field

pub calls_keep_the_field : (field form : ℕ) (o : Opening) → (start field form o).number ≡ accepted → (cs : List Call)
    → let r = left_by (start field form o).session cs in
    r.status ≡ opened → r.field ≡ field
calls_keep_the_field field form o e cs still = (same_left_by (start field form o).session cs (eq-eqb _ _ still)).field ∙ start_field field form o e

-- "Rate, capacity and tags don't change.": the records that START gives in the two fields differ in the field number alone.
pub same_tag_in_both_fields : (form : ℕ) (o : Opening) → is_form form ≡ true → opening_number o ≡ accepted
    → let r = (start 1 form o).session in
    ◌≡◌ {A = Session}
    (start 2 form o).session
    (record {
      status = r.status;
      field = 2;
      form = r.form;
      state = r.state;
      words = r.words;
      count = r.count;
      phase = r.phase;
      done = r.done;
      absorb_position = r.absorb_position;
      squeeze_position = r.squeeze_position;
      permutations = r.permutations;
    })
unfolding start_record open_record
same_tag_in_both_fields form o f e =
    rw (start_record_law 1 form o (accepted_start 1 form o fields_by_number.0 f e)) (start_record_law 2 form o (accepted_start 2 form o fields_by_number.1 f e))

-- "Wiped means every field 0.": the field number and the form number too.
pub wiped_is_0 : (wiped.status ≡ 0) × (wiped.field ≡ 0) × (wiped.form ≡ 0) × (wiped.state ≡ replicate 24 0) × (wiped.words ≡ replicate 64 0) × (wiped.count ≡ 0)
    × (wiped.phase ≡ 0) × (wiped.done ≡ 0) × (wiped.absorb_position ≡ 0) × (wiped.squeeze_position ≡ 0) × (wiped.permutations ≡ 0)
unfolding wiped
wiped_is_0 = (refl, refl, refl, refl, refl, refl, refl, refl, refl, refl, refl)

-- "p and element, in soundness, number 10, arithmetic and the generator alike, mean those of the field that the record or the call names": an
-- element is added modulo the p of the record's field, and the state permuted, where the position is 8, by the permutation of that field.
pub absorbed_in_its_field : (r : Session) (x : ℕ)
    → let f = field_of r.field in
    let permuted = permutation (parameters f) r.state in
    (r.absorb_position < 8
    → (absorb_one r x).state ≡ set r.state r.absorb_position ((get_or r.state r.absorb_position 0 + x) % modulus f))
    × (r.absorb_position ≡ 8 → (absorb_one r x).state ≡ set permuted 0 ((get_or permuted 0 0 + x) % modulus f))
unfolding absorb_one moved absorb_element ready_to_absorb sponge_of parameters
absorbed_in_its_field r x =
    let f = field_of r.field in
    let added : Sponge → List ℕ =
    λ t. set t.state (t.absorb_position % 8) ((get_or t.state (t.absorb_position % 8) 0 + x) % modulus f) in (
      λ l. ap added (if_false _ _ _ (ne_eqb r.absorb_position 8 (λ e. absurd (omega (arith, l, e)))))
          ∙ ap (λ (k : ℕ). set r.state k ((get_or r.state k 0 + x) % modulus f)) (mod-eq_of_lt l),
      λ e. ap added (if_true _ _ _ (eq-eqb r.absorb_position 8 e)),
    )

-- SQUEEZE permutes by the same, and leaves the state so.
pub squeezed_in_its_field : (r : Session)
    → let permuted = permutation (parameters (field_of r.field)) r.state in
    (r.squeeze_position < 8 → (squeezed_one r ≡ get_or r.state r.squeeze_position 0) × ((squeeze_one r).state ≡ r.state))
    × (r.squeeze_position ≡ 8 → (squeezed_one r ≡ get_or permuted 0 0) × ((squeeze_one r).state ≡ permuted))
unfolding squeezed_one squeeze_one moved squeezed_element squeeze_element ready_to_squeeze sponge_of
squeezed_in_its_field r =
    let out : Sponge → ℕ = λ t. get_or t.state (t.squeeze_position % 8) 0 in
    let left : Sponge → List ℕ = λ t. t.state in (
      λ l. let below = ne_eqb r.squeeze_position 8 (λ e. absurd (omega (arith, l, e))) in
          (ap out (if_false _ _ _ below) ∙ ap (λ (k : ℕ). get_or r.state k 0) (mod-eq_of_lt l), ap left (if_false _ _ _ below)),
      λ e. let at_8 = eq-eqb r.squeeze_position 8 e in (ap out (if_true _ _ _ at_8), ap left (if_true _ _ _ at_8)),
    )

-- "all state elements are below p": of a sound record, below the p of its field
pub sound_states_are_elements : (r : Session) → sound r ≡ true → Below (modulus (field_of r.field)) r.state
sound_states_are_elements r e = (parts r e).reduced

-- "A record with another field number isn't sound."
pub sound_records_name_a_field : (r : Session) → sound r ≡ true → is_field r.field ≡ true
sound_records_name_a_field r e = (parts r e).known

-- An open record with another number gets 8 from every call, and is left as it was.
pub other_field_numbers_get_8 : (r : Session) (c : Call) → r.status ≡ opened → is_field r.field ≡ false → answered r c ≡ giving record_not_sound r
unfolding sound
other_field_numbers_get_8 r c opens e = not_sound_refused r c (eq-eqb _ _ opens) (and_stop _ _ e)

-- The bare permutation: "18 .. before 10 .., which gives its input back", whatever the state; then 10; and else the field's permutation.
pub permutation_by_field : (field : ℕ) (s : List ℕ)
    → (is_field field ≡ false → permuted field s ≡ record { number = field_unknown; state = s })
    × (is_field field ≡ true → all (is_element (field_of field)) s ≡ false → permuted field s ≡ record { number = element_not_reduced; state = s })
    × (is_field field ≡ true → all (is_element (field_of field)) s ≡ true → permuted field s ≡ record { number = accepted; state = permutation (parameters (field_of field)) s })
unfolding permuted
permutation_by_field field s = (
  λ e. if_true _ _ _ (ap not e),
  λ e b. if_false _ _ _ (ap not e) ∙ if_true _ _ _ (ap not b),
  λ e b. if_false _ _ _ (ap not e) ∙ if_false _ _ _ (ap not b),
)

-- 2013265921, which is p in field 1, is an element in field 2 and none in field 1.
pub element_of_field_2_alone : (is_element (field_of 1) 2013265921 ≡ false) × (is_element (field_of 2) 2013265921 ≡ true)
unfolding field_of when◌then◌else◌
element_of_field_2_alone = (refl, refl)
