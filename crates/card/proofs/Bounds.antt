-- How long an answer and its parts are.
-- Assumes nothing.
use mathlib.Core.Path.{◌≡◌, refl, ap, ◌∙◌}
use mathlib.Core.List.{List, [], ◌∷◌, ◌++◌}
use Prim.Native.Nat.{ℕ, zero, suc, ◌+◌, ◌*◌, ◌/◌, ◌%◌, ◌^◌, ◌≤◌, ◌<◌}
use native.Mathlib.Nat.{pow-suc, div-lt_iff_lt-mul}
use native.Mathlib.Omega.{arith}
use borrow.Author.Tests.{ltb-true, ltb-false, eqb-true}
use lib.Dec.{ltb}
use lib.ListN.{length, get_or, length-append}
use Rattle.basics.specs.Logic.{◌and◌, all}
use Rattle.basics.specs.Numbers.{accepted, not_card}
use Rattle.basics.proofs.Cases.{by, cases}
use Rattle.basics.proofs.FirstRow.{number_bound}
use Rattle.pattern.specs.Pattern.{merged_words}
use Rattle.pattern.specs.Opening.{Opening, opening, word_rows, opening_rows, opening_number}
use Rattle.pattern.proofs.StartCheck.{few_words}
use Rattle.tag.specs.TagString.{tag_string}
use Rattle.tag.proofs.Writing.{tag_string_short}
use Rattle.counters.specs.Permutations.{permutations_at, full_permutations}
use Rattle.counters.proofs.PermutationCounts.{phase_bound, sum_bound}
use Rattle.card_grammar.specs.Text.{hex, decimal}
use Rattle.card_grammar.specs.Grammar.{Reading, card, none}
use Rattle.card_grammar.specs.Card.{card_of}
use Rattle.card_grammar.proofs.Digits.{decimal_small, decimal_more}
use Rattle.card.specs.Answer.{longest_answer, card_form, ok_text, no_text, card_answer, answer, with_newline}
use Rattle.card.proofs.Laws.{answer_card, answer_none}

-- ---- numerals

pub length_hex : (bytes : List ℕ) → length (hex bytes) ≡ 2 * length bytes
unfolding hex
length_hex [] = refl
length_hex (b ∷ bs) = omega (arith, length_hex bs)

pub length_decimal_small : (n : ℕ) → n < 10 → length (decimal n) ≡ 1
length_decimal_small n h = ap length (decimal_small n h)

pub length_decimal_more : (n : ℕ) → 10 ≤ n → length (decimal n) ≡ length (decimal (n / 10)) + 1
length_decimal_more n h = ap length (decimal_more n h) ∙ length-append (decimal (n / 10)) ((n % 10 + 48) ∷ [])

-- a number below 10 ^ k has at most k digits, where k is at least 1
pub few_digits : (k n : ℕ) → n < 10 ^ suc k → length (decimal n) ≤ suc k
few_digits zero n h = let one = length_decimal_small n h in omega arith
few_digits (suc k) n h =
    cases (ltb n 10)
    (λ e. let one = length_decimal_small n (ltb-true n 10 e) in omega arith)
    λ e.
    let large = ltb-false n 10 e in
    let q : n / 10 < 10 ^ suc k = (div-lt_iff_lt-mul {k = 10} (omega arith)).1 (rw (pow-suc 10 (suc k)) at h) in
    let one_more = length_decimal_more n large in
    omega (arith, few_digits k (n / 10) q)

pub number_digits : (n : ℕ) → n ≤ 99 → length (decimal n) ≤ 2
number_digits n h = few_digits 1 n (omega arith)

pub count_digits : (n : ℕ) → n ≤ 99999999999 → length (decimal n) ≤ 11
count_digits n h = few_digits 10 n (omega arith)

-- ---- an accepted pattern

pub few_permutations : (o : Opening) → opening_number o ≡ accepted → full_permutations o.words ≤ 99999999999
unfolding full_permutations permutations_at
few_permutations o e =
    let few = few_words o e in
    let count = length (merged_words o.words) in
    let before = sum_bound (merged_words o.words) count in
    let behind = phase_bound (get_or (merged_words o.words) count 0) 0 in
    omega arith

pub small_number : (o : Opening) → opening_number o ≤ 99
unfolding opening_number opening_rows word_rows all ◌and◌
small_number o = number_bound 99 (opening_rows o) refl

-- ---- answers

pub length_ok : (string : List ℕ) (permutations : ℕ)
    → length (ok_text string permutations) ≡ 4 + 2 * length string + 1 + length (decimal permutations) + 1
unfolding ok_text
length_ok string permutations =
    let rest = decimal permutations ++ (41 ∷ []) in
    omega (arith, length-append (hex string) (32 ∷ rest), length-append (decimal permutations) (41 ∷ []), length_hex string)

pub length_no : (number : ℕ) → length (no_text number) ≡ 4 + length (decimal number) + 1
unfolding no_text
length_no number = omega (arith, length-append (decimal number) (41 ∷ []))

pub length_with_newline : (text : List ℕ) → length (with_newline text) ≡ length text + 1
unfolding with_newline
length_with_newline text = length-append text (10 ∷ [])

no_short : (number : ℕ) → number ≤ 99 → length (with_newline (no_text number)) ≤ longest_answer
no_short number h = omega (arith, length_with_newline (no_text number), length_no number, number_digits number h)

ok_short : (o : Opening) → opening_number o ≡ accepted → length (with_newline (ok_text (tag_string card_form o) (full_permutations o.words))) ≤ longest_answer
ok_short o e =
    let text = ok_text (tag_string card_form o) (full_permutations o.words) in
    let string = tag_string_short card_form o e in
    let digits = count_digits (full_permutations o.words) (few_permutations o e) in
    omega (arith, length_with_newline text, length_ok (tag_string card_form o) (full_permutations o.words))

card_answer_short : (o : Opening) → length (with_newline (card_answer o)) ≤ longest_answer
unfolding card_answer
card_answer_short o =
    by (λ (text : List ℕ). length (with_newline text) ≤ longest_answer) _ _ _
    (λ t. ok_short o (eqb-true (opening_number o) accepted t))
    λ _. no_short (opening_number o) (small_number o)

-- every answer, with its newline
pub answer_short : (line : List ℕ) → length (with_newline (answer line)) ≤ longest_answer
answer_short line = short (card_of line) refl
  where
    short : (r : Reading) → card_of line ≡ r → length (with_newline (answer line)) ≤ longest_answer
    short (card separator ws) e = rw (answer_card line separator ws e) (card_answer_short (opening ws separator))
    short none e = rw (answer_none line e) (no_short not_card (omega arith))
