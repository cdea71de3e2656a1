-- Who owns which separators. `table_of`, `checked` and `asked` are what the contracts of `owners` cite; a table is accepted where `checked` answers
-- with number 0. Rows are counted from 1: `row t k` is row k, and `row_count t` the last one's number, a row cut short included.
use Rattle.std.specs.Prelude.{◌≡◌, refl, true, false, List, [], ◌∷◌, ◌++◌, map, ◌≢◌, ◌↔◌, ℕ, zero, suc, ◌+◌, ◌-◌, ◌*◌, ◌≤◌, ◌<◌, length}
use Rattle.std.proofs.Common.{ap, ◌∙◌, zero-add, le_trans, not-suc-le-zero, leb-true, le-leb, eq-eqb, ne_eqb, lit≤}
use Rattle.basics.specs.Logic.{when◌then◌else◌, ◌and◌, ◌or◌, all, any}
use Rattle.basics.specs.Lists.{Below}
use Rattle.basics.specs.Digits.{number, number_after}
use Rattle.basics.specs.Numbers.{accepted, owners_row_invalid, owners_gap, separator_too_short}
use Rattle.basics.proofs.Cases.{if_true, if_false, and_left, and_right, and_both}
use Rattle.owners.specs.Owners.{Table, Checked, row_of, rows_of, table_of, row_count, row, at_fault, least_from, first_fault, holds, is_free, checked, separator_number, line_of, asked, value_of}
use Rattle.owners.specs.declared.Asked.{Asked}
use Rattle.owners.specs.Bytes.{table_bytes}
use Rattle.owners.specs.declared.OwnerRow.{OwnerRow}
use Rattle.owners.proofs.Faults.{good, is_good}
use Rattle.owners.proofs.Gap.{gap}
use Rattle.owners.proofs.Answers.{first_fault_bound, asked_refused, asked_short, asked_line}
use Rattle.owners.proofs.Tables.{fault_answer, gap_answer, accepted_answer, accepted_by_pass, free_numbers, covers, one_row, line_found, separator_number_fits, at_most_128, not_cut}
use Rattle.owners.proofs.Written.{length_table, table_read, table_cut_read}

-- "An accepted table covers every number from 0 to 4294967295 exactly one time": some row holds it,
pub every_number_is_held : (t : Table) → (checked t).number ≡ accepted → (n : ℕ) → n < 4294967296
    → (k : ℕ) × (1 ≤ k) × (k ≤ row_count t) × (holds n (row t k) ≡ true)
every_number_is_held t e = covers t e

-- and two rows that hold it are the same row.
pub one_row_holds : (t : Table) → (checked t).number ≡ accepted → (n j k : ℕ) → 1 ≤ j → j ≤ row_count t → 1 ≤ k → k ≤ row_count t
    → holds n (row t j) ≡ true → holds n (row t k) ≡ true → j ≡ k
one_row_holds t e = one_row t e

-- A row holds the numbers from its first to its last, both included, and no other.
pub numbers_of_a_row : (n : ℕ) (r : OwnerRow) → (holds n r ≡ true) ↔ ((r.first ≤ n) × (n ≤ r.last))
unfolding holds
numbers_of_a_row n r = (
  λ e. (leb-true _ _ (and_left _ _ e), leb-true _ _ (and_right _ _ e)),
  λ (low, high). and_both _ _ (le-leb _ _ low) (le-leb _ _ high),
)

-- "A separator's number is its first four bytes, highest byte first.", whatever follows them.
pub number_of_a_separator : (a b c d : ℕ) (rest : List ℕ) → separator_number (a ∷ b ∷ c ∷ d ∷ rest) ≡ ((a * 256 + b) * 256 + c) * 256 + d
unfolding separator_number number number_after
number_of_a_separator a b c d rest = ap (λ (x : ℕ). ((x * 256 + b) * 256 + c) * 256 + d) (zero-add a)

-- "and asking it for a separator gives the one line whose row holds the number", for every separator, a list of bytes, of at least four, however
-- long.
pub asking_gives_the_line : (t : Table) → (checked t).number ≡ accepted → (separator : List ℕ) → Below 256 separator → 4 ≤ length separator
    → (k : ℕ) × (1 ≤ k) × (k ≤ row_count t) × (holds (separator_number separator) (row t k) ≡ true)
    × (asked t separator ≡ record { number = accepted; place = 0; line = (row t k).line })
asking_gives_the_line t e separator bytes long =
    let found = covers t e (separator_number separator) (separator_number_fits separator bytes long) in
    (found.0, found.1, found.2, found.3, line_found t e separator found.0 long found.1 found.2 found.3)

-- "17, after both": of a table that is not accepted the answer is its own, whatever the separator;
pub table_comes_first : (t : Table) (separator : List ℕ) → (checked t).number ≢ accepted
    → asked t separator ≡ record { number = (checked t).number; place = (checked t).place; line = 0 }
table_comes_first = asked_refused

-- of an accepted one, a separator under four bytes gets 17, and 0 comes with it.
pub short_separators : (t : Table) (separator : List ℕ) → (checked t).number ≡ accepted → length separator < 4
    → asked t separator ≡ record { number = separator_too_short; place = 0; line = 0 }
short_separators = asked_short

-- "the first such row's number, counted from 1, comes with it": 15 and k are the answer exactly if row k is at fault and no row before it is.
pub first_row_at_fault : (t : Table) (k : ℕ) → (◌≡◌ {A = Checked} (checked t) (record { number = owners_row_invalid; place = k }))
    ↔ ((1 ≤ k) × (k ≤ row_count t) × (at_fault t k ≡ true) × ((j : ℕ) → 1 ≤ j → j < k → at_fault t j ≡ false))
first_row_at_fault = fault_answer

-- "a row whose first is above its last or not above the previous row's last, a row 129 or a row cut short": a row is not at fault exactly if
-- it is none of these.
pub rows_not_at_fault : (t : Table) (k : ℕ) → (at_fault t k ≡ false)
    ↔ ((k ≤ 128) × (k ≤ length t.rows) × ((row t k).first ≤ (row t k).last) × (1 < k → (row t (k - 1)).last < (row t k).first))
rows_not_at_fault t k = (
  λ e. let g = is_good t k e in (g.few, g.whole, g.ordered, g.rising),
  λ (few, whole, ordered, rising). good t k (record { few = few; whole = whole; ordered = ordered; rising = rising }),
)

-- "16: otherwise, a number that no row holds; the least one comes with it.": 16 and n are the answer exactly if no row is at fault, no row holds n
-- and every smaller number is held.
pub least_number_not_held : (t : Table) (n : ℕ) → (◌≡◌ {A = Checked} (checked t) (record { number = owners_gap; place = n }))
    ↔ (((k : ℕ) → 1 ≤ k → k ≤ row_count t → at_fault t k ≡ false)
    × ((n < 4294967296) × (is_free t n ≡ true) × ((m : ℕ) → m < n → is_free t m ≡ false)))
least_number_not_held = gap_answer

-- A table is accepted exactly if no row is at fault and every number is held; 0 comes with it.
pub accepted_tables : (t : Table) → (◌≡◌ {A = Checked} (checked t) (record { number = accepted; place = 0 }))
    ↔ (((k : ℕ) → 1 ≤ k → k ≤ row_count t → at_fault t k ≡ false) × ((n : ℕ) → n < 4294967296 → is_free t n ≡ false))
accepted_tables = accepted_answer

-- A number is free exactly if no whole row holds it.
pub numbers_not_held : (t : Table) (n : ℕ) → (is_free t n ≡ true) ↔ ((k : ℕ) → 1 ≤ k → k ≤ length t.rows → holds n (row t k) ≡ false)
numbers_not_held = free_numbers

-- "at most 128 rows": whatever is lent, the first row at fault is at most the 129th, and an accepted table has at most 128.
pub at_most_128_rows : (t : Table) → (first_fault t ≤ 129) × ((checked t).number ≡ accepted → row_count t ≤ 128)
at_most_128_rows t = (first_fault_bound t, at_most_128 t)

-- "ten a row: first and last number of 32 bits, product line of 16, highest byte first": rows that are written so are read as they were.
pub written_rows_are_read : (rs : List OwnerRow) → Below 4294967296 (map (λ r. r.first) rs) → Below 4294967296 (map (λ r. r.last) rs)
    → Below 65536 (map (λ r. r.line) rs) → table_of (table_bytes rs) ≡ record { rows = rs; cut_short = false }
written_rows_are_read = table_read

-- A row by its ten bytes, whatever they are and whatever follows them.
pub rows_by_bytes : (a b c d e f g h i j : ℕ) (rest : List ℕ)
    → ◌≡◌ {A = OwnerRow}
    (row_of (a ∷ b ∷ c ∷ d ∷ e ∷ f ∷ g ∷ h ∷ i ∷ j ∷ rest))
    (record { first = ((a * 256 + b) * 256 + c) * 256 + d; last = ((e * 256 + f) * 256 + g) * 256 + h; line = i * 256 + j })
unfolding row_of number number_after
rows_by_bytes a b c d e f g h i j rest = rw (zero-add a, zero-add e, zero-add i) refl

-- Bytes behind whole rows that make no whole row are a row cut short,
pub cut_rows_are_read : (rs : List OwnerRow) → Below 4294967296 (map (λ r. r.first) rs) → Below 4294967296 (map (λ r. r.last) rs)
    → Below 65536 (map (λ r. r.line) rs) → (rest : List ℕ) → 1 ≤ length rest → length rest < 10
    → table_of (table_bytes rs ++ rest) ≡ record { rows = rs; cut_short = true }
cut_rows_are_read = table_cut_read

-- and an accepted table has none.
pub accepted_tables_are_whole : (t : Table) → (checked t).number ≡ accepted → t.cut_short ≡ false
accepted_tables_are_whole t e = not_cut t e

-- "The empty table is a gap."
pub empty_table_is_a_gap : checked (table_of []) ≡ record { number = owners_gap; place = 0 }
unfolding table_of rows_of row_count is_free any when◌then◌else◌
empty_table_is_a_gap =
    (gap_answer (table_of []) 0).1
    ((λ k h l. absurd (not-suc-le-zero (le_trans h l))), (lit≤ tt, refl, λ m h. absurd (not-suc-le-zero h)))

-- Accepted tables exist: one row that owns every number,
pub table_of_one_row : checked (table_of (0 ∷ 0 ∷ 0 ∷ 0 ∷ 255 ∷ 255 ∷ 255 ∷ 255 ∷ 0 ∷ 7 ∷ [])) ≡ record { number = accepted; place = 0 }
unfolding row_of rows_of table_of row_count row at_fault least_from first_fault gap number number_after when◌then◌else◌ ◌and◌ ◌or◌
table_of_one_row = accepted_by_pass (table_of (0 ∷ 0 ∷ 0 ∷ 0 ∷ 255 ∷ 255 ∷ 255 ∷ 255 ∷ 0 ∷ 7 ∷ [])) (lit≤ tt) refl

-- and 128 rows of 33,554,432 numbers each, row k of line k - 1.
unfoldable pub even_rows : ℕ → ℕ → List OwnerRow
even_rows i zero = []
even_rows i (suc n) = record { first = i * 33554432; last = i * 33554432 + 33554431; line = i } ∷ even_rows (suc i) n

pub table_of_128_rows : (length (table_bytes (even_rows 0 128)) ≡ 1280)
    × (◌≡◌ {A = Checked} (checked (table_of (table_bytes (even_rows 0 128)))) (record { number = accepted; place = 0 }))
unfolding even_rows all row_count row at_fault least_from first_fault gap when◌then◌else◌ ◌and◌ ◌or◌
table_of_128_rows = (
  length_table (even_rows 0 128),
  ap checked (table_read (even_rows 0 128) refl refl refl)
      ∙ accepted_by_pass (record { rows = even_rows 0 128; cut_short = false }) (lit≤ tt) refl,
)

-- Byte order, computed: line 0506 owns the numbers up to 01020303, line 0708 the others, and the separator 0102030309 is of the first.
unfoldable pub two_rows : List ℕ
two_rows = 0 ∷ 0 ∷ 0 ∷ 0 ∷ 1 ∷ 2 ∷ 3 ∷ 3 ∷ 5 ∷ 6 ∷ 1 ∷ 2 ∷ 3 ∷ 4 ∷ 255 ∷ 255 ∷ 255 ∷ 255 ∷ 7 ∷ 8 ∷ []

pub table_of_two_rows : checked (table_of two_rows) ≡ record { number = accepted; place = 0 }
unfolding two_rows row_of rows_of table_of row_count row at_fault least_from first_fault gap number number_after when◌then◌else◌ ◌and◌ ◌or◌
table_of_two_rows = accepted_by_pass (table_of two_rows) (lit≤ tt) refl

pub two_rows_asked : asked (table_of two_rows) (1 ∷ 2 ∷ 3 ∷ 3 ∷ 9 ∷ []) ≡ record { number = accepted; place = 0; line = 1286 }
unfolding two_rows row_of rows_of table_of number number_after when◌then◌else◌ ◌and◌ holds line_of separator_number
two_rows_asked =
    asked_line (table_of two_rows) (1 ∷ 2 ∷ 3 ∷ 3 ∷ 9 ∷ []) (ap (λ (c : Checked). c.number) table_of_two_rows) (lit≤ tt)

-- C gets one number beside the answer's: the line with 0, otherwise the place.
pub value_in_c : (a : Asked) → (a.number ≡ accepted → value_of a ≡ a.line) × (a.number ≢ accepted → value_of a ≡ a.place)
unfolding value_of
value_in_c a = (λ e. if_true _ _ _ (eq-eqb _ _ e), λ n. if_false _ _ _ (ne_eqb _ _ n))
