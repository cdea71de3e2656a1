-- Who owns which separators: a table of rows, checked and asked. From document 02, P1.
use Rattle.std.specs.Prelude.{Bool, not, List, [], ◌∷◌, ◌++◌, ℕ, zero, suc, ◌+◌, ◌-◌, ◌/◌, ◌%◌, ◌^◌, leb, ltb, eqb, length, get_or, take, drop}
use Rattle.basics.specs.Logic.{when◌then◌else◌, ◌and◌, ◌or◌, any}
use Rattle.basics.specs.Digits.{number}
use Rattle.basics.specs.Numbers.{accepted, owners_row_invalid, owners_gap, separator_too_short}
use Rattle.basics.specs.Refusals.{Row, ◌gets◌⨾◌, first_number}
use Rattle.owners.specs.declared.OwnerRow.{OwnerRow}
use Rattle.owners.specs.declared.Asked.{Asked}

-- "ten a row: first and last number of 32 bits, product line of 16, highest byte first" (big-endian): the row that bytes begin with
unfoldable pub row_of : List ℕ → OwnerRow
row_of bytes =
    record {
      first = number 256 (take 4 bytes);
      last = number 256 (take 4 (drop 4 bytes));
      line = number 256 (take 2 (drop 8 bytes));
    }

-- so many rows, one behind the other
unfoldable pub rows_of : ℕ → List ℕ → List OwnerRow
rows_of zero bytes = []
rows_of (suc n) bytes = row_of bytes ∷ rows_of n (drop 10 bytes)

-- a table: its whole rows, and whether a row cut short stands behind them
pub record Table : Type 0 where
  pub rows : List OwnerRow
  pub cut_short : Bool

-- the table that a list of bytes is
unfoldable pub table_of : List ℕ → Table
table_of bytes = record { rows = rows_of (length bytes / 10) bytes; cut_short = not (eqb (length bytes % 10) 0) }

-- how many rows a table has, one cut short included
unfoldable pub row_count : Table → ℕ
row_count t = length t.rows + (when t.cut_short then 1 else 0)

-- row k, counted from 1; where there is no whole row k, and so of one cut short, zeros stand for it
unfoldable pub row : Table → ℕ → OwnerRow
row t k = get_or t.rows (k - 1) (record { first = 0; last = 0; line = 0 })

-- "at most 128 rows"
abbrev pub max_rows : ℕ
max_rows = 128

-- "a row whose first is above its last or not above the previous row's last, a row 129 or a row cut short": whether row k is such a row
unfoldable pub at_fault : Table → ℕ → Bool
at_fault t k =
    ltb (row t k).last (row t k).first
    or (ltb 1 k and leb (row t k).first (row t (k - 1)).last)
    or ltb max_rows k
    or ltb (length t.rows) k

-- the least that passes a test, of n numbers from k on; k + n where none does
unfoldable pub least_from : (ℕ → Bool) → ℕ → ℕ → ℕ
least_from test k zero = k
least_from test k (suc n) = when test k then k else least_from test (suc k) n

-- "the first such row's number, counted from 1"; one more than there are rows where none is at fault
unfoldable pub first_fault : Table → ℕ
first_fault t = least_from (at_fault t) 1 (row_count t)

-- whether a row holds a number
unfoldable pub holds : ℕ → OwnerRow → Bool
holds n r = leb r.first n and leb n r.last

-- "a number that no row holds"
unfoldable pub is_free : Table → ℕ → Bool
is_free t n = not (any (holds n) t.rows)

-- how many numbers there are: "every number from 0 to 4294967295"
abbrev pub number_count : ℕ
number_count = 2 ^ 32

-- "the least one" that no row holds; 4294967296 where every number is held
unfoldable pub least_free : Table → ℕ
least_free t = least_from (is_free t) 0 number_count

-- what a table is refused for, in the order in which it counts: 15, and "16: otherwise"
unfoldable pub check_rows : Table → List Row
check_rows t =
    leb (first_fault t) (row_count t) gets owners_row_invalid ⨾
    ltb (least_free t) number_count gets owners_gap ⨾
    []

-- what comes with a number: with 15 the first row at fault, with 16 the least number that no row holds, otherwise 0
unfoldable pub place_of : ℕ → Table → ℕ
place_of n t = when eqb n owners_row_invalid then first_fault t else when eqb n owners_gap then least_free t else 0

-- the answer to a table that is checked: with number 15 the place is the first row at fault, counted from 1, with 16 the least number that no row
-- holds, and with 0 it is 0
pub record Checked : Type 0 where
  pub number : ℕ
  pub place : ℕ

-- the answer to a table that is checked
unfoldable pub checked : Table → Checked
checked t = let n = first_number (check_rows t) in record { number = n; place = place_of n t }

-- "A separator's number is its first four bytes, highest byte first."
unfoldable pub separator_number : List ℕ → ℕ
separator_number separator = number 256 (take 4 separator)

-- "17, after both: the separator asked about is under four bytes"
unfoldable pub ask_rows : Table → List ℕ → List Row
ask_rows t separator = check_rows t ++ (ltb (length separator) 4 gets separator_too_short ⨾ [])

-- "the one line whose row holds the number": that of the first row which does, and 0 where none does
unfoldable pub line_of : ℕ → List OwnerRow → ℕ
line_of n [] = 0
line_of n (r ∷ rs) = when holds n r then r.line else line_of n rs

-- the answer to a table that is asked for a separator; where it is not accepted, the line is 0
unfoldable pub asked : Table → List ℕ → Asked
asked t separator =
    let n = first_number (ask_rows t separator) in
    record { number = n; place = place_of n t; line = when eqb n accepted then line_of (separator_number separator) t.rows else 0 }

-- what C gets beside an answer's number: with 0 the line, otherwise the place
unfoldable pub value_of : Asked → ℕ
value_of a = when eqb a.number accepted then a.line else a.place
