-- The rows of a table of bytes.
-- Assumes nothing.
use mathlib.Core.Path.{◌≡◌, refl, sym, ap, ap₂, ◌∙◌}
use mathlib.Core.Bool.{not}
use mathlib.Core.List.{List, [], ◌∷◌, map}
use Prim.Native.Nat.{ℕ, zero, suc, ◌-◌, ◌/◌, ◌%◌, ◌≤◌, ◌<◌}
use native.Mathlib.Nat.{le-add_right}
use native.Mathlib.Omega.{arith}
use borrow.Author.Tests.{eqb-true, eqb-false}
use lib.Dec.{eqb, lit≤}
use lib.ListN.{length, get_or, take, drop}
use lib.Seq.{take-take}
use Rattle.std.proofs.lemmas.List.{drop-take, length-map, get_or-map}
use Rattle.std.specs.Int.{div_ceil}
use Rattle.basics.specs.Logic.{when◌then◌else◌}
use Rattle.basics.specs.Digits.{number}
use Rattle.basics.proofs.Cases.{cases, if_true, if_false}
use Rattle.basics.proofs.Parts.{two_bytes, four_bytes}
use Rattle.std.specs.Simd.{first_chunks}
use Rattle.owners.specs.Owners.{Table, row_of, rows_of, table_of, row_count, row}
use Rattle.owners.specs.declared.OwnerRow.{OwnerRow}

-- what is read past a table's end
abbrev pub no_row : OwnerRow
no_row = record { first = 0; last = 0; line = 0 }

pub length_rows : (n : ℕ) (bytes : List ℕ) → length (rows_of n bytes) ≡ n
unfolding rows_of
length_rows zero bytes = refl
length_rows (suc n) bytes = ap suc (length_rows n (drop 10 bytes))

-- a row by its place, counted from 0
pub row_suc : (t : Table) (i : ℕ) → row t (suc i) ≡ get_or t.rows i no_row
unfolding row
row_suc t i = let place : suc i - 1 ≡ i = omega arith in ap (λ (j : ℕ). get_or t.rows j no_row) place

pub whole_rows : (bytes : List ℕ) → length (table_of bytes).rows ≡ length bytes / 10
unfolding table_of
whole_rows bytes = length_rows (length bytes / 10) bytes

-- the parts of a row's bytes
pub row_parts : (s : List ℕ) → length s ≡ 10
    → row_of s
    ≡ record {
      first = number 256 (get_or s 0 0 ∷ get_or s 1 0 ∷ get_or s 2 0 ∷ get_or s 3 0 ∷ []);
      last = number 256 (get_or s 4 0 ∷ get_or s 5 0 ∷ get_or s 6 0 ∷ get_or s 7 0 ∷ []);
      line = number 256 (get_or s 8 0 ∷ get_or s 9 0 ∷ []);
    }
unfolding row_of
row_parts s e =
    let first = four_bytes s 0 (omega arith) in
    let last = four_bytes s 4 (omega arith) in
    let line = two_bytes s 8 (omega arith) in
    rw (last, line, first)

-- a row is read of its ten bytes alone
row_alone : (s : List ℕ) → row_of (take 10 s) ≡ row_of s
unfolding row_of
row_alone s =
    let last = ap (take 4) (drop-take 4 6 s) ∙ take-take 4 6 (drop 4 s) (lit≤ tt) in
    let line = ap (take 2) (drop-take 8 2 s) ∙ take-take 2 2 (drop 8 s) (lit≤ tt) in
    rw (take-take 4 10 s (lit≤ tt), last, line)

-- the rows of a table, by the parts of ten bytes that the library gives
pub rows_chunks : (n : ℕ) (bytes : List ℕ) → map row_of (first_chunks 10 n bytes) ≡ rows_of n bytes
unfolding rows_of
rows_chunks zero bytes = refl
rows_chunks (suc n) bytes =
    ap₂ (λ (r : OwnerRow) (rs : List OwnerRow). r ∷ rs) (row_alone bytes) (rows_chunks n (drop 10 bytes))

-- where parts of ten bytes are a table's rows, a part is read as the row in its place
module _ (bytes : List ℕ) (parts : List (List ℕ)) (is : map row_of parts ≡ (table_of bytes).rows) where
  pub rows_long : length (table_of bytes).rows ≡ length parts
  rows_long = sym (ap length is) ∙ length-map parts row_of

  pub part_at : (i : ℕ) (d : List ℕ) → i < length parts → get_or (table_of bytes).rows i no_row ≡ row_of (get_or parts i d)
  part_at i d h = ap (λ (rs : List OwnerRow). get_or rs i no_row) (sym is) ∙ get_or-map row_of parts i d no_row h

  pub part_row : (k i : ℕ) (d : List ℕ) → k - 1 ≡ i → i < length parts → row (table_of bytes) k ≡ row_of (get_or parts i d)
  unfolding row
  part_row k i d e h = rw e (part_at i d h)

pub count_rows : (bytes : List ℕ) → row_count (table_of bytes) ≡ div_ceil (length bytes) 10
unfolding row_count table_of
count_rows bytes =
    let long = length_rows (length bytes / 10) bytes in
    cases
    (eqb (length bytes % 10) 0)
    (λ e.
    let none : ◌≡◌ {A = ℕ} (when not (eqb (length bytes % 10) 0) then 1 else 0) 0 = if_false _ _ _ (ap not e) in
    let whole = eqb-true (length bytes % 10) 0 e in
    omega arith)
    (λ e.
    let one : ◌≡◌ {A = ℕ} (when not (eqb (length bytes % 10) 0) then 1 else 0) 1 = if_true _ _ _ (ap not e) in
    let cut = eqb-false (length bytes % 10) 0 e in
    omega arith)

pub rows_within : (t : Table) → length t.rows ≤ row_count t
unfolding row_count
rows_within t = le-add_right _ _
