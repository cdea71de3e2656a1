-- Rows as bytes, read back.
-- Assumes nothing.
use mathlib.Core.Path.{◌≡◌, refl, sym, ap, ap₂, ◌∙◌}
use mathlib.Core.Bool.{Bool, true, false, not}
use mathlib.Core.List.{List, [], ◌∷◌, ◌++◌, map, append_assoc, append-nil}
use Prim.Native.Nat.{ℕ, suc, ◌*◌, ◌/◌, ◌%◌, ◌^◌, ◌≤◌, ◌<◌}
use native.Mathlib.Omega.{arith}
use borrow.Author.Tests.{eq-eqb, ne_eqb}
use lib.Dec.{lit≤}
use lib.ListN.{length, take, drop, length-append}
use lib.Seq.{take_at, drop_at, drop-drop}
use Rattle.basics.specs.Lists.{Below}
use Rattle.basics.specs.Digits.{digits, number}
use Rattle.basics.proofs.Below.{below_head, below_tail}
use Rattle.basics.proofs.Positional.{length_digits, number_digits}
use Rattle.owners.specs.Owners.{row_of, rows_of, table_of}
use Rattle.owners.specs.Bytes.{row_bytes, table_bytes}
use Rattle.owners.specs.declared.OwnerRow.{OwnerRow}

-- a number's digits before other bytes, read and passed over
module _ (n x : ℕ) (rest : List ℕ) where
  digits_read : x < 256 ^ n → number 256 (take n (digits 256 n x ++ rest)) ≡ x
  digits_read h = ap (number 256) (take_at (digits 256 n x) rest n (length_digits 256 n x)) ∙ number_digits 256 n x (lit≤ tt) h

  digits_passed : drop n (digits 256 n x ++ rest) ≡ rest
  digits_passed = drop_at (digits 256 n x) rest n (length_digits 256 n x)

length_row : (r : OwnerRow) → length (row_bytes r) ≡ 10
unfolding row_bytes
length_row r = simp (length-append, length_digits)

pub length_table : (rs : List OwnerRow) → length (table_bytes rs) ≡ 10 * length rs
unfolding table_bytes
length_table [] = refl
length_table (r ∷ rs) =
    let row = length_row r in
    let more = length_table rs in
    length-append (row_bytes r) (table_bytes rs) ∙ omega arith

row_read : (r : OwnerRow) (rest : List ℕ) → r.first < 4294967296 → r.last < 4294967296 → r.line < 65536 → row_of (row_bytes r ++ rest) ≡ r
unfolding row_of row_bytes
row_read r rest first_fits last_Fits line-fits =
    let behind_last = digits 256 2 r.line ++ rest in
    let behind-first = digits 256 4 r.last ++ behind_last in
    let bytes = digits 256 4 r.first ++ behind-first in
    let apart : row_bytes r ++ rest ≡ bytes = simp append_assoc in
    let to_last : drop 4 bytes ≡ behind-first = digits_passed 4 r.first behind-first in
    let to-line : drop 8 bytes ≡ behind_last =
    sym (drop-drop 4 4 bytes) ∙ ap (drop 4) to_last ∙ digits_passed 4 r.last behind_last in
    ap row_of apart
    ∙ rw (to_last, to-line, digits_read 4 r.first behind-first first_fits, digits_read 4 r.last behind_last last_Fits, digits_read 2 r.line rest line-fits)

-- the parts of rows
abbrev pub firsts : List OwnerRow → List ℕ
firsts rs = map (λ r. r.first) rs

abbrev pub lasts : List OwnerRow → List ℕ
lasts rs = map (λ r. r.last) rs

abbrev pub lines_of : List OwnerRow → List ℕ
lines_of rs = map (λ r. r.line) rs

-- rows before other bytes
rows_read : (rest : List ℕ) (rs : List OwnerRow) → Below 4294967296 (firsts rs) → Below 4294967296 (lasts rs) → Below 65536 (lines_of rs)
    → rows_of (length rs) (table_bytes rs ++ rest) ≡ rs
unfolding rows_of table_bytes
rows_read rest [] f l p = refl
rows_read rest (r ∷ rs) f l p =
    ap (rows_of (suc (length rs))) (append_assoc (row_bytes r) (table_bytes rs) rest)
    ∙ ap₂ (λ (x : OwnerRow) (xs : List OwnerRow). x ∷ xs)
    (row_read r (table_bytes rs ++ rest) (below_head _ _ _ f) (below_head _ _ _ l) (below_head _ _ _ p))
    (ap (rows_of (length rs)) (drop_at (row_bytes r) (table_bytes rs ++ rest) 10 (length_row r))
    ∙ rows_read rest rs (below_tail _ _ _ f) (below_tail _ _ _ l) (below_tail _ _ _ p))

-- a table of whole rows is read as these rows
pub table_read : (rs : List OwnerRow) → Below 4294967296 (firsts rs) → Below 4294967296 (lasts rs) → Below 65536 (lines_of rs)
    → table_of (table_bytes rs) ≡ record { rows = rs; cut_short = false }
unfolding table_of
table_read rs f l p =
    let long = length_table rs in
    let count : length (table_bytes rs) / 10 ≡ length rs = omega arith in
    let whole : length (table_bytes rs) % 10 ≡ 0 = omega arith in
    ap₂ (λ (xs : List OwnerRow) (b : Bool). record { rows = xs; cut_short = b })
    (ap (λ (n : ℕ). rows_of n (table_bytes rs)) count ∙ ap (rows_of (length rs)) (sym (append-nil (table_bytes rs))) ∙ rows_read [] rs f l p)
    (ap not (eq-eqb _ 0 whole))

-- bytes behind them that make no whole row are a row cut short
pub table_cut_read : (rs : List OwnerRow) → Below 4294967296 (firsts rs) → Below 4294967296 (lasts rs) → Below 65536 (lines_of rs)
    → (rest : List ℕ) → 1 ≤ length rest → length rest < 10 → table_of (table_bytes rs ++ rest) ≡ record { rows = rs; cut_short = true }
unfolding table_of
table_cut_read rs f l p rest some few =
    let long = length_table rs in
    let both = length-append (table_bytes rs) rest in
    let count : length (table_bytes rs ++ rest) / 10 ≡ length rs = omega arith in
    let cut : length (table_bytes rs ++ rest) % 10 ≡ 0 → ⊥ = λ e. omega (arith, e) in
    ap₂ (λ (xs : List OwnerRow) (b : Bool). record { rows = xs; cut_short = b })
    (ap (λ (n : ℕ). rows_of n (table_bytes rs ++ rest)) count ∙ rows_read rest rs f l p)
    (ap not (ne_eqb _ 0 cut))
