-- Tables of owners.
use Rattle.std.specs.Prelude.{◌≡◌, refl, List, [], ◌∷◌, ℕ, ◌+◌, ◌-◌, ◌/◌, ◌%◌, length, get_or}
use Rattle.std.proofs.Math.Nat.{div-div-eq-div-mul}
use Rattle.basics.specs.Logic.{when◌then◌else◌}
use Rattle.basics.specs.Digits.{digits}
use Rattle.owners.specs.Owners.{Table, row_count, row}
use Rattle.owners.specs.Bytes.{row_bytes, table_bytes}
use Rattle.owners.specs.declared.OwnerRow.{OwnerRow}

-- Rows are counted from 1, one cut short included.
pub rows_of_a_table : (t : Table) (k : ℕ)
    → (row_count t ≡ length t.rows + (when t.cut_short then 1 else 0))
    × (row t k ≡ get_or t.rows (k - 1) (record { first = 0; last = 0; line = 0 }))
unfolding row_count row
rows_of_a_table t k = (refl, refl)

-- "ten a row: first and last number of 32 bits, product line of 16, highest byte first"
pub bytes_of_a_table : (r : OwnerRow) (rs : List OwnerRow)
    → let f = r.first in
    let l = r.last in
    let p = r.line in
    (table_bytes [] ≡ [])
    × (table_bytes (r ∷ rs)
    ≡ f / 16777216 % 256 ∷ f / 65536 % 256 ∷ f / 256 % 256 ∷ f % 256
    ∷ l / 16777216 % 256 ∷ l / 65536 % 256 ∷ l / 256 % 256 ∷ l % 256
    ∷ p / 256 % 256 ∷ p % 256 ∷ table_bytes rs)
unfolding table_bytes row_bytes digits
bytes_of_a_table r rs = (
  refl,
  rw (div-div-eq-div-mul r.first 256 256, div-div-eq-div-mul r.first 65536 256, div-div-eq-div-mul r.last 256 256, div-div-eq-div-mul r.last 65536 256) refl,
)
