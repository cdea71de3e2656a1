-- What a buyer writes: rows as bytes. No function of the library writes a table, so no contract cites this.
use Rattle.std.specs.Prelude.{List, [], ◌∷◌, ◌++◌, ℕ}
use Rattle.basics.specs.Digits.{digits}
use Rattle.owners.specs.declared.OwnerRow.{OwnerRow}

-- "ten a row: first and last number of 32 bits, product line of 16, highest byte first"
unfoldable pub row_bytes : OwnerRow → List ℕ
row_bytes r = digits 256 4 r.first ++ digits 256 4 r.last ++ digits 256 2 r.line

-- rows one behind the other
unfoldable pub table_bytes : List OwnerRow → List ℕ
table_bytes [] = []
table_bytes (r ∷ rs) = row_bytes r ++ table_bytes rs
