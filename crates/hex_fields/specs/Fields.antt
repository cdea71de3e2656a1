-- Fields of hexadecimal digits in a text.
use Rattle.std.specs.Prelude.{Bool, not, List, [], ◌∷◌, ℕ, zero, suc, ◌+◌, ◌*◌, ◌/◌, ◌%◌, ltb, length, get_or, drop}
use Rattle.basics.specs.Logic.{when◌then◌else◌, ◌and◌}
use Rattle.basics.specs.Lists.{tabulate, zero_padded}
use Rattle.basics.specs.Digits.{number}
use Rattle.hex_fields.specs.declared.Field.{Field}

-- the most bytes that are read of a field
abbrev pub max_bytes : ℕ
max_bytes = 2048

-- the number that a digit writes: the codes of 0 to 9 are 48 to 57, those of A to F 65 to 70, those of a to f 97 to 102
unfoldable pub digit_value : ℕ → ℕ
digit_value code = when ltb code 58 then code % 16 else (code % 16 + 9) % 16

-- the byte that two digits write
unfoldable pub pair_byte : ℕ → ℕ → ℕ
pair_byte high low = digit_value high * 16 + digit_value low

-- a byte below the digits ends a field, as a space or a newline does
unfoldable pub is_end : ℕ → Bool
is_end code = ltb code 48

-- the bytes that the field at a text's start writes, of which at most n are read
unfoldable pub field_bytes : ℕ → List ℕ → List ℕ
field_bytes zero text = []
field_bytes (suc n) [] = []
field_bytes (suc n) (code ∷ []) = []
field_bytes (suc n) (high ∷ (low ∷ rest)) = when is_end high then [] else pair_byte high low ∷ field_bytes n rest

-- two bytes of a field stand at a place
unfoldable pub is_pair : List ℕ → ℕ → Bool
is_pair text at = ltb (at + 1) (length text) and not (is_end (get_or text at 0))

-- the place behind the byte that ends a field; behind the text, where none does, the place itself
unfoldable pub place_behind : List ℕ → ℕ → ℕ
place_behind text end = when ltb end (length text) then end + 1 else end

-- the field that writes bytes, at a place
unfoldable pub field_of : List ℕ → ℕ → List ℕ → Field
field_of text at bytes = record { bytes = zero_padded max_bytes bytes; count = length bytes; next = place_behind text (at + 2 * length bytes) }

-- the field at a place of a text
unfoldable pub field_at : List ℕ → ℕ → Field
field_at text at = field_of text at (field_bytes max_bytes (drop at text))

-- the word k of a field's bytes: four each, highest byte first
unfoldable pub field_word : List ℕ → ℕ → ℕ
field_word bytes k =
    number 256 (get_or bytes (4 * k) 0 ∷ get_or bytes (4 * k + 1) 0 ∷ get_or bytes (4 * k + 2) 0 ∷ get_or bytes (4 * k + 3) 0 ∷ [])

-- the words of a field's bytes
unfoldable pub field_words : List ℕ → List ℕ
field_words bytes = tabulate (max_bytes / 4) (field_word bytes)
