-- Sealing a coin note, which is authenticated encryption: Algorithm 7 of source 001, as document 02 fixes it in P7. Quotations without a name are of P7,
-- those of Algorithm 7 are named.
use Rattle.std.specs.Prelude.{Bool, true, false, not, ℕ, ◌+◌, ◌-◌, ◌%◌, leb, ltb, eqb, length, take, drop, replicate}
use mathlib.Core.List.{List, [], ◌∷◌, ◌++◌, zip_with}
use Rattle.basics.specs.Logic.{when◌then◌else◌, ◌and◌, all}
use Rattle.basics.specs.Lists.{joined, total}
use Rattle.basics.specs.Numbers.{accepted, separator_too_long, element_not_reduced, field_unknown, seal_length_invalid, mark_differs}
use Rattle.basics.specs.Refusals.{Row, ◌gets◌⨾◌, first_number}
use Rattle.field.specs.Field.{modulus, is_field, field_of, is_element}
use Rattle.field.specs.declared.Field.{Field}
use Rattle.words.specs.Words.{word_of}
use Rattle.pattern.specs.Opening.{opening, max_separator, max_call}
use Rattle.session.specs.Record.{field_in, squeezed_all}
use Rattle.session.specs.Calls.{start, absorb, squeeze}
use Rattle.session.specs.declared.Session.{Session}

-- "A key of 8 elements and a nonce of 8"
abbrev pub key_length : ℕ
key_length = 8

abbrev pub nonce_length : ℕ
nonce_length = 8

-- "at the end 8 elements are squeezed as the mark": the mark is an authentication tag; "tag" is SAFE's word for what START hashes
abbrev pub mark_length : ℕ
mark_length = 8

-- "1 to 31 blocks"
abbrev pub max_blocks : ℕ
max_blocks = 31

-- what a note is sealed under: "the same field, key, nonce, separator and lengths" open it
pub record Context : Type 0 where
  pub field : ℕ
  pub key : List ℕ
  pub nonce : List ℕ
  pub separator : List ℕ
  pub lengths : List ℕ

-- a context of its parts
abbrev pub context : ℕ → List ℕ → List ℕ → List ℕ → List ℕ → Context
context field key nonce separator lengths = record { field = field; key = key; nonce = nonce; separator = separator; lengths = lengths }

-- the field that the context names
abbrev pub field_of_context : Context → Field
field_of_context c = field_of c.field

-- ---- Algorithm 7

-- the words that declare ABSORB and SQUEEZE of n elements
abbrev pub absorb_word : ℕ → ℕ
absorb_word n = word_of (record { absorbs = true; elements = n })

abbrev pub squeeze_word : ℕ → ℕ
squeeze_word n = word_of (record { absorbs = false; elements = n })

-- "for each .. as many elements are squeezed as the block holds .. and the plain block is absorbed; at the end 8 elements are squeezed"
unfoldable pub block_words : List ℕ → List ℕ
block_words [] = squeeze_word mark_length ∷ []
block_words (n ∷ ns) = squeeze_word n ∷ absorb_word n ∷ block_words ns

-- "declared and absorbed as one call of 16, so that 31 blocks need 64 words"
unfoldable pub seal_words : List ℕ → List ℕ
seal_words ns = absorb_word (key_length + nonce_length) ∷ block_words ns

-- "Sealed notes keep form 1." (document 02, P8)
abbrev pub note_form : ℕ
note_form = 1

-- Algorithm 7: "START(IO[2b+2], D)"
unfoldable pub started : Context → Session
started c = (start c.field note_form (opening (seal_words c.lengths) c.separator)).session

-- Algorithm 7: "ABSORB(k, K); ABSORB(m, N)", here "as one call"
unfoldable pub keyed : Context → Session
keyed c = (absorb (started c) (c.key ++ c.nonce)).session

-- Algorithm 7: "C_i <- SQUEEZE(L_i)", the elements for a block
abbrev pub keystream : Session → List ℕ → List ℕ
keystream r block = squeezed_all r (length block)

-- Algorithm 7: "C_i <- SQUEEZE(L_i); ABSORB(L_i, D_i)", the record afterwards; "the plain block is absorbed"
unfoldable pub after_block : Session → List ℕ → Session
after_block r plain = (absorb (squeeze r (length plain)).session plain).session

-- the record after all blocks
unfoldable pub after_blocks : Session → List (List ℕ) → Session
after_blocks r [] = r
after_blocks r (plain ∷ blocks) = after_blocks (after_block r plain) blocks

-- "added to it to give cipher elements"; Algorithm 7: ""+" denotes addition in F"
unfoldable pub plus : Field → List ℕ → List ℕ → List ℕ
plus f = zip_with (λ x y. (x + y) % modulus f)

-- what undoes that, of elements
unfoldable pub minus : Field → List ℕ → List ℕ → List ℕ
minus f = zip_with (λ x y. (x + (modulus f - y)) % modulus f)

-- Algorithm 7: "(C_1 + D_1) (C_2 + D_2) .. (C_b + D_b)", of the plain blocks
unfoldable pub cipher_blocks : Session → List (List ℕ) → List (List ℕ)
cipher_blocks r [] = []
cipher_blocks r (plain ∷ blocks) = plus (field_in r) plain (keystream r plain) ∷ cipher_blocks (after_block r plain) blocks

-- "Opening gives the blocks back": of the cipher blocks, with each plain block absorbed as sealing does
unfoldable pub plain_blocks : Session → List (List ℕ) → List (List ℕ)
plain_blocks r [] = []
plain_blocks r (cipher ∷ blocks) =
    let plain = minus (field_in r) cipher (keystream r cipher) in plain ∷ plain_blocks (after_block r plain) blocks

-- Algorithm 7: "S <- SQUEEZE(1)", here "8 elements are squeezed as the mark. The paper squeezes one"; of the plain blocks
unfoldable pub mark_of : Session → List (List ℕ) → List ℕ
mark_of r blocks = squeezed_all (after_blocks r blocks) mark_length

-- a text in blocks of the given lengths, in order
unfoldable pub blocks_of : List ℕ → List ℕ → List (List ℕ)
blocks_of [] text = []
blocks_of (n ∷ ns) text = take n text ∷ blocks_of ns (drop n text)

-- "every cipher element and then the mark are written to one lent buffer"
unfoldable pub sealed : Context → List ℕ → List ℕ
sealed c plain =
    let blocks = blocks_of c.lengths plain in
    joined (cipher_blocks (keyed c) blocks) ++ mark_of (keyed c) blocks

-- the blocks that a text opens to, which is the cipher elements and then the mark
unfoldable pub unsealed : Context → List ℕ → List (List ℕ)
unsealed c text = plain_blocks (keyed c) (blocks_of c.lengths text)

-- "compares the mark": what stands behind the cipher elements is the mark of those blocks
unfoldable pub is_mark : List ℕ → List ℕ → Bool
is_mark [] [] = true
is_mark [] (y ∷ ys) = false
is_mark (x ∷ xs) [] = false
is_mark (x ∷ xs) (y ∷ ys) = eqb x y and is_mark xs ys

unfoldable pub has_mark : Context → List ℕ → Bool
has_mark c text = is_mark (mark_of (keyed c) (unsealed c text)) (drop (total c.lengths) text)

-- ---- numbers

-- the opposite of "no blocks or over 31, a block length of 0 or above 16,777,216"
unfoldable pub sound_lengths : List ℕ → Bool
sound_lengths ns = leb 1 (length ns) and leb (length ns) max_blocks and all (λ n. leb 1 n and leb n max_call) ns

-- "10, which covers key, nonce and plain elements, on opening cipher and mark in place of plain"
unfoldable pub are_elements : Field → List ℕ → List ℕ → List ℕ → Bool
are_elements f key nonce text = all (is_element f) key and all (is_element f) nonce and all (is_element f) text

-- the rows that sealing and opening share, "after START's own 18 and 6, before 10", for a buffer of so many places: "or any other lent list or buffer, key
-- and nonce too, whose length isn't exactly what is needed", which is that of the blocks, with the mark's in the text or in the buffer
unfoldable pub note_rows : Context → List ℕ → ℕ → ℕ → ℕ → List Row
note_rows c text textMark buffer bufferMark =
    not (is_field c.field) gets field_unknown ⨾
    ltb max_separator (length c.separator) gets separator_too_long ⨾
    not (sound_lengths c.lengths) gets seal_length_invalid ⨾
    not (eqb (length c.key) key_length) gets seal_length_invalid ⨾
    not (eqb (length c.nonce) nonce_length) gets seal_length_invalid ⨾
    not (eqb (length text) (total c.lengths + textMark)) gets seal_length_invalid ⨾
    not (eqb buffer (total c.lengths + bufferMark)) gets seal_length_invalid ⨾
    not (are_elements (field_of_context c) c.key c.nonce text) gets element_not_reduced ⨾
    []

-- sealing: the mark needs room behind the cipher elements
unfoldable pub seal_rows : Context → List ℕ → List ℕ → List Row
seal_rows c plain buffer = note_rows c plain 0 (length buffer) mark_length

-- opening: the mark stands behind the cipher elements; "21: the mark differs, last."
unfoldable pub open_rows : Context → List ℕ → List ℕ → List Row
open_rows c text buffer = note_rows c text mark_length (length buffer) 0 ++ (not (has_mark c text) gets mark_differs ⨾ [])

-- ---- what a call answers, and what it leaves of the lent buffer

pub record Outcome : Type 0 where
  pub number : ℕ
  pub buffer : List ℕ

-- a number with a buffer
abbrev pub leaving : ℕ → List ℕ → Outcome
leaving number buffer = record { number = number; buffer = buffer }

-- sealing a plain text: "A refused seal or open writes nothing"
unfoldable pub seal_note : Context → List ℕ → List ℕ → Outcome
seal_note c plain buffer =
    let number = first_number (seal_rows c plain buffer) in
    leaving number (when eqb number accepted then sealed c plain else buffer)

-- opening a text: "except that a wrong mark leaves zeros where the blocks would be"
unfoldable pub open_note : Context → List ℕ → List ℕ → Outcome
open_note c text buffer =
    let number = first_number (open_rows c text buffer) in
    leaving number
    (when eqb number accepted then joined (unsealed c text)
    else when eqb number mark_differs then replicate (total c.lengths) 0
    else buffer)
