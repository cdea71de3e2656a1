-- Words, openings, tag strings and tags.
use Rattle.std.specs.Prelude.{◌≡◌, refl, List, [], ◌∷◌, ◌++◌, ℕ, ◌+◌, ◌-◌, ◌*◌, ◌/◌, ◌%◌, leb, length, replicate}
use Rattle.std.proofs.Common.{zero-add}
use Rattle.std.proofs.Math.Nat.{div-div-eq-div-mul}
use Rattle.basics.specs.Logic.{when◌then◌else◌}
use Rattle.basics.specs.Lists.{tabulate}
use Rattle.basics.specs.Digits.{digits, number, number_after}
use Rattle.words.specs.Words.{is_absorb, length_of}
use Rattle.pattern.specs.Opening.{opening, with_words}
use Rattle.tag.specs.TagString.{word_bytes, tail_of, string_of, word_at}
use Rattle.tag.specs.Elements.{tag_elements}

-- "A word has its top bit set for ABSORB and clear for SQUEEZE; its low 31 bits are the length."
pub words_by_rule : (w : ℕ) → (is_absorb w ≡ leb 2147483648 w) × (length_of w ≡ w % 2147483648)
unfolding is_absorb length_of
words_by_rule w = (refl, refl)

pub parts_of_an_opening : (ws separator : List ℕ) → ((opening ws separator).words ≡ ws) × ((opening ws separator).separator ≡ separator)
parts_of_an_opening ws separator = (refl, refl)

-- Words come back in 64 places with zeros behind them, whatever they are.
pub parts_of_an_answer_with_words : (n : ℕ) (ws : List ℕ)
    → ((with_words n ws).number ≡ n) × ((with_words n ws).words ≡ ws ++ replicate (64 - length ws) 0) × ((with_words n ws).count ≡ length ws)
unfolding with_words
parts_of_an_answer_with_words n ws = (refl, refl, refl)

-- The string of any words, those of no accepted pattern too.
pub strings_by_form : (ws separator : List ℕ)
    → let n = length separator in
    (string_of 1 ws separator ≡ word_bytes ws ++ separator ++ [])
    × (string_of 2 ws separator ≡ word_bytes ws ++ separator ++ (n / 16777216 % 256 ∷ n / 65536 % 256 ∷ n / 256 % 256 ∷ n % 256 ∷ []))
unfolding string_of tail_of digits when◌then◌else◌
strings_by_form ws separator =
    (refl, rw (div-div-eq-div-mul (length separator) 256 256, div-div-eq-div-mul (length separator) 65536 256) refl)

pub number_of_four_bytes : (a b c d : ℕ) → number 256 (a ∷ b ∷ c ∷ d ∷ []) ≡ ((a * 256 + b) * 256 + c) * 256 + d
unfolding number number_after
number_of_four_bytes a b c d = rw (zero-add a) refl

-- "four bytes each, highest byte first"
pub bytes_of_words : word_bytes (0x81234567 ∷ 0x09abcdef ∷ []) ≡ 0x81 ∷ 0x23 ∷ 0x45 ∷ 0x67 ∷ 0x09 ∷ 0xab ∷ 0xcd ∷ 0xef ∷ []
unfolding word_bytes digits
bytes_of_words = refl

-- "Read the 32 digest bytes as eight words, highest byte first; keep the low 30 bits of each word."
pub tag_of_unlike_bytes :
    tag_elements
    (0xfe ∷ 0xdc ∷ 0xba ∷ 0x98 ∷ 0x76 ∷ 0x54 ∷ 0x32 ∷ 0x10 ∷ 0x01 ∷ 0x23 ∷ 0x45 ∷ 0x67 ∷ 0x89 ∷ 0xab ∷ 0xcd ∷ 0xef
    ∷ 0xc0 ∷ 0x11 ∷ 0x22 ∷ 0x33 ∷ 0x44 ∷ 0x55 ∷ 0x66 ∷ 0x77 ∷ 0x88 ∷ 0x99 ∷ 0xaa ∷ 0xbb ∷ 0x3f ∷ 0xcc ∷ 0xdd ∷ 0xee ∷ [])
    ≡ 0x3edcba98 ∷ 0x36543210 ∷ 0x01234567 ∷ 0x09abcdef ∷ 0x00112233 ∷ 0x04556677 ∷ 0x0899aabb ∷ 0x3fccddee ∷ []
unfolding tag_elements word_at number number_after tabulate
tag_of_unlike_bytes = refl
