-- The records that START gives to the words of document 01's samples B4 to B7, with their digests computed: a part of the proof of the samples,
-- which state these words themselves. SHA3-256 of one tag string takes the checker about ten seconds, so that the computations stand in a crate of
-- their own, which is not checked again when the samples change.
use Rattle.std.specs.Prelude.{◌≡◌, refl, List, [], ◌∷◌, ℕ}
use Rattle.basics.specs.Logic.{when◌then◌else◌, ◌and◌, ◌or◌, same, all, any}
use Rattle.basics.specs.Lists.{tabulate, sum}
use Rattle.basics.specs.Digits.{digits, number, number_after}
use Rattle.field.specs.Field.{is_field}
use Rattle.sha3.specs.Sponge as hash
use Rattle.keccak.specs.Permutation as keccak
use Rattle.keccak_tables.specs.Tables.{offsets, round_constants}
use Rattle.basics.specs.Refusals.{first_number}
use Rattle.words.specs.Words.{is_absorb, length_of, phase_of, word_of}
use Rattle.pattern.specs.Pattern.{join, merge, phases, merged_words}
use Rattle.pattern.specs.Opening.{opening, word_rows, opening_rows}
use Rattle.tag.specs.TagString.{is_form, word_bytes, tail_of, string_of, tag_string, word_at}
use Rattle.tag.specs.Elements.{tag_elements}
use Rattle.session.specs.Record.{tag_state, open_record}
use Rattle.session.specs.Calls.{giving, start_rows, start_number, start_record, start}
use Rattle.session.specs.declared.Session.{Session}

-- the record that START gives to field 1, form 1, words and the empty separator; to unfold it is to unfold all that its computation goes through
unfoldable started_record : List ℕ → Session
unfolding start giving start_rows start_number start_record open_record tag_state is_field is_form
    all any ◌and◌ ◌or◌ when◌then◌else◌ same tabulate sum digits number number_after
    is_absorb length_of phase_of word_of join merge phases merged_words word_rows opening_rows first_number word_bytes tail_of string_of tag_string word_at tag_elements
    hash.bytes hash.pad10*1 hash.padded hash.lane_at hash.add_block hash.absorb hash.byte_of hash.squeeze hash.sha3
    keccak.state keccak.rotate keccak.parity keccak.effect keccak.theta keccak.rho keccak.pi keccak.chi keccak.iota
    keccak.round keccak.rounds keccak.permutation offsets round_constants
started_record ws = (start 1 1 (opening ws [])).session

-- the record of the words of B4, with the elements of their tag
unfoldable pub record4 : Session
record4 = open_record 1 1 (tag_state (428149845 ∷ 12180626 ∷ 512510949 ∷ 364062899 ∷ 130316680 ∷ 543458101 ∷ 1034516603 ∷ 309143001 ∷ [])) (0x80000008 ∷ 1 ∷ [])

pub started4 : (start 1 1 (opening (0x80000008 ∷ 1 ∷ []) [])).session ≡ record4
unfolding started_record record4
started4 = refl

-- the record of the words of B5, with the elements of their tag
unfoldable pub record5 : Session
record5 = open_record 1 1 (tag_state (85647870 ∷ 98761955 ∷ 15749974 ∷ 142315807 ∷ 696686023 ∷ 357790836 ∷ 298503356 ∷ 48769929 ∷ [])) (0x80000009 ∷ 1 ∷ [])

pub started5 : (start 1 1 (opening (0x80000009 ∷ 1 ∷ []) [])).session ≡ record5
unfolding started_record record5
started5 = refl

-- the record of the words of B6, with the elements of their tag
unfoldable pub record6 : Session
record6 = open_record 1 1 (tag_state (792278498 ∷ 865313857 ∷ 977898485 ∷ 843031537 ∷ 703915831 ∷ 827443881 ∷ 800229420 ∷ 1054256756 ∷ [])) (0x80000001 ∷ 9 ∷ [])

pub started6 : (start 1 1 (opening (0x80000001 ∷ 9 ∷ []) [])).session ≡ record6
unfolding started_record record6
started6 = refl

-- the record of the words of B7, with the elements of their tag
unfoldable pub record7 : Session
record7 = open_record 1 1 (tag_state (474420294 ∷ 269102976 ∷ 1041140285 ∷ 746591247 ∷ 352671062 ∷ 218677777 ∷ 826832901 ∷ 480975037 ∷ [])) (0x80000008 ∷ 8 ∷ 0x80000001 ∷ 1 ∷ [])

pub started7 : (start 1 1 (opening (0x80000008 ∷ 8 ∷ 0x80000001 ∷ 1 ∷ []) [])).session ≡ record7
unfolding started_record record7
started7 = refl
