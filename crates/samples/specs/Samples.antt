-- Document 01's proved samples, B2 in document 02's second form and B8 and B9 in its second field as well, as a single list that one test covers; the digests of B4 to B7
-- are computed beside it (`sample_records`).
use Rattle.std.specs.Prelude.{◌≡◌, refl, Bool, true, false, not, List, [], ◌∷◌, ◌++◌, ℕ, ◌-◌, ◌*◌, ◌%◌, eqb, length, get_or, replicate}
use Rattle.std.proofs.Common.{◌∙◌}
use Rattle.basics.specs.Logic.{when◌then◌else◌, ◌and◌, ◌or◌, same, all, any}
use Rattle.basics.specs.Lists.{tabulate, sum}
use Rattle.basics.specs.Digits.{digits, number, number_after}
use Rattle.basics.specs.Numbers.{accepted, call_too_long}
use Rattle.field.specs.Field.{modulus, is_field, field_of}
use Rattle.field.specs.declared.Field.{Field}
use Rattle.field.specs.declared.Field.TheVariants.{BabyBear, KoalaBear}
use Rattle.basics.specs.Refusals.{first_number}
use Rattle.words.specs.Words.{is_absorb, length_of, phase_of, word_of}
use Rattle.pattern.specs.Pattern.{join, merge, phases, merged_words, alternate, sound_words, sound_places}
use Rattle.pattern.specs.Opening.{opening, word_rows, opening_rows}
use Rattle.tag.specs.TagString.{is_form, word_bytes, tail_of, string_of, tag_string, word_at}
use Rattle.tag.specs.Elements.{tag_elements}
use Rattle.counters.specs.Permutations.{block_count, phase_permutations, permutations_at, full_permutations}
use Rattle.poseidon_tables.specs.Tables.{constants, inverses, baby_bear_constants, koala_bear_constants, baby_bear_inverses, koala_bear_inverses}
use Rattle.poseidon.specs.Permutation.{add_constants, raise_all, raise_first, raise, matrix, multiply, rounds, permutation, parameters}
use Rattle.sponge.specs.Sponge.{ready_to_absorb, absorb_element, ready_to_squeeze, squeezed_element, squeeze_element}
use Rattle.session.specs.Record.{tag_state, wiped, open_record, sponge_of, moved}
use Rattle.session.specs.Record.{absorb_one, squeeze_one, squeezed_one, absorb_all, squeeze_all}
use Rattle.counters.specs.Positions.{in_last_block, positions_after, positions_at}
use Rattle.progress.specs.Place.{sound_place, in_pattern, next_place}
use Rattle.session.specs.Soundness.{sound}
use Rattle.session.specs.Calls.{giving, record_rows, call_rows, absorb_rows, finish_rows, wipes, answer_of, start_rows, start_number, start, absorb, squeeze, finish}
use Rattle.session.specs.declared.Session.{Session}
use Rattle.runs.specs.Calls.{Call, ABSORB, SQUEEZE, answered, left, left_by}
use Rattle.sample_records.specs.SampleRecords.{record4, record5, record6, record7, started4, started5, started6, started7}

-- two lists are equal
unfoldable pub same_list : List ℕ → List ℕ → Bool
same_list [] [] = true
same_list [] (y ∷ ys) = false
same_list (x ∷ xs) [] = false
same_list (x ∷ xs) (y ∷ ys) = eqb x y and same_list xs ys

-- "B1 80000003 80000003 00000003, separator 4142: 80000006000000034142."
unfoldable pub b1 : List Bool
b1 =
    eqb (start_number 1 1 (opening (0x80000003 ∷ 0x80000003 ∷ 3 ∷ []) (0x41 ∷ 0x42 ∷ []))) accepted
    ∷ same_list (tag_string 1 (opening (0x80000003 ∷ 0x80000003 ∷ 3 ∷ []) (0x41 ∷ 0x42 ∷ []))) (0x80 ∷ 0 ∷ 0 ∷ 6 ∷ 0 ∷ 0 ∷ 0 ∷ 3 ∷ 0x41 ∷ 0x42 ∷ [])
    ∷ []

-- "B2 80000001 00000001, separator 8000000200000002, gives the same string as 80000001 00000001 80000002 00000002 with none."
unfoldable pub b2 : List Bool
b2 =
    eqb (start_number 1 1 (opening (0x80000001 ∷ 1 ∷ []) (0x80 ∷ 0 ∷ 0 ∷ 2 ∷ 0 ∷ 0 ∷ 0 ∷ 2 ∷ []))) accepted
    ∷ eqb (start_number 1 1 (opening (0x80000001 ∷ 1 ∷ 0x80000002 ∷ 2 ∷ []) [])) accepted
    ∷ same_list
    (tag_string 1 (opening (0x80000001 ∷ 1 ∷ []) (0x80 ∷ 0 ∷ 0 ∷ 2 ∷ 0 ∷ 0 ∷ 0 ∷ 2 ∷ [])))
    (tag_string 1 (opening (0x80000001 ∷ 1 ∷ 0x80000002 ∷ 2 ∷ []) []))
    ∷ []

-- document 02: "case B2 shows two of those protocols sharing a tag. The trade's rule here becomes form 2": its two strings there, which differ
unfoldable pub b2_in_form2 : List Bool
b2_in_form2 =
    same_list
    (tag_string 2 (opening (0x80000001 ∷ 1 ∷ []) (0x80 ∷ 0 ∷ 0 ∷ 2 ∷ 0 ∷ 0 ∷ 0 ∷ 2 ∷ [])))
    (0x80 ∷ 0 ∷ 0 ∷ 1 ∷ 0 ∷ 0 ∷ 0 ∷ 1 ∷ 0x80 ∷ 0 ∷ 0 ∷ 2 ∷ 0 ∷ 0 ∷ 0 ∷ 2 ∷ 0 ∷ 0 ∷ 0 ∷ 8 ∷ [])
    ∷ same_list
    (tag_string 2 (opening (0x80000001 ∷ 1 ∷ 0x80000002 ∷ 2 ∷ []) []))
    (0x80 ∷ 0 ∷ 0 ∷ 1 ∷ 0 ∷ 0 ∷ 0 ∷ 1 ∷ 0x80 ∷ 0 ∷ 0 ∷ 2 ∷ 0 ∷ 0 ∷ 0 ∷ 2 ∷ 0 ∷ 0 ∷ 0 ∷ 0 ∷ [])
    ∷ not
    (same_list
    (tag_string 2 (opening (0x80000001 ∷ 1 ∷ []) (0x80 ∷ 0 ∷ 0 ∷ 2 ∷ 0 ∷ 0 ∷ 0 ∷ 2 ∷ [])))
    (tag_string 2 (opening (0x80000001 ∷ 1 ∷ 0x80000002 ∷ 2 ∷ []) [])))
    ∷ []

-- "B3 fffffffe 80000001 00000001: accepted, merged ffffffff 00000001."; document 02, of number 5: "its example and B3 now get the new number"
unfoldable pub b3 : List Bool
b3 =
    eqb (start_number 1 1 (opening (0xfffffffe ∷ 0x80000001 ∷ 1 ∷ []) [])) call_too_long
    ∷ eqb (start_number 1 1 (opening (0xffffffff ∷ 0x80000001 ∷ 1 ∷ []) [])) call_too_long
    ∷ same_list (merged_words (0xfffffffe ∷ 0x80000001 ∷ 1 ∷ [])) (0xffffffff ∷ 1 ∷ [])
    ∷ []

-- the permutations that calls on a record count, and what FINISH answers then
unfoldable pub by_calls : Session → List Call → List ℕ
by_calls r cs = let t = left_by r cs in t.permutations ∷ (finish t).number ∷ []

-- "B4 ABSORB 8, SQUEEZE 1: 1 permutation.", by the formula, and by running the calls on the record that START gives
unfoldable pub words4 : List ℕ
words4 = 0x80000008 ∷ 1 ∷ []

unfoldable pub b4 : Session → List Bool
b4 r = eqb (full_permutations words4) 1 ∷ same_list (by_calls r (ABSORB (replicate 8 5) ∷ SQUEEZE 1 ∷ [])) (1 ∷ accepted ∷ []) ∷ []

-- "B5 9 and 1: 2."
unfoldable pub words5 : List ℕ
words5 = 0x80000009 ∷ 1 ∷ []

unfoldable pub b5 : Session → List Bool
b5 r = eqb (full_permutations words5) 2 ∷ same_list (by_calls r (ABSORB (replicate 9 5) ∷ SQUEEZE 1 ∷ [])) (2 ∷ accepted ∷ []) ∷ []

-- "B6 1 and 9: 2."
unfoldable pub words6 : List ℕ
words6 = 0x80000001 ∷ 9 ∷ []

unfoldable pub b6 : Session → List Bool
b6 r = eqb (full_permutations words6) 2 ∷ same_list (by_calls r (ABSORB (5 ∷ []) ∷ SQUEEZE 9 ∷ [])) (2 ∷ accepted ∷ []) ∷ []

-- "B7 8, 8, 1, 1, kinds alternating: 2."
unfoldable pub words7 : List ℕ
words7 = 0x80000008 ∷ 8 ∷ 0x80000001 ∷ 1 ∷ []

unfoldable pub b7 : Session → List Bool
b7 r =
    eqb (full_permutations words7) 2
    ∷ same_list (by_calls r (ABSORB (replicate 8 5) ∷ SQUEEZE 8 ∷ ABSORB (5 ∷ []) ∷ SQUEEZE 1 ∷ [])) (2 ∷ accepted ∷ [])
    ∷ []

-- "B8 inverse of 24: 1929379841; of 32: 1950351361.": the products are 1, and the inverses stand in row 0 of the matrix, in columns 0 and 8.
unfoldable pub b8 : List Bool
b8 =
    eqb (24 * 1929379841 % modulus BabyBear) 1
    ∷ eqb (matrix (parameters BabyBear) 0 0) 1929379841
    ∷ eqb (32 * 1950351361 % modulus BabyBear) 1
    ∷ eqb (matrix (parameters BabyBear) 0 8) 1950351361
    ∷ []

-- document 02: "the same 47 sums inverted in its own field": B8 modulo 2130706433
unfoldable pub b8_in_field2 : List Bool
b8_in_field2 =
    eqb (24 * 621456043 % modulus KoalaBear) 1
    ∷ eqb (matrix (parameters KoalaBear) 0 0) 621456043
    ∷ eqb (32 * 2064121857 % modulus KoalaBear) 1
    ∷ eqb (matrix (parameters KoalaBear) 0 8) 2064121857
    ∷ []

-- what a partial round raises x to
unfoldable pub raised : Field → ℕ → ℕ
raised f x = get_or (raise_first (parameters f) (x ∷ replicate 23 0)) 0 0

-- "B9 seventh power of 2: 128; of p − 1: p − 1."
unfoldable pub b9 : List Bool
b9 = eqb (raised BabyBear 2) 128 ∷ eqb (raised BabyBear (modulus BabyBear - 1)) (modulus BabyBear - 1) ∷ []

-- document 02: "Field 2 uses the third power": of 2, of p − 1, and of 1287, the least number whose third power is above p
unfoldable pub b9_in_field2 : List Bool
b9_in_field2 =
    eqb (raised KoalaBear 2) 8 ∷ eqb (raised KoalaBear (modulus KoalaBear - 1)) (modulus KoalaBear - 1) ∷ eqb (raised KoalaBear 1287) 1040470 ∷ []

-- "B10 digest word ffffffff: 1073741823.", at each of the eight words
unfoldable pub b10 : List Bool
b10 = same_list (tag_elements (replicate 32 0xff)) (replicate 8 1073741823) ∷ []

-- all tests, with a record for each of B4 to B7
unfoldable pub samples_with : Session → Session → Session → Session → List Bool
samples_with r4 r5 r6 r7 = b1 ++ b2 ++ b2_in_form2 ++ b3 ++ b4 r4 ++ b5 r5 ++ b6 r6 ++ b7 r7 ++ b8 ++ b8_in_field2 ++ b9 ++ b9_in_field2 ++ b10

-- the record that START gives to field 1, form 1, words and the empty separator
unfoldable pub started : List ℕ → Session
started ws = (start 1 1 (opening ws [])).session

-- all tests, where those of B4 to B7 run on the records that START gives to their words
unfoldable pub samples : List Bool
samples = samples_with (started words4) (started words5) (started words6) (started words7)

-- The tests pass on the records with computed digests.
pub computed : all (λ sample. sample) (samples_with record4 record5 record6 record7) ≡ true
unfolding samples_with b1 b2 b2_in_form2 b3 b4 b5 b6 b7 b8 b8_in_field2 b9 b9_in_field2 b10 same_list full_permutations by_calls raised
    record4 record5 record6 record7 words4 words5 words6 words7 alternate sound_words sound_places
    all any ◌and◌ ◌or◌ when◌then◌else◌ same tabulate sum digits number number_after
    is_absorb length_of phase_of word_of join merge phases merged_words word_rows opening_rows start_rows start_number is_field is_form first_number word_bytes tail_of string_of tag_string word_at tag_elements
    field_of parameters constants inverses baby_bear_constants baby_bear_inverses koala_bear_inverses
    add_constants raise_all raise_first raise matrix multiply rounds permutation
    tag_state ready_to_absorb absorb_element ready_to_squeeze squeezed_element squeeze_element
    wiped open_record sponge_of moved next_place absorb_one squeeze_one squeezed_one absorb_all squeeze_all
    block_count phase_permutations permutations_at in_last_block positions_after positions_at sound_place sound
    giving in_pattern record_rows call_rows absorb_rows finish_rows wipes answer_of absorb squeeze finish answered left left_by
computed = refl

-- What each permutation makes of the state 0, 1, .., 23, by the second implementation (tests/oracle).
pub permutations_of_one_state : let s = tabulate 24 (λ k. k) in
    (permutation (parameters BabyBear) s
    ≡ 1388997836 ∷ 948162243 ∷ 1299935936 ∷ 1025156667 ∷ 515334320 ∷ 1361602483 ∷ 546021127 ∷ 900157588 ∷ 1193585924 ∷ 1723824986 ∷ 1518293279 ∷ 475657192 ∷
    4224694 ∷ 1309519042 ∷ 867247226 ∷ 230798774 ∷ 1889843499 ∷ 86006077 ∷ 1548273803 ∷ 983866312 ∷ 738482988 ∷ 1675543977 ∷ 27100451 ∷ 609882057 ∷ [])
    × (permutation (parameters KoalaBear) s
    ≡ 510806392 ∷ 1355501408 ∷ 1719995572 ∷ 2092411216 ∷ 1988116991 ∷ 488094167 ∷ 1203990344 ∷ 893373600 ∷ 1465575190 ∷ 1079286647 ∷ 1569729795 ∷ 1908110097 ∷
    566821531 ∷ 1378116955 ∷ 867914127 ∷ 1681584149 ∷ 2036892222 ∷ 1911071438 ∷ 892216489 ∷ 814670350 ∷ 1841195610 ∷ 593412065 ∷ 1128049343 ∷ 2112072181 ∷ [])
unfolding permutation rounds add_constants raise raise_all raise_first multiply matrix parameters constants inverses tabulate sum when◌then◌else◌
    baby_bear_constants koala_bear_constants baby_bear_inverses koala_bear_inverses
permutations_of_one_state = (refl, refl)
