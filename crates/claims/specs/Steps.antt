-- What calls do with a record, row by row and element by element: which number each call gives, what it leaves, and what one element does to positions
-- and count. The definitions are those that the contracts of `session`, `tag` and `tag_reader` cite; here their figures are written out.
use Rattle.std.specs.Prelude.{◌≡◌, refl, true, false, not, List, [], ◌∷◌, ◌++◌, ◌≢◌, ℕ, suc, ◌+◌, ◌-◌, ◌%◌, ◌<◌, leb, ltb, eqb, length, get_or, take, drop, replicate}
use Rattle.std.proofs.Common.{sym, ap, ◌∙◌, mod-eq_of_lt, arith, eq-eqb, ne_eqb}
use Rattle.basics.specs.Logic.{when◌then◌else◌, ◌and◌, ◌or◌, same, all, any}
use Rattle.basics.specs.Digits.{number}
use Rattle.basics.specs.Numbers.{accepted}
use Rattle.basics.specs.Refusals.{Row, ◌gets◌⨾◌, first_number}
use Rattle.basics.proofs.Cases.{if_true, if_false}
use Rattle.basics.proofs.Placed.{placed_start}
use Rattle.field.specs.Field.{is_field, field_of, is_element}
use Rattle.progress.specs.Place.{in_pattern, next_place}
use Rattle.progress.specs.declared.place.Place.{Place}
use Rattle.sha3.specs.Sponge.{sha3}
use Rattle.pattern.specs.Pattern.{merged_words}
use Rattle.pattern.specs.Opening.{Opening, opening, word_rows, opening_rows, with_words}
use Rattle.pattern.specs.Opening.{WordList}
use Rattle.pattern.proofs.Answers.{words_used}
use Rattle.pattern.proofs.Given.{given_accepted, given_refused}
use Rattle.tag.specs.TagString.{is_form, tag_string, buffer_rows, write_rows, write_number, written_with, written, buffer_after}
use Rattle.tag.specs.TagString.{body_of, length_in, words_part, sound_bytes, body_rows, tail_missing, read_rows, read_number, read_words, words_read, read_separator, words_of}
use Rattle.tag.specs.Elements.{tag_elements}
use Rattle.tag.proofs.Writing.{string_in_front, buffer_left}
use Rattle.tag.proofs.Reading.{number_read, read_accepted, read_refused, separator_refused}
use Rattle.counters.specs.Positions.{in_last_block, positions_after, positions_at}
use Rattle.words.specs.Words.{is_absorb, length_of}
use Rattle.sponge.specs.Sponge.{absorb_element, squeeze_element, ready_to_absorb, ready_to_squeeze}
use Rattle.sponge.specs.Sponge.{Sponge}
use Rattle.session.specs.Record.{wiped, tag_state, open_record, sponge_of, moved, absorb_one, squeeze_one, squeezed_one, absorb_all, squeeze_all, squeezed_all}
use Rattle.session.specs.Soundness.{sound}
use Rattle.session.specs.Calls.{giving, start_rows, start_number, start_record, start, record_rows, call_rows, absorb_rows, finish_rows, wipes, answer_of, absorb, squeeze, squeeze_buffer, finish}
use Rattle.session.specs.declared.Session.{Session}
use Rattle.session.proofs.SoundRecord.{parts}

-- A table of refusals gives the number of its first row that applies, whatever the numbers are, and 0 where none does.
pub rows_in_order : (n : ℕ) (rows : List Row)
    → (first_number [] ≡ 0) × (first_number (true gets n ⨾ rows) ≡ n) × (first_number (false gets n ⨾ rows) ≡ first_number rows)
unfolding first_number when◌then◌else◌
rows_in_order n rows = (refl, refl, refl)

-- An answer is its number and the record that is left, whatever they are.
pub parts_of_an_answer : (n : ℕ) (r : Session) → ((giving n r).number ≡ n) × ((giving n r).session ≡ r)
unfolding giving
parts_of_an_answer n r = (refl, refl)

-- "ABSORB and SQUEEZE check 7, 8, then accept length 0, then 9, then 10 (ABSORB only)." "Numbers 9 and 11 wipe the record; 7, 8 and 10 leave it."
pub absorb_row_by_row : (r : Session) (xs : List ℕ)
    → let n =
    first_number
    (not (eqb r.status 1) gets 7 ⨾
    not (sound r) gets 8 ⨾
    eqb (length xs) 0 gets 0 ⨾
    not (in_pattern r.words r.count r.phase r.done true (length xs)) gets 9 ⨾
    not (all (is_element (field_of r.field)) xs) gets 10 ⨾
    []) in
    absorb r xs ≡ giving n (when eqb n 0 then absorb_all r xs else when eqb n 9 or eqb n 11 then wiped else r)
unfolding absorb answer_of wipes absorb_rows call_rows record_rows
absorb_row_by_row r xs = refl

pub squeeze_row_by_row : (r : Session) (k : ℕ)
    → let n =
    first_number
    (not (eqb r.status 1) gets 7 ⨾
    not (sound r) gets 8 ⨾
    eqb k 0 gets 0 ⨾
    not (in_pattern r.words r.count r.phase r.done false k) gets 9 ⨾
    []) in
    squeeze r k ≡ giving n (when eqb n 0 then squeeze_all r k else when eqb n 9 or eqb n 11 then wiped else r)
unfolding squeeze answer_of wipes call_rows record_rows
squeeze_row_by_row r k = refl

-- The same, with the condition of 9 by its figures: "wrong kind, past the phase's end, or after the last phase".
pub absorb_by_figures : (r : Session) (xs : List ℕ)
    → let word = get_or r.words r.phase 0 in
    let n =
    first_number
    (not (eqb r.status 1) gets 7 ⨾
    not (sound r) gets 8 ⨾
    eqb (length xs) 0 gets 0 ⨾
    not (ltb r.phase r.count and is_absorb word and leb (r.done + length xs) (length_of word)) gets 9 ⨾
    not (all (is_element (field_of r.field)) xs) gets 10 ⨾
    []) in
    absorb r xs ≡ giving n (when eqb n 0 then absorb_all r xs else when eqb n 9 or eqb n 11 then wiped else r)
unfolding absorb answer_of wipes absorb_rows call_rows record_rows in_pattern same
absorb_by_figures r xs = refl

pub squeeze_by_figures : (r : Session) (k : ℕ)
    → let word = get_or r.words r.phase 0 in
    let n =
    first_number
    (not (eqb r.status 1) gets 7 ⨾
    not (sound r) gets 8 ⨾
    eqb k 0 gets 0 ⨾
    not (ltb r.phase r.count and not (is_absorb word) and leb (r.done + k) (length_of word)) gets 9 ⨾
    []) in
    squeeze r k ≡ giving n (when eqb n 0 then squeeze_all r k else when eqb n 9 or eqb n 11 then wiped else r)
unfolding squeeze answer_of wipes call_rows record_rows in_pattern same
squeeze_by_figures r k = refl

-- "A refused SQUEEZE writes no element.": the buffer is what it was, for every record and buffer; accepted, it holds as many elements as it has places.
pub what_squeezing_leaves : (r : Session) (buffer : List ℕ)
    → let n = (squeeze r (length buffer)).number in
    (n ≢ accepted → squeeze_buffer r buffer ≡ buffer) × (n ≡ accepted → squeeze_buffer r buffer ≡ squeezed_all r (length buffer))
unfolding squeeze_buffer
what_squeezing_leaves r buffer = (λ refused. if_false _ _ _ (ne_eqb _ _ refused), λ e. if_true _ _ _ (eq-eqb _ _ e))

-- "Length 0 on an open sound record is accepted and changes nothing."
pub empty_calls_change_nothing : (r : Session) → r.status ≡ 1 → sound r ≡ true
    → (absorb r [] ≡ giving 0 r) × (squeeze r 0 ≡ giving 0 r) × (squeezed_all r 0 ≡ [])
unfolding absorb squeeze answer_of absorb_rows call_rows record_rows first_number absorb_all squeeze_all squeezed_all when◌then◌else◌
empty_calls_change_nothing r opens e = (rw (eq-eqb _ _ opens, e) refl, rw (eq-eqb _ _ opens, e) refl, refl)

-- "FINISH checks 7, 8, 11."
pub finish_row_by_row : (r : Session)
    → let n = first_number (not (eqb r.status 1) gets 7 ⨾ not (sound r) gets 8 ⨾ not (eqb r.phase r.count) gets 11 ⨾ []) in
    finish r ≡ giving n (when eqb n 0 then wiped else when eqb n 9 or eqb n 11 then wiped else r)
unfolding finish answer_of wipes finish_rows record_rows
finish_row_by_row r = refl

-- "18: .. before 1 at START"; "22: .. straight after 18"; "START checks 1 to 6 in number order, whichever word is at fault, and a refusal gives a wiped
-- record", with 19 behind 2. Accepted, it hashes the string of its form, and the record is open, keeps both numbers and has zeros in all else.
pub start_row_by_row : (field form : ℕ) (ws separator : List ℕ)
    → let n =
    first_number
    (not (is_field field) gets 18 ⨾
    not (is_form form) gets 22 ⨾
    eqb (length ws) 0 or ltb 64 (length ws) gets 1 ⨾
    any (λ w. eqb (length_of w) 0) ws gets 2 ⨾
    any (λ w. ltb 16777216 (length_of w)) ws gets 19 ⨾
    not (is_absorb (get_or ws 0 0)) gets 3 ⨾
    ltb 256 (length separator) gets 6 ⨾
    []) in
    let merged = merged_words ws in
    start field form (opening ws separator)
    ≡ (when eqb n 0 then
    giving 0
    (record {
      status = 1;
      field = field;
      form = form;
      state = replicate 8 0 ++ tag_elements (sha3 (tag_string form (opening ws separator))) ++ replicate 8 0;
      words = merged ++ replicate (64 - length merged) 0;
      count = length merged;
      phase = 0;
      done = 0;
      absorb_position = 0;
      squeeze_position = 0;
      permutations = 0;
    })
    else giving n wiped)
unfolding start start_number start_rows opening_rows word_rows start_record open_record tag_state
start_row_by_row field form ws separator = refl

-- "Writing checks 1 to 6, then 12", with 22 "first" and 19 behind 2: 12 for a "lent buffer shorter than the tag string" of the form.
pub writing_row_by_row : (form : ℕ) (ws separator buffer : List ℕ)
    → (written form (opening ws separator) buffer).number
    ≡ first_number
    (not (is_form form) gets 22 ⨾
    eqb (length ws) 0 or ltb 64 (length ws) gets 1 ⨾
    any (λ w. eqb (length_of w) 0) ws gets 2 ⨾
    any (λ w. ltb 16777216 (length_of w)) ws gets 19 ⨾
    not (is_absorb (get_or ws 0 0)) gets 3 ⨾
    ltb 256 (length separator) gets 6 ⨾
    ltb (length buffer) (length (tag_string form (opening ws separator))) gets 12 ⨾
    [])
unfolding written written_with write_number write_rows buffer_rows opening_rows word_rows
writing_row_by_row form ws separator buffer = refl

-- "it writes from the buffer's start and only the string's bytes, and none when refused"
pub what_writing_leaves : (form : ℕ) (o : Opening) (buffer : List ℕ)
    → let string = tag_string form o in
    ((written form o buffer).number ≡ accepted
    → ((written form o buffer).length ≡ length string) × (buffer_after form o buffer ≡ string ++ drop (length string) buffer))
    × ((written form o buffer).number ≢ accepted → ((written form o buffer).length ≡ 0) × (buffer_after form o buffer ≡ buffer))
unfolding written written_with buffer_after
what_writing_leaves form o buffer =
    let n = write_number form o buffer in
    let string = tag_string form o in (
      λ e. (ap length (given_accepted n string e), string_in_front n string buffer e ∙ placed_start buffer string),
      λ e. (ap length (given_refused n string (ne_eqb n accepted e)), buffer_left n string buffer e),
    )

-- "Reading checks 6 (the length given), then 13", in form 1.
pub reading_row_by_row : (s : List ℕ) (n : ℕ)
    → read_number 1 s n ≡ first_number (ltb 256 n gets 6 ⨾ ltb (length s) n gets 13 ⨾ not (sound_bytes (words_part s n)) gets 13 ⨾ [])
unfolding read_number read_rows body_rows body_of length_in tail_missing is_form first_number when◌then◌else◌ ◌and◌ ◌or◌
reading_row_by_row s n = refl

-- "Reading form 2 goes by the string's last four bytes and ignores any length given."; "In form 2 a string under four bytes, or one whose tail names
-- more bytes than precede it, gets 13, and a tail above 256 gets 6 before that."
pub reading_form_2_row_by_row : (s : List ℕ) (n : ℕ)
    → let before = take (length s - 4) s in
    let named = number 256 (drop (length s - 4) s) in
    read_number 2 s n
    ≡ first_number
    (ltb (length s) 4 gets 13 ⨾ ltb 256 named gets 6 ⨾ ltb (length before) named gets 13 ⨾ not (sound_bytes (words_part before named)) gets 13 ⨾ [])
unfolding read_number read_rows body_rows body_of length_in tail_missing is_form first_number when◌then◌else◌ ◌and◌ ◌or◌
reading_form_2_row_by_row s n = refl

-- "the number comes with the words", which stand in 64 places with zeros behind them; "Refused, it gives 64 zero words and count 0.", and the separator is
-- "empty on a refusal", in either form.
pub what_reading_gives : (form : ℕ) (s : List ℕ) (n : ℕ)
    → ((read_words form s n).number ≡ read_number form s n)
    × (read_number form s n ≡ accepted → (read_words form s n).words ≡ words_read form s n ++ replicate (64 - (read_words form s n).count) 0)
    × (read_number form s n ≢ accepted
    → ((read_words form s n).words ≡ replicate 64 0) × ((read_words form s n).count ≡ 0) × (read_separator form s n ≡ []))
unfolding with_words
what_reading_gives form s n = (
  sym (number_read form s n (read_words form s n) refl),
  λ e.
      let ws = words_of (words_part (body_of form s) (length_in form s n)) in
      rw (read_accepted form s n e) (sym (ap (λ (l : List ℕ). l ++ replicate (64 - length ws) 0) (words_used accepted ws))),
  λ refused.
      let none = read_refused form s n (read_number form s n) (ne_eqb _ accepted refused) refl in
      (ap (λ (r : WordList). r.words) none, ap (λ (r : WordList). r.count) none, separator_refused form s n refused),
)

-- An accepted call of one element does what one element does. (Longer calls are cut freely: `claims/Sessions.absorb_cut_freely` and the one behind it.)
pub absorb_of_one : (r : Session) (x : ℕ) → (absorb r (x ∷ [])).number ≡ accepted → (absorb r (x ∷ [])).session ≡ absorb_one r x
unfolding absorb answer_of giving absorb_all
absorb_of_one r x e = if_true _ _ _ (eq-eqb _ _ e)

pub squeeze_of_one : (r : Session) → (squeeze r 1).number ≡ accepted → ((squeeze r 1).session ≡ squeeze_one r) × (squeezed_all r 1 ≡ squeezed_one r ∷ [])
unfolding squeeze answer_of giving squeeze_all squeezed_all
squeeze_of_one r e = (if_true _ _ _ (eq-eqb _ _ e), refl)

-- "If that is 8, it permutes and goes to 0 first. A call of at least one element then sets the squeeze position to 8.": the absorb position, the squeeze
-- position and the count behind one element absorbed,
pub absorb_moves_positions : (r : Session) (x : ℕ)
    → let t = absorb_one r x in
    (r.absorb_position < 8
    → (t.absorb_position ≡ r.absorb_position + 1) × (t.squeeze_position ≡ 8) × (t.permutations ≡ r.permutations))
    × (r.absorb_position ≡ 8 → (t.absorb_position ≡ 1) × (t.squeeze_position ≡ 8) × (t.permutations ≡ r.permutations + 1))
unfolding absorb_one moved absorb_element ready_to_absorb sponge_of
absorb_moves_positions r x = (
  λ l.
      let none = if_false _ _ _ (ne_eqb r.absorb_position 8 (λ e. absurd (omega (arith, l, e)))) in
      (ap (λ (t : Sponge). t.absorb_position % 8 + 1) none ∙ ap (λ (k : ℕ). k + 1) (mod-eq_of_lt l), refl, ap (λ (t : Sponge). t.permutations) none),
  λ e.
      let permutes = if_true _ _ _ (eq-eqb r.absorb_position 8 e) in
      (ap (λ (t : Sponge). t.absorb_position % 8 + 1) permutes, refl, ap (λ (t : Sponge). t.permutations) permutes),
)

-- and behind one squeezed: "If that is 8, it first permutes and sets both positions to 0. Squeezing does not otherwise move the absorb position".
pub squeeze_moves_positions : (r : Session)
    → let t = squeeze_one r in
    (r.squeeze_position < 8
    → (t.absorb_position ≡ r.absorb_position) × (t.squeeze_position ≡ r.squeeze_position + 1) × (t.permutations ≡ r.permutations))
    × (r.squeeze_position ≡ 8 → (t.absorb_position ≡ 0) × (t.squeeze_position ≡ 1) × (t.permutations ≡ r.permutations + 1))
unfolding squeeze_one moved squeeze_element ready_to_squeeze sponge_of
squeeze_moves_positions r = (
  λ l.
      let none = if_false _ _ _ (ne_eqb r.squeeze_position 8 (λ e. absurd (omega (arith, l, e)))) in (
        ap (λ (t : Sponge). t.absorb_position) none,
        ap (λ (t : Sponge). t.squeeze_position % 8 + 1) none ∙ ap (λ (k : ℕ). k + 1) (mod-eq_of_lt l),
        ap (λ (t : Sponge). t.permutations) none,
      ),
  λ e.
      let permutes = if_true _ _ _ (eq-eqb r.squeeze_position 8 e) in (
        ap (λ (t : Sponge). t.absorb_position) permutes,
        ap (λ (t : Sponge). t.squeeze_position % 8 + 1) permutes,
        ap (λ (t : Sponge). t.permutations) permutes,
      ),
)

-- "When a phase's last element is done, the phase number (from 0) rises by one and elements done is 0.": the place behind one element, absorbed or
-- squeezed.
pub elements_move_the_place : (r : Session) (x : ℕ)
    → let all-of-it = length_of (get_or r.words r.phase 0) in
    (suc r.done ≡ all-of-it
    → ((absorb_one r x).phase ≡ suc r.phase) × ((absorb_one r x).done ≡ 0) × ((squeeze_one r).phase ≡ suc r.phase) × ((squeeze_one r).done ≡ 0))
    × (suc r.done ≢ all-of-it
    → ((absorb_one r x).phase ≡ r.phase) × ((absorb_one r x).done ≡ suc r.done) × ((squeeze_one r).phase ≡ r.phase) × ((squeeze_one r).done ≡ suc r.done))
unfolding absorb_one squeeze_one moved next_place
elements_move_the_place r x = (
  λ e.
      let next = if_true _ _ _ (eq-eqb _ _ e) in
      let phase = ap (λ (p : Place). p.phase) next in
      let done = ap (λ (p : Place). p.done) next in
      (phase, done, phase, done),
  λ n.
      let next = if_false _ _ _ (ne_eqb _ _ n) in
      let phase = ap (λ (p : Place). p.phase) next in
      let done = ap (λ (p : Place). p.done) next in
      (phase, done, phase, done),
)

-- An element leaves all else of the record: status, numbers of field and form, words and their count.
pub elements_leave_the_rest : (r : Session) (x : ℕ)
    → ((absorb_one r x).status ≡ r.status) × ((absorb_one r x).field ≡ r.field) × ((absorb_one r x).form ≡ r.form)
    × ((absorb_one r x).words ≡ r.words) × ((absorb_one r x).count ≡ r.count)
    × ((squeeze_one r).status ≡ r.status) × ((squeeze_one r).field ≡ r.field) × ((squeeze_one r).form ≡ r.form)
    × ((squeeze_one r).words ≡ r.words) × ((squeeze_one r).count ≡ r.count)
unfolding absorb_one squeeze_one moved
elements_leave_the_rest r x = (refl, refl, refl, refl, refl, refl, refl, refl, refl, refl)

-- A sound record has the positions of its place; at the end of a pattern that ends by absorbing they are those behind its last block: 8 elements leave the
-- absorb position at 8, and 9 at 1, with the squeeze position at 8.
pub positions_of_sound_records : (r : Session) → sound r ≡ true
    → let at = positions_at r.words r.phase r.done in
    (r.absorb_position ≡ at.absorb) × (r.squeeze_position ≡ at.squeeze)
positions_of_sound_records r e = let s = parts r e in (s.absorbs_at, s.squeezes_at)

pub positions_behind_a_last_absorb :
    (positions_at (0x80000008 ∷ []) 1 0 ≡ record { absorb = 8; squeeze = 8 })
    × (positions_at (0x80000009 ∷ []) 1 0 ≡ record { absorb = 1; squeeze = 8 })
unfolding positions_at positions_after in_last_block is_absorb length_of when◌then◌else◌
positions_behind_a_last_absorb = (refl, refl)
