-- What START, ABSORB, SQUEEZE and FINISH answer: a number, and the record left. From document 01, "Calls turned away".
use Rattle.std.specs.Prelude.{Bool, true, false, not, List, [], ◌++◌, ℕ, eqb, length}
use Rattle.basics.specs.Logic.{when◌then◌else◌, ◌or◌, all}
use Rattle.basics.specs.Numbers.{accepted, record_not_open, record_not_sound, call_not_in_pattern, element_not_reduced, pattern_not_done, field_unknown, form_unknown}
use Rattle.basics.specs.Refusals.{Row, ◌gets◌⨾◌, first_number}
use Rattle.field.specs.Field.{is_field, is_element}
use Rattle.sha3.specs.Sponge.{sha3}
use Rattle.pattern.specs.Pattern.{merged_words}
use Rattle.pattern.specs.Opening.{Opening, opening_rows}
use Rattle.progress.specs.Place.{in_pattern}
use Rattle.tag.specs.TagString.{is_form, tag_string}
use Rattle.tag.specs.Elements.{tag_elements}
use Rattle.session.specs.Record.{tag_state, opened, wiped, open_record, field_in, absorb_all, squeeze_all, squeezed_all}
use Rattle.session.specs.Soundness.{sound}
use Rattle.session.specs.declared.Session.{Session}

-- a number, and the record that is left
pub record Answer : Type 0 where
  pub number : ℕ
  pub session : Session

-- a number with the record that is left
unfoldable pub giving : ℕ → Session → Answer
giving number r = record { number = number; session = r }

-- "18: field number neither 1 nor 2, before 1 at START"; "22: form number neither 1 nor 2, straight after 18"; "START checks 1 to 6 in number order,
-- whichever word is at fault"
unfoldable pub start_rows : ℕ → ℕ → Opening → List Row
start_rows field form o = not (is_field field) gets field_unknown ⨾ not (is_form form) gets form_unknown ⨾ opening_rows o

-- the number that START gives to a field number, a form number and an opening
unfoldable pub start_number : ℕ → ℕ → Opening → ℕ
start_number field form o = first_number (start_rows field form o)

-- the record that START gives where these are accepted: "SHA3-256 (FIPS 202) of that string is the digest."
unfoldable pub start_record : ℕ → ℕ → Opening → Session
start_record field form o = open_record field form (tag_state (tag_elements (sha3 (tag_string form o)))) (merged_words o.words)

-- START: "a refusal gives a wiped record."
unfoldable pub start : ℕ → ℕ → Opening → Answer
start field form o =
    when eqb (start_number field form o) accepted then giving accepted (start_record field form o) else giving (start_number field form o) wiped

-- the rows about the record, which ABSORB, SQUEEZE and FINISH check first: 7 and 8
unfoldable pub record_rows : Session → List Row
record_rows r = not (eqb r.status opened) gets record_not_open ⨾ not (sound r) gets record_not_sound ⨾ []

-- the rows of a call of n elements of a kind: "ABSORB and SQUEEZE check 7, 8, then accept length 0, then 9"
unfoldable pub call_rows : Bool → ℕ → Session → List Row
call_rows absorbs n r =
    record_rows r
    ++ (eqb n 0 gets accepted ⨾ not (in_pattern r.words r.count r.phase r.done absorbs n) gets call_not_in_pattern ⨾ [])

-- "then 10 (ABSORB only)"
unfoldable pub absorb_rows : Session → List ℕ → List Row
absorb_rows r xs = call_rows true (length xs) r ++ (not (all (is_element (field_in r)) xs) gets element_not_reduced ⨾ [])

-- "FINISH checks 7, 8, 11."
unfoldable pub finish_rows : Session → List Row
finish_rows r = record_rows r ++ (not (eqb r.phase r.count) gets pattern_not_done ⨾ [])

-- "Numbers 9 and 11 wipe the record; 7, 8 and 10 leave it."
unfoldable pub wipes : ℕ → Bool
wipes number = eqb number call_not_in_pattern or eqb number pattern_not_done

-- the answer to a call on a record: its number, and what is left of the record, which is `next` where the call is accepted
unfoldable pub answer_of : ℕ → Session → Session → Answer
answer_of number r next = giving number (when eqb number accepted then next else when wipes number then wiped else r)

-- ABSORB of a list
unfoldable pub absorb : Session → List ℕ → Answer
absorb r xs = answer_of (first_number (absorb_rows r xs)) r (absorb_all r xs)

-- SQUEEZE of n elements
unfoldable pub squeeze : Session → ℕ → Answer
squeeze r n = answer_of (first_number (call_rows false n r)) r (squeeze_all r n)

-- the buffer lent to SQUEEZE, afterwards: "A refused SQUEEZE writes no element."
unfoldable pub squeeze_buffer : Session → List ℕ → List ℕ
squeeze_buffer r buffer =
    when eqb (squeeze r (length buffer)).number accepted then squeezed_all r (length buffer) else buffer

-- FINISH: it wipes the record
unfoldable pub finish : Session → Answer
finish r = answer_of (first_number (finish_rows r)) r wiped
