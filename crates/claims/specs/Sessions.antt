-- Sessions: records stay sound, counts and positions are those of document 01 at every place of a pattern, every session can be finished,
-- copies are forks, calls may be cut, and what is squeezed are elements of the session's field.
-- `start`, `absorb`, `squeeze` and `finish` are those that the contracts of `session` cite.
use Rattle.std.specs.Prelude.{◌≡◌, true, List, ◌++◌, ◌≢◌, ℕ, ◌+◌, ◌≤◌, ◌<◌, length, get_or, take}
use Rattle.std.proofs.Common.{sym, ap, ◌∙◌, arith, eqb-true, eq-eqb}
use Rattle.basics.specs.Logic.{all}
use Rattle.basics.specs.Lists.{Below}
use Rattle.basics.specs.Numbers.{accepted}
use Rattle.field.specs.Field.{is_field, field_of, is_element}
use Rattle.words.specs.Words.{length_of}
use Rattle.pattern.specs.Pattern.{phases, merged_words, sound_words}
use Rattle.counters.specs.Permutations.{permutations_at}
use Rattle.pattern.specs.Opening.{Opening, opening, max_call}
use Rattle.cutting.specs.Cutting.{cut_words, cut_number}
use Rattle.cutting.proofs.Openings.{cut_merges, cut_accepted, accepted_suffices}
use Rattle.tag.specs.TagString.{is_form}
use Rattle.session.specs.Record.{opened, open_record, squeezed_all}
use Rattle.session.specs.Soundness.{sound}
use Rattle.session.specs.Calls.{start, absorb, squeeze}
use Rattle.session.specs.declared.Session.{Session}
use Rattle.session.proofs.SoundRecord.{parts, whole}
use Rattle.basics.proofs.Below.{below_take}
use Rattle.counters.proofs.Bounds.{positions_bound}
use Rattle.runs.specs.Calls.{Call, left, left_by, absorbed, squeezed}
use Rattle.runs.specs.Lengths.{absorb_length}
use Rattle.runs.specs.Runs.{Run, absorbed_of, permutations_of}
use Rattle.runs.proofs.Outcomes.{absorb_takes}
use Rattle.runs.proofs.SoundCalls.{sound_left}
use Rattle.runs.proofs.Opened.{open_sound, start_open, start_sound, start_accepted, accepted_start, sound_run}
use Rattle.runs.proofs.Counted.{count_run, count_whole}
use Rattle.runs.proofs.Finishing.{finishable}
use Rattle.runs.proofs.Reached.{place_reached, end_reached}
use Rattle.runs.proofs.SoundPlaces.{record_reached, started_at}
use Rattle.runs.proofs.Forks.{left_by_append, absorbed_append, squeezed_append}
use Rattle.runs.proofs.SqueezedElements.{squeezed_reduced}
use Rattle.runs.proofs.Cuts.{absorb_part, absorb_cut, squeeze_part, squeeze_cut, squeezed_cut}
use Rattle.runs.proofs.Joined.{absorb_joined, squeeze_joined}

-- START's record is open and sound.
pub start_gives_sound : (field form : ℕ) (o : Opening) → (start field form o).number ≡ accepted
    → ((start field form o).session.status ≡ opened) × (sound (start field form o).session ≡ true)
start_gives_sound field form o e = (start_open field form o e, start_sound field form o e)

-- Every call, refused or not, leaves an open record sound. (A record that is open and not sound is left as it was.)
pub calls_leave_sound : (r : Session) (c : Call) → (r.status ≡ opened → sound r ≡ true)
    → (left r c).status ≡ opened → sound (left r c) ≡ true
calls_leave_sound r c s o = sound_left r c (λ e. s (eqb-true _ _ e)) (eq-eqb _ _ o)

-- Whatever calls are made on START's record, it is sound as long as it is open.
pub sessions_stay_sound : (field form : ℕ) (o : Opening) → (start field form o).number ≡ accepted → (cs : List Call)
    → (left_by (start field form o).session cs).status ≡ opened → sound (left_by (start field form o).session cs) ≡ true
sessions_stay_sound field form o e cs still = sound_run field form o e cs (eq-eqb _ _ still)

-- "Permutations for d elements done in a phase .. Their sum over phases is the count.": that is the record's count at every place that calls
-- lead to.
pub count_at_every_place : (field form : ℕ) (o : Opening) → (start field form o).number ≡ accepted → (cs : List Call)
    → let r = left_by (start field form o).session cs in
    r.status ≡ opened → r.permutations ≡ permutations_at (merged_words o.words) r.phase r.done
count_at_every_place field form o e cs still = count_run field form o e cs (eq-eqb _ _ still)

-- A finished session has counted the permutations of its whole merged pattern, whichever calls its list holds.
pub count_of_session : (a : Run) → permutations_of a ≡ permutations_at (merged_words a.opening.words) (length (merged_words a.opening.words)) 0
count_of_session = count_whole

-- Every place of an accepted pattern is reached: some calls lead START's record to an open record in any phase, with any number of elements
-- below that phase's length done,
pub every_place_is_reached : (field form : ℕ) (o : Opening) → (start field form o).number ≡ accepted → (phase done : ℕ)
    → phase < length (merged_words o.words) → done < length_of (get_or (merged_words o.words) phase 0)
    → (cs : List Call) × (let r = left_by (start field form o).session cs in (r.status ≡ opened) × (r.phase ≡ phase) × (r.done ≡ done))
every_place_is_reached field form o e phase done h l =
    let reached = place_reached field form o e phase done h l in
    (reached.0, (reached.1.opens, reached.1.phase, reached.1.done))

-- and some to one after the last phase.
pub every_end_is_reached : (field form : ℕ) (o : Opening) → (start field form o).number ≡ accepted
    → (cs : List Call)
    × (let r = left_by (start field form o).session cs in (r.status ≡ opened) × (r.phase ≡ length (merged_words o.words)) × (r.done ≡ 0))
every_end_is_reached field form o e =
    let reached = end_reached field form o e in
    (reached.0, (reached.1.opens, reached.1.phase, reached.1.done))

-- "count and positions are those the steps give at that place": from the begin of its pattern, with any state of elements, some calls lead to a record
-- that is this one in all but the state, for every open sound record. (`open_record` is the record that START makes of a field number, a form number, a
-- state and merged words. There are 64 words in every record that a caller can hand over.)
pub sound_records_are_reached : (r : Session) → length r.words ≡ 64 → r.status ≡ opened → sound r ≡ true
    → (state : List ℕ) → all (is_element (field_of r.field)) state ≡ true
    → (cs : List Call)
    × (let t = left_by (open_record r.field r.form state (take r.count r.words)) cs in
    (◌≡◌ {A = Session}
    (record {
      status = t.status;
      field = t.field;
      form = t.form;
      state = r.state;
      words = t.words;
      count = t.count;
      phase = t.phase;
      done = t.done;
      absorb_position = t.absorb_position;
      squeeze_position = t.squeeze_position;
      permutations = t.permutations;
    })
    r))
sound_records_are_reached r long opens e state elements = record_reached r (parts r e) state elements opens long

-- Such a begin is sound, whatever 31-bit lengths its words have,
pub begins_are_sound : (field form : ℕ) (state ws : List ℕ) → is_field field ≡ true → is_form form ≡ true → all (is_element (field_of field)) state ≡ true
    → sound_words ws ≡ true → sound (open_record field form state ws) ≡ true
begins_are_sound field form state ws known formed elements pattern =
    whole (open_record field form state ws) (open_sound field form state ws known formed elements pattern)

-- and a sound record's words are a sound word list, wherever it is.
pub sound_records_have_sound_words : (r : Session) → sound r ≡ true → sound_words (take r.count r.words) ≡ true
sound_records_have_sound_words r e = (parts r e).pattern

-- START makes a begin of the words, cut, where 64 calls suffice: with any separator of at most 256 bytes. (Words are of 32 bits.)
pub sound_records_are_opened : (r : Session) → Below 4294967296 r.words → sound r ≡ true
    → let ws = take r.count r.words in
    cut_number ws ≡ accepted → (separator : List ℕ) → length separator ≤ 256
    → let a = start r.field r.form (opening (cut_words max_call ws) separator) in
    (a.number ≡ accepted)
    × ((state : List ℕ) × (all (is_element (field_of r.field)) state ≡ true) × (a.session ≡ open_record r.field r.form state ws))
sound_records_are_opened r fits e suffice separator short =
    let s = parts r e in
    let ws = take r.count r.words in
    let bits = below_take _ r.count r.words fits in
    let o = opening (cut_words max_call ws) separator in
    let opens = accepted_start r.field r.form o s.known s.formed (cut_accepted ws s.pattern bits suffice separator short) in
    let (state, elements, begun) = started_at r.field r.form o opens in
    (opens, (state, elements, begun ∙ ap (open_record r.field r.form state) (cut_merges ws s.pattern bits)))

-- Where they do not, START opens no session with these merged words, in any field.
pub other_records_are_not_opened : (r : Session) → sound r ≡ true
    → let ws = take r.count r.words in
    cut_number ws ≢ accepted → (field form : ℕ) (o : Opening) → phases o.words ≡ phases ws → (start field form o).number ≢ accepted
other_records_are_not_opened r e over field form o same a = over (accepted_suffices _ (parts r e).pattern o (start_accepted field form o a) same)

-- "an absorb and a squeeze position (0 to 8)": neither position of a sound record is above 8.
pub positions_are_0_to_8 : (r : Session) → sound r ≡ true → (r.absorb_position ≤ 8) × (r.squeeze_position ≤ 8)
positions_are_0_to_8 r e =
    let s = parts r e in
    let bound = positions_bound r.words r.phase r.done in
    (omega (arith, s.absorbs_at, bound.absorbs), omega (arith, s.squeezes_at, bound.squeezes))

-- Every opened session can be finished by some list of calls, whatever elements of its field it is to absorb.
pub every_session_finishes : (field form : ℕ) (o : Opening) (xs : List ℕ) → (start field form o).number ≡ accepted
    → length xs ≡ absorb_length (phases o.words) → all (is_element (field_of field)) xs ≡ true
    → (a : Run) × (a.field ≡ field) × (a.form ≡ form) × (a.opening ≡ o) × (absorbed_of a ≡ xs)
every_session_finishes = finishable

-- "A copied record is a fork. Each copy goes on by itself." "A fork's list is that of its original up to the copying, then its own calls.":
-- what the later calls ds do, absorb and squeeze is what they do to the copied record. (It holds of whatever is folded over calls: a call gets
-- the record, and nothing else.)
pub copies_are_forks : (r : Session) (cs ds : List Call)
    → (left_by r (cs ++ ds) ≡ left_by (left_by r cs) ds)
    × (absorbed r (cs ++ ds) ≡ absorbed r cs ++ absorbed (left_by r cs) ds)
    × (squeezed r (cs ++ ds) ≡ squeezed r cs ++ squeezed (left_by r cs) ds)
copies_are_forks r cs ds = (left_by_append r cs ds, absorbed_append r cs ds, squeezed_append r cs ds)

-- "they may be cut freely inside it": an accepted ABSORB does what its two parts do one after the other, and both are accepted.
pub absorb_cut_freely : (r : Session) (xs ys : List ℕ) → (absorb r (xs ++ ys)).number ≡ accepted
    → ((absorb r xs).number ≡ accepted) × (absorb (absorb r xs).session ys ≡ absorb r (xs ++ ys))
absorb_cut_freely r xs ys e = (absorb_part r xs ys e, absorb_cut r xs ys e)

-- "they may be cut freely inside it": an accepted SQUEEZE does what its two parts do one after the other, both are accepted, and they write
-- the same elements.
pub squeeze_cut_freely : (r : Session) (n m : ℕ) → (squeeze r (n + m)).number ≡ accepted
    → ((squeeze r n).number ≡ accepted) × (squeeze (squeeze r n).session m ≡ squeeze r (n + m))
    × (squeezed_all r (n + m) ≡ squeezed_all r n ++ squeezed_all (squeeze r n).session m)
squeeze_cut_freely r n m e = (squeeze_part r n m e, squeeze_cut r n m e, squeezed_cut r n m e)

-- And the other way round: parts that are accepted one behind the other are accepted as one call, of any length, with the same record and elements.
-- (They lie in one phase, since kinds alternate.)
pub absorb_joined_freely : (r : Session) (xs ys : List ℕ) → (absorb r xs).number ≡ accepted → (absorb (absorb r xs).session ys).number ≡ accepted
    → absorb r (xs ++ ys) ≡ absorb (absorb r xs).session ys
absorb_joined_freely r xs ys e f = sym (absorb_cut r xs ys (absorb_joined r xs ys e f))

pub squeeze_joined_freely : (r : Session) (n m : ℕ) → (squeeze r n).number ≡ accepted → (squeeze (squeeze r n).session m).number ≡ accepted
    → (squeeze r (n + m) ≡ squeeze (squeeze r n).session m) × (squeezed_all r (n + m) ≡ squeezed_all r n ++ squeezed_all (squeeze r n).session m)
squeeze_joined_freely r n m e f = let whole-call = squeeze_joined r n m e f in (sym (squeeze_cut r n m whole-call), squeezed_cut r n m whole-call)

-- What an accepted ABSORB takes in are elements of the record's field,
pub absorbed_are_elements : (r : Session) (xs : List ℕ) → (absorb r xs).number ≡ accepted → all (is_element (field_of r.field)) xs ≡ true
absorbed_are_elements r xs e = (absorb_takes r xs e).1

-- and what is squeezed from a sound record are elements of its field: numbers below that field's p.
pub squeezed_are_elements : (r : Session) (n : ℕ) → sound r ≡ true → all (is_element (field_of r.field)) (squeezed_all r n) ≡ true
squeezed_are_elements r n e = squeezed_reduced n r (parts r e).reduced
