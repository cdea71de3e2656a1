-- What patterns get whose last call is SQUEEZE. By document 01 there were no others: 4 is for "last word is ABSORB (003: pairs only)", and an open
-- record is sound only if its words are "2 to 64, even in number". Document 02, P6: "Every pattern accepted before gets the same tag and, for the same
-- list of calls, the same elements and count, and this is proved." Rules of pairs are those of document 01 with the requests before; rules are what
-- START, and what each call, answers. The tag strings of then are "today's", which P8 calls form 1.
use Rattle.std.specs.Prelude.{◌≡◌, Bool, true, false, List, [], ◌∷◌, ◌++◌, ◌≢◌, ◌↔◌, ℕ, ◌-◌, ◌%◌, ◌≤◌, leb, ltb, eqb, length, get_or}
use Rattle.std.proofs.Math.Path.{refl, sym, ap}
use Rattle.std.proofs.Common.{ap₂, ◌∙◌, true≢false, arith}
use Rattle.std.proofs.Math.Bool.{not}
use borrow.Author.Tests.{le-leb, eq-eqb, ne_eqb, eqb-true, ltb-false, le-ltb, not-false}
use Rattle.std.proofs.lemmas.List.{length-map}
use Rattle.basics.specs.Logic.{when◌then◌else◌, ◌and◌, ◌or◌, same, all, any}
use Rattle.basics.specs.Digits.{number, number_after}
use Rattle.basics.specs.Lists.{tabulate, sum}
use Rattle.counters.specs.Permutations.{block_count, phase_permutations, permutations_at, full_permutations}
use Rattle.tag.specs.TagString.{is_form, word_at, words_of, body_of, length_in, words_part, sound_bytes, body_rows, tail_missing, read_rows, read_number}
use Rattle.basics.specs.Numbers.{accepted, last_word_absorb, separator_too_long, record_not_sound, field_unknown}
use Rattle.basics.specs.Refusals.{Row, ◌gets◌⨾◌, first_number}
use Rattle.basics.proofs.Cases.{by, cases, if_true, if_false, or_false, and_stop, and_false}
use Rattle.basics.proofs.FirstRow.{accepted_none, none_applies}
use Rattle.field.specs.Field.{is_field}
use Rattle.words.specs.Words.{is_absorb, length_of, phase_of, word_of}
use Rattle.pattern.specs.Pattern.{join, merge, phases, merged_words, alternate, sound_words}
use Rattle.pattern.specs.Opening.{Opening, opening, max_separator, word_rows}
use Rattle.pattern.proofs.StartCheck.{PassedWords, PassedRows, passes, passed_rows}
use Rattle.pattern.proofs.MergedWords.{even_words, some_phases}
use Rattle.session.specs.Record.{opened, wiped, squeezed_all}
use Rattle.session.specs.Soundness.{sound}
use Rattle.session.specs.Calls.{giving, start_record, start}
use Rattle.session.specs.declared.Session.{Session}
use Rattle.session.specs.Calls.{Answer}
use Rattle.session.proofs.Opening.{start_opens}
use Rattle.runs.specs.Calls.{Call, ABSORB, SQUEEZE, FINISH, answered, accepts, left, left_by, squeezed_in}
use Rattle.runs.proofs.EnclosedCalls.{not_sound_refused}
use Rattle.runs.proofs.Opened.{start_known, start_accepted}
use Rattle.runs.proofs.Counted.{start_count}
use Rattle.runs.proofs.SamePattern.{same_left_by}
use Rattle.claims.specs.Forms.{forms_by_number}

-- the last of words
abbrev last_of : List ℕ → ℕ
last_of ws = get_or ws (length ws - 1) 0

-- the rows of START, with that of 4 in its place: behind the others about words, and before that of the separator
unfoldable pub pair_rows : ℕ → Opening → List Row
pair_rows field o =
    not (is_field field) gets field_unknown ⨾
    word_rows o.words ++
    (is_absorb (last_of o.words) gets last_word_absorb ⨾
    ltb max_separator (length o.separator) gets separator_too_long ⨾
    [])

-- START by the rules of pairs
unfoldable pub pair_start : ℕ → Opening → Answer
pair_start field o =
    let number = first_number (pair_rows field o) in
    when eqb number accepted then giving accepted (start_record field 1 o) else giving number wiped

-- a sound record by the rules of pairs: "its words are 2 to 64, even in number"
unfoldable pub pair_sound : Session → Bool
pair_sound r = sound r and leb 2 r.count and eqb (r.count % 2) 0

-- a call by the rules of pairs: an "open record not sound" gets 8 and is left; else nothing looks at the number of words
unfoldable pub pair_answered : Session → Call → Answer
pair_answered r c = when eqb r.status opened and not (pair_sound r) then giving record_not_sound r else answered r c

-- what a call gives: its number and the record that it leaves, and the elements that it writes
pub record Outcome : Type 0 where
  pub answer : Answer
  pub writes : List ℕ

-- the elements that a call writes on a record, by its answer: "A refused SQUEEZE writes no element."
unfoldable pub writes_by : Answer → Session → Call → List ℕ
writes_by a r (ABSORB xs) = []
writes_by a r (SQUEEZE n) = when eqb a.number accepted then squeezed_all r n else []
writes_by a r FINISH = []

-- what a list of calls gives by some rules, call by call: "each later one gets it as the call before left it"
unfoldable pub outcomes : (Session → Call → Answer) → Session → List Call → List Outcome
outcomes rules r [] = []
outcomes rules r (c ∷ cs) = record { answer = rules r c; writes = writes_by (rules r c) r c } ∷ outcomes rules (rules r c).session cs

both_pass : true and not (true and true and true) ≡ false
unfolding ◌and◌
both_pass = refl

one_fails : true and not false ≡ true
unfolding ◌and◌
one_fails = refl

same_writes : (r : Session) (c : Call) → writes_by (answered r c) r c ≡ squeezed_in r c
unfolding writes_by squeezed_in accepts
same_writes r (ABSORB xs) = refl
same_writes r (SQUEEZE n) = refl
same_writes r FINISH = refl

pair_sound_law : (r : Session) → pair_sound r ≡ sound r and leb 2 r.count and eqb (r.count % 2) 0
unfolding pair_sound
pair_sound_law r = refl

-- ---- what START gives

module _ (field : ℕ) (o : Opening) where
  pair_number : (pair_start field o).number ≡ first_number (pair_rows field o)
  unfolding pair_start giving
  pair_number = by (λ (a : Answer). a.number ≡ first_number (pair_rows field o)) _ _ _ (λ e. sym (eqb-true _ _ e)) λ _. refl

  pair_accepted : first_number (pair_rows field o) ≡ accepted → pair_start field o ≡ giving accepted (start_record field 1 o)
  unfolding pair_start
  pair_accepted e = if_true _ _ _ (eq-eqb _ _ e)

  -- what passed the rules of pairs
  pair_passed : first_number (pair_rows field o) ≡ accepted → (is_field field ≡ true) × PassedRows o × (is_absorb (last_of o.words) ≡ false)
  unfolding pair_rows word_rows all any ◌and◌
  pair_passed e =
      let a0 = or_false _ _ (accepted_none (pair_rows field o) refl e) in
      let a1 = or_false _ _ a0.1 in
      let a2 = or_false _ _ a1.1 in
      let a3 = or_false _ _ a2.1 in
      let a4 = or_false _ _ a3.1 in
      let a5 = or_false _ _ a4.1 in
      let a6 = or_false _ _ a5.1 in (
        not-false _ a0.0,
        record {
          of_words = record { e1 = a1.0; e2 = a2.0; e19 = a3.0; e3 = a4.0 };
          short = ltb-false max_separator (length o.separator) a6.0;
        },
        a5.0,
      )

  pair_passes : is_field field ≡ true → PassedRows o → is_absorb (last_of o.words) ≡ false → first_number (pair_rows field o) ≡ accepted
  unfolding pair_rows word_rows any ◌or◌
  pair_passes known p squeezes =
      let w = p.of_words in
      none_applies (pair_rows field o)
      (rw (ap not known, w.e1, w.e2, w.e19, w.e3, squeezes, le-ltb max_separator (length o.separator) p.short))

  present_number : (pair_start field o).number ≡ accepted → (start field 1 o).number ≡ accepted
  unfolding giving
  present_number e =
      let (known, passed, _) = pair_passed (sym pair_number ∙ e) in
      ap (λ (a : Answer). a.number) (start_opens field 1 o known forms_by_number.0 (passes o passed))

-- The patterns that the rules of pairs accept are those that are accepted, in form 1, and have SQUEEZE last.
pub accepted_by_pairs : (field : ℕ) (o : Opening)
    → ((pair_start field o).number ≡ accepted)
    ↔ (((start field 1 o).number ≡ accepted) × (is_absorb (get_or o.words (length o.words - 1) 0) ≡ false))
accepted_by_pairs field o = (
  λ e. (present_number field o e, (pair_passed field o (sym (pair_number field o) ∙ e)).2),
  λ p.
      pair_number field o
      ∙ pair_passes field o (start_known field 1 o p.0) (passed_rows o (start_accepted field 1 o p.0)) p.1,
)

same_start : (field : ℕ) (o : Opening) → (pair_start field o).number ≡ accepted → pair_start field o ≡ start field 1 o
same_start field o e =
    let number = sym (pair_number field o) ∙ e in
    let (known, passed, _) = pair_passed field o number in
    pair_accepted field o number ∙ sym (start_opens field 1 o known forms_by_number.0 (passes o passed))

-- ---- the number of words

-- an open record has an even number of words, two at least
abbrev Paired : Session → Type 0
Paired r = eqb r.status opened ≡ true → (2 ≤ r.count) × (r.count % 2 ≡ 0)

even_merged : (ws : List ℕ) → PassedWords ws → is_absorb (last_of ws) ≡ false → (2 ≤ length (merged_words ws)) × (length (merged_words ws) % 2 ≡ 0)
unfolding merged_words
even_merged [] p squeezes = absurd (true≢false (or_false _ _ p.e1).0)
even_merged (w ∷ ws) p squeezes =
    let even = even_words w ws p squeezes in
    let some = some_phases w ws p in
    let long = length-map (phases (w ∷ ws)) word_of in
    (omega arith, omega arith)

start_paired : (field : ℕ) (o : Opening) → (pair_start field o).number ≡ accepted → Paired (start field 1 o).session
start_paired field o e opens =
    let (_, passed, squeezes) = pair_passed field o (sym (pair_number field o) ∙ e) in
    let (two, even) = even_merged o.words passed.of_words squeezes in
    let count = start_count field 1 o (present_number field o e) in
    (omega arith, rw count even)

left_paired : (r : Session) (c : Call) → Paired r → Paired (left r c)
unfolding left_by
left_paired r c p opens =
    let same = same_left_by r (c ∷ []) opens in
    let before = p (rw same.status at opens) in
    rw same.count before

-- ---- calls

same_answer : (r : Session) (c : Call) → Paired r → pair_answered r c ≡ answered r c
unfolding pair_answered pair_sound
same_answer r c p =
    cases (eqb r.status opened)
    (λ opens.
    cases (sound r)
    (λ sounds.
    let (two, even) = p opens in
    if_false _ _ _
    (ap₂ (λ (a b : Bool). a and not b) opens
    (ap₂ (λ (a b : Bool). a and b) sounds (ap₂ (λ (a b : Bool). a and b) (le-leb 2 r.count two) (eq-eqb (r.count % 2) 0 even)))
    ∙ both_pass))
    λ fails.
    if_true _ _ _ (ap₂ (λ (a b : Bool). a and not b) opens (and_stop _ _ fails) ∙ one_fails) ∙ sym (not_sound_refused r c opens fails))
    λ closed. if_false _ _ _ (and_stop _ _ closed)

same_outcomes : (r : Session) (cs : List Call) → Paired r → outcomes pair_answered r cs ≡ outcomes answered r cs
unfolding outcomes left
same_outcomes r [] p = refl
same_outcomes r (c ∷ cs) p =
    let same = same_answer r c p in
    ap (λ (a : Answer). record { answer = a; writes = writes_by a r c } ∷ outcomes pair_answered a.session cs) same
    ∙ ap (λ (os : List Outcome). record { answer = answered r c; writes = writes_by (answered r c) r c } ∷ os) (same_outcomes (answered r c).session cs (left_paired r c p))

-- "Every pattern accepted before gets the same tag and, for the same list of calls, the same elements and count": START gives in form 1 the same number and
-- record by both rules, and so does every call of every list, refused ones included, with the same elements written. (The record has the tag in its
-- state, and counts its permutations.)
pub nothing_changes : (field : ℕ) (o : Opening) → (pair_start field o).number ≡ accepted
    → (pair_start field o ≡ start field 1 o)
    × ((cs : List Call) → outcomes pair_answered (start field 1 o).session cs ≡ outcomes answered (start field 1 o).session cs)
nothing_changes field o e = (same_start field o e, λ cs. same_outcomes (start field 1 o).session cs (start_paired field o e))

-- What is compared of a list of calls, by any rules: each call gets the record that the one before left, and answers by the rules; what it writes goes by that answer, which by the
-- present rules is what the third demand takes for squeezed.
pub outcomes_of_calls : (rules : Session → Call → Answer) (r : Session) (c : Call) (cs : List Call)
    → (outcomes rules r [] ≡ [])
    × (outcomes rules r (c ∷ cs) ≡ record { answer = rules r c; writes = writes_by (rules r c) r c } ∷ outcomes rules (rules r c).session cs)
    × (writes_by (answered r c) r c ≡ squeezed_in r c)
unfolding outcomes
outcomes_of_calls rules r c cs = (refl, refl, same_writes r c)

pub writes_by_answer : (a : Answer) (r : Session) (n : ℕ) (xs : List ℕ)
    → (a.number ≡ accepted → writes_by a r (SQUEEZE n) ≡ squeezed_all r n)
    × (a.number ≢ accepted → writes_by a r (SQUEEZE n) ≡ [])
    × (writes_by a r (ABSORB xs) ≡ [])
    × (writes_by a r FINISH ≡ [])
unfolding writes_by
writes_by_answer a r n xs = (λ e. if_true _ _ _ (eq-eqb _ _ e), λ e. if_false _ _ _ (ne_eqb _ _ e), refl, refl)

-- The rules of pairs, on records: a count of 1, or an odd one, is not sound; an open record that is not sound gets 8 and is left; a sound one, and a
-- closed one, get what they get.
pub rules_of_pairs : (r : Session) (c : Call)
    → (pair_sound r ≡ sound r and leb 2 r.count and eqb (r.count % 2) 0)
    × (r.status ≡ opened → pair_sound r ≡ false → pair_answered r c ≡ giving 8 r)
    × (pair_sound r ≡ true → pair_answered r c ≡ answered r c)
    × (r.status ≢ opened → pair_answered r c ≡ answered r c)
unfolding pair_answered
rules_of_pairs r c = (
  pair_sound_law r,
  λ opens fails. if_true _ _ _ (ap₂ (λ (a b : Bool). a and not b) (eq-eqb _ _ opens) fails ∙ one_fails),
  λ sounds. if_false _ _ _ (ap (λ (b : Bool). eqb r.status opened and not b) sounds ∙ and_false _),
  λ closed. if_false _ _ _ (and_stop _ _ (ne_eqb _ _ closed)),
)

-- And on START: document 01's table, with 18 before it and 19 in its place.
pub rows_of_pairs : (field : ℕ) (ws separator : List ℕ)
    → (pair_start field (opening ws separator)).number
    ≡ first_number
    (not (is_field field) gets 18 ⨾
    eqb (length ws) 0 or ltb 64 (length ws) gets 1 ⨾
    any (λ w. eqb (length_of w) 0) ws gets 2 ⨾
    any (λ w. ltb 16777216 (length_of w)) ws gets 19 ⨾
    not (is_absorb (get_or ws 0 0)) gets 3 ⨾
    is_absorb (get_or ws (length ws - 1) 0) gets 4 ⨾
    ltb 256 (length separator) gets 6 ⨾
    [])
unfolding pair_rows word_rows
rows_of_pairs field ws separator = pair_number field (opening ws separator)

-- "So number 13's example in 01 now reads, and 00000001 with length 0 takes its place."
pub examples_read :
    (◌≡◌ {A = ℕ} (read_number 1 (0x80 ∷ 0 ∷ 0 ∷ 3 ∷ []) 0) 0)
    × (◌≡◌ {A = ℕ} (read_number 1 (0 ∷ 0 ∷ 0 ∷ 1 ∷ []) 0) 13)
    × (◌≡◌ {A = ℕ} (read_number 1 [] 0) 13)
unfolding read_number read_rows body_rows body_of length_in tail_missing is_form sound_bytes words_part words_of word_at first_number sound_words alternate is_absorb length_of number number_after tabulate
    when◌then◌else◌ ◌and◌ ◌or◌ same all
examples_read = (refl, refl, refl)

-- The last block of a session that ends by absorbing is absorbed and not permuted: 8 elements take no permutation, and 9 take one.
pub last_block_stays : (full_permutations (0x80000008 ∷ []) ≡ 0) × (full_permutations (0x80000009 ∷ []) ≡ 1)
unfolding full_permutations permutations_at phase_permutations block_count sum merged_words phases merge join phase_of word_of is_absorb length_of when◌then◌else◌
last_block_stays = (refl, refl)
