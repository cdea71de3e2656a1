-- Sealing a coin note: what is left is Algorithm 7 of source 001, opening undoes it and nothing else opens, and which number comes where. `seal_note` and
-- `open_note` are what the contracts of `seal::NoteContext::seal`, `seal::NoteContext::open` and of their exports cite.
use Rattle.std.specs.Prelude.{◌≡◌, refl, true, false, ◌≢◌, ℕ, ◌+◌, ◌*◌, ◌%◌, ◌≤◌, ◌<◌, eqb, leb, length, take, drop, replicate}
use Rattle.std.proofs.Common.{sym, ap, ◌∙◌}
use mathlib.Core.List.{List, [], ◌∷◌, ◌++◌, zip_with}
use Rattle.std.proofs.lemmas.List.{length-replicate}
use Rattle.basics.specs.Logic.{when◌then◌else◌, ◌and◌, ◌or◌, all, any}
use Rattle.basics.specs.Lists.{total}
use Rattle.basics.specs.Numbers.{accepted}
use Rattle.basics.specs.Refusals.{first_number}
use Rattle.field.specs.Field.{modulus, is_element, is_field, field_of}
use Rattle.field.specs.declared.Field.{Field}
use Rattle.words.specs.Words.{word_of}
use Rattle.pattern.specs.Pattern.{merged_words}
use Rattle.pattern.specs.Opening.{opening}
use Rattle.runs.specs.Calls.{Call, ABSORB, SQUEEZE, FINISH, accepts, left_by}
use Rattle.runs.specs.Runs.{Run, absorbed_of, squeezed_of}
use Rattle.seal.specs.Seal.{Context, context, Outcome, leaving, block_words, seal_words, started, plus, blocks_of, sound_lengths, are_elements, has_mark, note_rows, seal_rows, seal_note, open_note}
use Rattle.note_laws.specs.Calls.{block_calls, note_calls}
use Rattle.note_laws.specs.Conditions.{RightLengths}
use Rattle.seal.proofs.Lengths.{lengths_sound}
use Rattle.seal.proofs.Pattern.{words_count, words_merged}
use Rattle.seal.proofs.Rows.{passed}
use Rattle.seal.proofs.Outcomes.{seal_number, seal_accepted, open_accepted, open_differs}
use Rattle.note_laws.proofs.Inverse.{sealed_opens, opened_seals, another_mark}
use Rattle.note_laws.proofs.NoteRun.{note_run, note_accepted, note_absorbed, note_squeezed, note_added, accepted_at}
use Rattle.note_laws.proofs.Refusals as refusals

-- What the contracts lend is what the definitions go by: each part of a note's context, and both parts of an outcome.
pub parts_of_a_context : (field : ℕ) (key nonce separator lengths : List ℕ)
    → ((context field key nonce separator lengths).field ≡ field)
    × ((context field key nonce separator lengths).key ≡ key)
    × ((context field key nonce separator lengths).nonce ≡ nonce)
    × ((context field key nonce separator lengths).separator ≡ separator)
    × ((context field key nonce separator lengths).lengths ≡ lengths)
parts_of_a_context field key nonce separator lengths = (refl, refl, refl, refl, refl)

pub parts_of_an_outcome : (number : ℕ) (buffer : List ℕ) → ((leaving number buffer).number ≡ number) × ((leaving number buffer).buffer ≡ buffer)
parts_of_an_outcome number buffer = (refl, refl)

-- "declared and absorbed as one call of 16, so that 31 blocks need 64 words": b blocks need 2b + 2, and these are merged as they stand.
pub words_of_a_note : (ns : List ℕ) → sound_lengths ns ≡ true → (length (seal_words ns) ≡ 2 * length ns + 2) × (merged_words (seal_words ns) ≡ seal_words ns)
words_of_a_note ns e = (words_count ns, words_merged ns (lengths_sound ns e))

-- Block by block: SQUEEZE and ABSORB of its length, before those of the next; the mark's SQUEEZE is last.
pub words_block_by_block : (seal_words [] ≡ 0x80000010 ∷ 8 ∷ [])
    × ((n : ℕ) (ns : List ℕ) → seal_words (n ∷ ns) ≡ 0x80000010 ∷ n ∷ (0x80000000 + n) ∷ drop 1 (seal_words ns))
unfolding seal_words block_words word_of when◌then◌else◌
words_block_by_block = (refl, λ n ns. refl)

-- By hand: the words of blocks of 3 and 5 elements, how many 31 blocks need, and which lengths are sound.
pub words_by_hand :
    (seal_words (3 ∷ 5 ∷ []) ≡ 0x80000010 ∷ 0x00000003 ∷ 0x80000003 ∷ 0x00000005 ∷ 0x80000005 ∷ 0x00000008 ∷ [])
    × (◌≡◌ {A = ℕ} (length (seal_words (replicate 31 1))) 64)
    × (sound_lengths (1 ∷ 16777216 ∷ []) ≡ true)
    × (sound_lengths (replicate 31 9) ≡ true)
    × (sound_lengths [] ≡ false)
    × (sound_lengths (replicate 32 9) ≡ false)
    × (sound_lengths (9 ∷ 0 ∷ []) ≡ false)
    × (sound_lengths (9 ∷ 16777217 ∷ []) ≡ false)
    × (blocks_of (1 ∷ 3 ∷ 2 ∷ []) (1 ∷ 2 ∷ 3 ∷ 4 ∷ 5 ∷ 6 ∷ []) ≡ (1 ∷ []) ∷ (2 ∷ 3 ∷ 4 ∷ []) ∷ (5 ∷ 6 ∷ []) ∷ [])
unfolding seal_words block_words word_of when◌then◌else◌ sound_lengths all ◌and◌ blocks_of
words_by_hand = (refl, refl, refl, refl, refl, refl, refl, refl, refl)

-- "added to it": element by element, in the field.
pub sums_in_the_field : (f : Field) → (plus f [] [] ≡ [])
    × ((x y : ℕ) (xs ys : List ℕ) → plus f (x ∷ xs) (y ∷ ys) ≡ (x + y) % modulus f ∷ plus f xs ys)
unfolding plus zip_with
sums_in_the_field f = (refl, λ x y xs ys. refl)

-- The calls by hand: key and nonce in one, then the plain blocks, each behind its SQUEEZE, and the mark.
pub calls_by_hand :
    let c = context 1 (1 ∷ 2 ∷ 3 ∷ 4 ∷ 5 ∷ 6 ∷ 7 ∷ 8 ∷ []) (9 ∷ 10 ∷ 11 ∷ 12 ∷ 13 ∷ 14 ∷ 15 ∷ 16 ∷ []) [] (2 ∷ 1 ∷ []) in
    note_calls c (17 ∷ 18 ∷ 19 ∷ []) ≡
    ABSORB (1 ∷ 2 ∷ 3 ∷ 4 ∷ 5 ∷ 6 ∷ 7 ∷ 8 ∷ 9 ∷ 10 ∷ 11 ∷ 12 ∷ 13 ∷ 14 ∷ 15 ∷ 16 ∷ []) ∷ SQUEEZE 2 ∷ ABSORB (17 ∷ 18 ∷ []) ∷ SQUEEZE 1 ∷ ABSORB (19 ∷ []) ∷ SQUEEZE 8 ∷ []
unfolding note_calls block_calls blocks_of
calls_by_hand = refl

-- Where sealing is accepted, START accepts the words of the note in form 1 ("Sealed notes keep form 1."), and the calls of Algorithm 7 on its record end in an accepted FINISH: they are a session
-- that the third demand speaks of. It absorbs key, nonce and plain elements, in this order, and squeezes eight more than these last; and what is left is what
-- it squeezes, with the plain elements added to all but the last eight, the mark.
pub sealing_is_algorithm_7 : (c : Context) (plain buffer : List ℕ) → (seal_note c plain buffer).number ≡ accepted
    → (a : Run)
    × (a.field ≡ c.field)
    × (a.form ≡ 1)
    × (a.opening ≡ opening (seal_words c.lengths) c.separator)
    × (a.before ≡ note_calls c plain)
    × (absorbed_of a ≡ c.key ++ c.nonce ++ plain)
    × (length (squeezed_of a) ≡ length plain + 8)
    × ((seal_note c plain buffer).buffer ≡ plus (field_of c.field) (plain ++ replicate 8 0) (squeezed_of a))
unfolding seal_rows note_run
sealing_is_algorithm_7 c plain buffer e =
    let number = sym (seal_number c plain buffer) ∙ e in
    let p = passed c plain 0 (length buffer) 8 number in (
      note_run c plain p,
      refl,
      refl,
      refl,
      refl,
      note_absorbed c plain p,
      note_squeezed c plain p,
      ap (λ (o : Outcome). o.buffer) (seal_accepted c plain buffer number) ∙ sym (note_added c plain p),
    )

-- Each of these calls is accepted where it stands, and FINISH behind them.
pub each_call_is_accepted : (c : Context) (plain buffer : List ℕ) → (seal_note c plain buffer).number ≡ accepted
    → (before : List Call) (call : Call) (after : List Call) → note_calls c plain ++ (FINISH ∷ []) ≡ before ++ (call ∷ after)
    → accepts (left_by (started c) before) call ≡ true
unfolding seal_rows
each_call_is_accepted c plain buffer e before call after split =
    let p = passed c plain 0 (length buffer) 8 (sym (seal_number c plain buffer) ∙ e) in
    accepted_at (started c) _ before call after (note_accepted c plain p) split

-- "What was sealed opens to the same blocks under the same field, key, nonce, separator and lengths.", whatever the buffer held.
pub sealed_opens_to_the_same : (c : Context) (plain out buffer : List ℕ) → (seal_note c plain out).number ≡ accepted → length buffer ≡ total c.lengths
    → open_note c (seal_note c plain out).buffer buffer ≡ leaving accepted plain
sealed_opens_to_the_same = sealed_opens

-- What opens was sealed: the blocks that opening leaves seal to exactly the list that was opened.
pub opened_seals_to_the_same : (c : Context) (text out buffer : List ℕ) → (open_note c text out).number ≡ accepted → length buffer ≡ total c.lengths + 8
    → seal_note c (open_note c text out).buffer buffer ≡ leaving accepted text
opened_seals_to_the_same = opened_seals

-- So a list opens exactly where some plain text seals to it.
pub opens_exactly_what_was_sealed : (c : Context) (text out : List ℕ) → length out ≡ total c.lengths
    → ((open_note c text out).number ≡ accepted → (plain : List ℕ) × (buffer : List ℕ) × (seal_note c plain buffer ≡ leaving accepted text))
    × ((plain buffer : List ℕ) → seal_note c plain buffer ≡ leaving accepted text → (open_note c text out).number ≡ accepted)
opens_exactly_what_was_sealed c text out long = (
  λ e. (
    (open_note c text out).buffer,
    replicate (total c.lengths + 8) 0,
    opened_seals c text out (replicate (total c.lengths + 8) 0) e (length-replicate {A = ℕ} (total c.lengths + 8) 0),
  ),
  λ plain buffer e.
      ap (λ (l : List ℕ). (open_note c l out).number) (sym (ap (λ (o : Outcome). o.buffer) e))
      ∙ ap (λ (o : Outcome). o.number) (sealed_opens c plain buffer out (ap (λ (o : Outcome). o.number) e) long),
)

-- "compares the mark": behind the same cipher elements every other mark is refused.
pub another_mark_differs : (c : Context) (plain out buffer other : List ℕ) → (seal_note c plain out).number ≡ accepted → length buffer ≡ total c.lengths
    → length other ≡ 8 → all (is_element (field_of c.field)) other ≡ true → other ≢ drop (total c.lengths) (seal_note c plain out).buffer
    → open_note c (take (total c.lengths) (seal_note c plain out).buffer ++ other) buffer ≡ leaving 21 (replicate (total c.lengths) 0)
another_mark_differs = another_mark

-- What the conditions below are: of the blocks' lengths, of every length that 20 is about, and of the elements.
pub sound_lengths_are : (ns : List ℕ)
    → sound_lengths ns ≡ (leb 1 (length ns) and leb (length ns) 31 and all (λ n. leb 1 n and leb n 16777216) ns)
unfolding sound_lengths
sound_lengths_are ns = refl

pub right_lengths_are : (c : Context) (text textMark buffer bufferMark : ℕ)
    → (RightLengths c text textMark buffer bufferMark
    → (sound_lengths c.lengths ≡ true) × (length c.key ≡ 8) × (length c.nonce ≡ 8)
    × (text ≡ total c.lengths + textMark) × (buffer ≡ total c.lengths + bufferMark))
    × ((sound_lengths c.lengths ≡ true) → (length c.key ≡ 8) → (length c.nonce ≡ 8)
    → (text ≡ total c.lengths + textMark) → (buffer ≡ total c.lengths + bufferMark) → RightLengths c text textMark buffer bufferMark)
right_lengths_are c text textMark buffer bufferMark = (
  λ r. (r.of_blocks, r.of_key, r.of_nonce, r.of_text, r.of_buffer),
  λ b k n t o. record { of_blocks = b; of_key = k; of_nonce = n; of_text = t; of_buffer = o },
)

pub elements_are : (f : Field) (key nonce text : List ℕ)
    → are_elements f key nonce text ≡ (all (is_element f) key and all (is_element f) nonce and all (is_element f) text)
unfolding are_elements
elements_are f key nonce text = refl

-- A note that is sealed, so that nothing here is said of none.
pub a_note_is_sealed :
    (seal_note (context 2 (replicate 8 2130706432) (replicate 8 0) (99 ∷ []) (3 ∷ 2 ∷ [])) (10 ∷ 20 ∷ 30 ∷ 400 ∷ 500 ∷ []) (replicate 13 7)).number ≡ 0
unfolding seal_note seal_rows note_rows first_number when◌then◌else◌ sound_lengths all ◌and◌ ◌or◌ are_elements is_field field_of total
a_note_is_sealed = refl

-- "20: .. after START's own 18 and 6, before 10": the number that sealing gives, by the first condition that holds, and that it leaves the buffer with each.
pub sealing_by_condition : (c : Context) (plain buffer : List ℕ)
    → (is_field c.field ≡ false → seal_note c plain buffer ≡ leaving 18 buffer)
    × (is_field c.field ≡ true → 256 < length c.separator → seal_note c plain buffer ≡ leaving 6 buffer)
    × (is_field c.field ≡ true → length c.separator ≤ 256 → (RightLengths c (length plain) 0 (length buffer) 8 → ⊥) → seal_note c plain buffer ≡ leaving 20 buffer)
    × (is_field c.field ≡ true → length c.separator ≤ 256 → RightLengths c (length plain) 0 (length buffer) 8
    → are_elements (field_of c.field) c.key c.nonce plain ≡ false → seal_note c plain buffer ≡ leaving 10 buffer)
    × (is_field c.field ≡ true → length c.separator ≤ 256 → RightLengths c (length plain) 0 (length buffer) 8
    → are_elements (field_of c.field) c.key c.nonce plain ≡ true → (seal_note c plain buffer).number ≡ 0)
sealing_by_condition c plain buffer = (
  λ e. refusals.sealing_refused c plain buffer 18 (refusals.gives_18 c plain 0 (length buffer) 8 e) refl,
  λ k h. refusals.sealing_refused c plain buffer 6 (refusals.gives_6 c plain 0 (length buffer) 8 k h) refl,
  λ k s w. refusals.sealing_refused c plain buffer 20 (refusals.gives_20 c plain 0 (length buffer) 8 k s w) refl,
  λ k s r e. refusals.sealing_refused c plain buffer 10 (refusals.gives_10 c plain 0 (length buffer) 8 k s r e) refl,
  λ k s r e. refusals.sealing_number c plain buffer ∙ refusals.gives_0 c plain 0 (length buffer) 8 k s r e,
)

-- The same of opening, with "cipher and mark in place of plain" and "21: the mark differs, last."
pub opening_by_condition : (c : Context) (text buffer : List ℕ)
    → (is_field c.field ≡ false → open_note c text buffer ≡ leaving 18 buffer)
    × (is_field c.field ≡ true → 256 < length c.separator → open_note c text buffer ≡ leaving 6 buffer)
    × (is_field c.field ≡ true → length c.separator ≤ 256 → (RightLengths c (length text) 8 (length buffer) 0 → ⊥) → open_note c text buffer ≡ leaving 20 buffer)
    × (is_field c.field ≡ true → length c.separator ≤ 256 → RightLengths c (length text) 8 (length buffer) 0
    → are_elements (field_of c.field) c.key c.nonce text ≡ false → open_note c text buffer ≡ leaving 10 buffer)
    × (is_field c.field ≡ true → length c.separator ≤ 256 → RightLengths c (length text) 8 (length buffer) 0
    → are_elements (field_of c.field) c.key c.nonce text ≡ true
    → (has_mark c text ≡ false → open_note c text buffer ≡ leaving 21 (replicate (total c.lengths) 0)) × (has_mark c text ≡ true → (open_note c text buffer).number ≡ 0))
opening_by_condition c text buffer = (
  λ e. refusals.opening_refused c text buffer 18 (refusals.gives_18 c text 8 (length buffer) 0 e) refl,
  λ k h. refusals.opening_refused c text buffer 6 (refusals.gives_6 c text 8 (length buffer) 0 k h) refl,
  λ k s w. refusals.opening_refused c text buffer 20 (refusals.gives_20 c text 8 (length buffer) 0 k s w) refl,
  λ k s r e. refusals.opening_refused c text buffer 10 (refusals.gives_10 c text 8 (length buffer) 0 k s r e) refl,
  λ k s r e.
      let first = refusals.gives_0 c text 8 (length buffer) 0 k s r e in
      (open_differs c text buffer first, λ m. ap (λ (o : Outcome). o.number) (open_accepted c text buffer first m)),
)

-- No other number arises.
pub numbers_of_sealing : (c : Context) (plain buffer : List ℕ) → any (λ n. eqb (seal_note c plain buffer).number n) (0 ∷ 6 ∷ 10 ∷ 18 ∷ 20 ∷ []) ≡ true
numbers_of_sealing = refusals.seal_numbers

pub numbers_of_opening : (c : Context) (text buffer : List ℕ) → any (λ n. eqb (open_note c text buffer).number n) (0 ∷ 6 ∷ 10 ∷ 18 ∷ 20 ∷ 21 ∷ []) ≡ true
numbers_of_opening = refusals.open_numbers

-- "A refused seal or open writes nothing,
pub refused_writes_nothing : (c : Context) (text buffer : List ℕ)
    → ((seal_note c text buffer).number ≢ accepted → (seal_note c text buffer).buffer ≡ buffer)
    × ((open_note c text buffer).number ≢ accepted → (open_note c text buffer).number ≢ 21 → (open_note c text buffer).buffer ≡ buffer)
refused_writes_nothing c text buffer = (refusals.seal_leaves c text buffer, refusals.open_leaves c text buffer)

-- except that a wrong mark leaves zeros where the blocks would be.": in the whole buffer, so no plain element of such a note is there.
pub wrong_mark_leaves_zeros : (c : Context) (text buffer : List ℕ) → (open_note c text buffer).number ≡ 21
    → (open_note c text buffer).buffer ≡ replicate (length buffer) 0
wrong_mark_leaves_zeros = refusals.open_zeros
