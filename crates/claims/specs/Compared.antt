-- What the third demand compares, so that it says something: which lists of calls there are, what they absorb and squeeze, and what blocks are.
use Rattle.std.specs.Prelude.{◌≡◌, refl, true, false, List, [], ◌∷◌, ◌++◌, ◌≢◌, ◌⊎◌, ℕ, suc, eqb, length, take, drop}
use Rattle.std.proofs.Common.{sym, ◌∙◌, eq-eqb, ne_eqb}
use Rattle.basics.specs.Logic.{when◌then◌else◌, same, all}
use Rattle.basics.specs.Lists.{zero_padded}
use Rattle.basics.specs.Numbers.{accepted, element_not_reduced}
use Rattle.basics.proofs.Cases.{if_true, if_false}
use Rattle.field.specs.Field.{field_of, is_element}
use Rattle.words.specs.Words.{Phase, is_absorb, length_of, phase_of}
use Rattle.pattern.specs.Pattern.{join, merge, phases}
use Rattle.pattern.specs.Opening.{Opening}
use Rattle.tag.specs.TagString.{tag_string}
use Rattle.counters.specs.Permutations.{block_count}
use Rattle.session.specs.Calls.{start, absorb, squeeze, squeeze_buffer, finish}
use Rattle.session.specs.declared.Session.{Session}
use Rattle.runs.specs.Calls.{Call, ABSORB, SQUEEZE, FINISH, answered, accepts, left, left_by, absorbed_in, absorbed, squeezed_in, squeezed}
use Rattle.runs.specs.Blocks.{eights, blocks, block_total, held_by}
use Rattle.runs.specs.Lengths.{absorb_length, squeeze_length}
use Rattle.runs.specs.Runs.{Run, started_of, tag_of, pattern_of, absorbed_of, squeezed_of, blocks_of, permutations_of}
use Rattle.runs.proofs.Compared.{all_absorbed, all_squeezed}
use Rattle.runs.proofs.BlockLists.{blocks_long, blocks_total, blocks_held}
use Rattle.runs.proofs.EnclosedCalls.{enclosed, calls_inside, refused_first}

-- ---- lists of calls

-- "a list of ABSORB, SQUEEZE and FINISH calls, refused ones included, that ends in an accepted FINISH": every list of calls that START and an
-- accepted FINISH enclose is that of a run.
pub every_list_is_a_run : (field form : ℕ) (o : Opening) (cs : List Call)
    → (start field form o).number ≡ accepted → (finish (left_by (start field form o).session cs)).number ≡ accepted
    → (a : Run) × (a.field ≡ field) × (a.form ≡ form) × (a.opening ≡ o) × (a.before ≡ cs)
every_list_is_a_run = enclosed

-- "refused ones included": whatever run there is, there is one more that begins with an ABSORB which is refused.
pub refused_calls_are_included : (a : Run) (x : ℕ) → is_element (field_of a.field) x ≡ false
    → (b : Run) × (b.field ≡ a.field) × (b.form ≡ a.form) × (b.opening ≡ a.opening) × (b.before ≡ ABSORB (x ∷ []) ∷ a.before)
    × ((answered (started_of b) (ABSORB (x ∷ []))).number ≡ element_not_reduced)
refused_calls_are_included = refused_first

-- It has to be number 10: a call of a run, whichever it is, is accepted or gets 10. (The others leave no record that FINISH accepts later.)
pub refused_with_10_alone : (a : Run) (cs : List Call) (c : Call) (ds : List Call) → a.before ≡ cs ++ (c ∷ ds)
    → let r = left_by (started_of a) cs in
    ((answered r c).number ≡ accepted) ⊎ ((answered r c).number ≡ element_not_reduced)
refused_with_10_alone = calls_inside

-- ---- what a call and a list of calls does

-- A call answers what the contracts of `session` and `tuilarder` say of it.
pub calls_answer : (r : Session) (xs : List ℕ) (n : ℕ)
    → (answered r (ABSORB xs) ≡ absorb r xs) × (answered r (SQUEEZE n) ≡ squeeze r n) × (answered r FINISH ≡ finish r)
unfolding answered
calls_answer r xs n = (refl, refl, refl)

-- "Absorbed are the elements of the accepted ABSORB calls, in list order; a refused call adds none."
pub accepted_is_absorbed : (r : Session) (xs : List ℕ)
    → ((absorb r xs).number ≡ accepted → absorbed_in r (ABSORB xs) ≡ xs) × ((absorb r xs).number ≢ accepted → absorbed_in r (ABSORB xs) ≡ [])
unfolding absorbed_in accepts answered
accepted_is_absorbed r xs = (λ e. if_true _ _ _ (eq-eqb _ _ e), λ n. if_false _ _ _ (ne_eqb _ _ n))

-- "Squeezed are the elements that the accepted SQUEEZE calls wrote, in list order.": they are what the buffer then holds; and a refused one
-- adds none.
pub accepted_is_squeezed : (r : Session) (buffer : List ℕ)
    → let n = length buffer in
    ((squeeze r n).number ≡ accepted → squeezed_in r (SQUEEZE n) ≡ squeeze_buffer r buffer)
    × ((squeeze r n).number ≢ accepted → squeezed_in r (SQUEEZE n) ≡ [])
unfolding squeeze_buffer squeezed_in accepts answered
accepted_is_squeezed r buffer =
    (λ e. if_true _ _ _ (eq-eqb _ _ e) ∙ sym (if_true _ _ _ (eq-eqb _ _ e)), λ n. if_false _ _ _ (ne_eqb _ _ n))

-- The first call of a list, and the others on the record that it leaves.
pub call_by_call : (r : Session) (c : Call) (cs : List Call)
    → (left_by r (c ∷ cs) ≡ left_by (answered r c).session cs)
    × (absorbed r (c ∷ cs) ≡ absorbed_in r c ++ absorbed (answered r c).session cs)
    × (squeezed r (c ∷ cs) ≡ squeezed_in r c ++ squeezed (answered r c).session cs)
unfolding left_by absorbed squeezed left
call_by_call r c cs = (refl, refl, refl)

-- An ABSORB squeezes nothing, a SQUEEZE absorbs nothing, and FINISH does neither.
pub other_calls_add_none : (r : Session) (xs : List ℕ) (n : ℕ)
    → (squeezed_in r (ABSORB xs) ≡ []) × (absorbed_in r (SQUEEZE n) ≡ []) × (absorbed_in r FINISH ≡ []) × (squeezed_in r FINISH ≡ [])
unfolding absorbed_in squeezed_in
other_calls_add_none r xs n = (refl, refl, refl, refl)

-- The record that a call leaves; and an empty list of calls leaves the record as it is, and adds nothing.
pub no_call_adds_none : (r : Session) (c : Call)
    → (left r c ≡ (answered r c).session) × (left_by r [] ≡ r) × (absorbed r [] ≡ []) × (squeezed r [] ≡ [])
unfolding left_by absorbed squeezed left
no_call_adds_none r c = (refl, refl, refl, refl)

-- What is compared of a run: its tag string and pattern, by what START got; by the whole list of calls on the record that START gave, what is
-- absorbed and squeezed, and the blocks; and the count in the record that the last call, FINISH, gets.
pub compared : (a : Run)
    → let r = (start a.field a.form a.opening).session in
    let cs = a.before ++ (FINISH ∷ []) in
    let ps = phases a.opening.words in
    (started_of a ≡ r) × (tag_of a ≡ tag_string a.form a.opening) × (pattern_of a ≡ ps) × (absorbed_of a ≡ absorbed r cs) × (squeezed_of a ≡ squeezed r cs)
    × (blocks_of a ≡ blocks ps (absorbed r cs)) × (permutations_of a ≡ (left_by r a.before).permutations)
compared a = (refl, refl, refl, refl, refl, refl, refl)

-- ---- what is absorbed and squeezed

-- A finished session has absorbed exactly as many elements as its ABSORB phases have,
pub all_is_absorbed : (a : Run) → length (absorbed_of a) ≡ absorb_length (pattern_of a)
all_is_absorbed = all_absorbed

-- and squeezed exactly as many as its SQUEEZE phases have.
pub all_is_squeezed : (a : Run) → length (squeezed_of a) ≡ squeeze_length (pattern_of a)
all_is_squeezed = all_squeezed

-- These lengths for the pattern ABSORB 8, SQUEEZE 8, ABSORB 1, SQUEEZE 2: 9 and 10.
pub lengths_of_a_pattern : let ps = phases (0x80000008 ∷ 8 ∷ 0x80000001 ∷ 2 ∷ []) in (absorb_length ps ≡ 9) × (squeeze_length ps ≡ 10)
unfolding phases merge join phase_of is_absorb length_of absorb_length squeeze_length when◌then◌else◌ same
lengths_of_a_pattern = (refl, refl)

-- ---- blocks

-- "cut the absorbed elements into the lengths of the ABSORB phases in turn, and each of those into eights from its start, its last filled up with
-- zeros": the first phase and the others; the first block and the others.
pub blocks_in_turn : (a : Phase) (ps : List Phase) (n : ℕ) (xs : List ℕ)
    → (blocks [] xs ≡ [])
    × (blocks (a ∷ ps) xs
    ≡ (when a.absorbs then eights (block_count a.elements) (take a.elements xs) ++ blocks ps (drop a.elements xs) else blocks ps xs))
    × (eights 0 xs ≡ [])
    × (eights (suc n) xs ≡ zero_padded 8 (take 8 xs) ∷ eights n (drop 8 xs))
unfolding blocks eights
blocks_in_turn a ps n xs = (refl, refl, refl, refl)

-- "A block is eight neighbouring absorbed elements": each has eight,
pub blocks_have_eight : (a : Run) → all (λ block. eqb (length block) 8) (blocks_of a) ≡ true
blocks_have_eight a = blocks_long (pattern_of a) (absorbed_of a)

-- there are ceil(n/8) of them for each ABSORB phase of n elements,
pub blocks_are_counted : (a : Run) → length (blocks_of a) ≡ block_total (pattern_of a)
blocks_are_counted a = blocks_total (pattern_of a) (absorbed_of a)

-- and those of each phase, laid side by side and cut to the phase's length, are what it absorbed.
pub blocks_hold_the_absorbed : (a : Run) → held_by (pattern_of a) (blocks_of a) ≡ absorbed_of a
blocks_hold_the_absorbed a = blocks_held (pattern_of a) (absorbed_of a) (all_absorbed a)

-- Nine elements are two blocks; and those of another phase begin a block of their own.
pub nine_are_two_blocks : blocks (phases (0x80000009 ∷ 1 ∷ 0x80000001 ∷ 1 ∷ [])) (1 ∷ 2 ∷ 3 ∷ 4 ∷ 5 ∷ 6 ∷ 7 ∷ 8 ∷ 9 ∷ 10 ∷ [])
    ≡ (1 ∷ 2 ∷ 3 ∷ 4 ∷ 5 ∷ 6 ∷ 7 ∷ 8 ∷ []) ∷ (9 ∷ 0 ∷ 0 ∷ 0 ∷ 0 ∷ 0 ∷ 0 ∷ 0 ∷ []) ∷ (10 ∷ 0 ∷ 0 ∷ 0 ∷ 0 ∷ 0 ∷ 0 ∷ 0 ∷ []) ∷ []
unfolding phases merge join phase_of is_absorb length_of blocks eights block_count when◌then◌else◌ same
nine_are_two_blocks = refl
