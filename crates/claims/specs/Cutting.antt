-- Words cut into calls that a pattern may declare. `cut_answer` is what the contracts of `cutting::cut` and of its export cite. Theorems about every limit
-- come first; a declared call's is 16,777,216.
use Rattle.std.specs.Prelude.{◌≡◌, refl, true, false, List, [], ◌∷◌, ◌≢◌, ℕ, ◌-◌, ◌≤◌, ◌<◌, ltb, eqb, length, replicate}
use Rattle.basics.specs.Logic.{when◌then◌else◌, any}
use Rattle.basics.specs.Lists.{Below}
use Rattle.basics.specs.Numbers.{accepted}
use Rattle.basics.specs.Refusals.{first_number}
use Rattle.words.specs.Words.{is_absorb, length_of, phase_of, word_of}
use Rattle.pattern.specs.Pattern.{phases, merged_words, sound_words}
use Rattle.pattern.specs.Opening.{Opening, opening, max_call, opening_number, given, with_words, answer_with}
use Rattle.pattern.proofs.Given.{answer_accepted, answer_refused}
use Rattle.pattern.proofs.MergedWords.{phases_of_sound}
use Rattle.cutting.specs.Cutting.{rest_of, cut_length, cut_call, cut_words, cut_number, cut_answer}
use Rattle.cutting.proofs.Steps.{number_accepted, number_refused}
use Rattle.cutting.proofs.Merging.{phases_cut, cut_words_within, cut_words_empty}
use Rattle.cutting.proofs.Fewest.{fewest}
use Rattle.cutting.proofs.Openings.{cut_merges, cut_accepted, accepted_suffices, cut_next_short, cut_next_long}

-- "cutting longer words into calls of 16,777,216 and any rest": no words are cut into none; a word within the limit stays, in front of the others
-- cut; and a longer one gives a call of its kind and of the limit, in front of what is left of it cut. (Words are of 32 bits.)
pub no_words_cut : (limit : ℕ) → cut_words limit [] ≡ []
unfolding cut_words
no_words_cut limit = refl

pub short_word_stays : (limit w : ℕ) (ws : List ℕ) → w < 4294967296 → length_of w ≤ limit → cut_words limit (w ∷ ws) ≡ w ∷ cut_words limit ws
short_word_stays = cut_next_short

pub long_word_cut : (limit w : ℕ) (ws : List ℕ) → 0 < limit → w < 4294967296 → limit < length_of w
    → cut_words limit (w ∷ ws) ≡ (w - (length_of w - limit)) ∷ cut_words limit ((w - limit) ∷ ws)
long_word_cut = cut_next_long

-- "where 64 calls suffice": the answer has number 0 and the calls there, and elsewhere number 1 and none.
pub cut_answers : (ws : List ℕ)
    → (length (cut_words max_call ws) ≤ 64 → (cut_number ws ≡ accepted) × (cut_answer ws ≡ with_words accepted (cut_words max_call ws)))
    × (64 < length (cut_words max_call ws) → (cut_number ws ≡ 1) × (cut_answer ws ≡ with_words 1 []))
unfolding cut_answer
cut_answers ws = (
  λ few. (number_accepted ws few, answer_accepted _ _ (number_accepted ws few)),
  λ many. (number_refused ws many, answer_refused _ 1 _ (number_refused ws many) refl),
)

-- The cut words have the merged pattern of the words, whatever they are,
pub cut_keeps_the_pattern : (limit : ℕ) → 0 < limit → (ws : List ℕ) → phases (cut_words limit ws) ≡ phases ws
cut_keeps_the_pattern = phases_cut

-- and merge to the words themselves, where these are merged: sound words of 32 bits.
pub cut_words_merge_again : (ws : List ℕ) → sound_words ws ≡ true → Below 4294967296 ws → merged_words (cut_words max_call ws) ≡ ws
cut_words_merge_again ws e bits = cut_merges ws e bits

-- Each call is within the limit,
pub each_call_within : (limit : ℕ) → 0 < limit → (ws : List ℕ) → any (λ w. ltb limit (length_of w)) (cut_words limit ws) ≡ false
each_call_within = cut_words_within

-- and has a length, where each word has one.
pub no_call_is_empty : (limit : ℕ) → 0 < limit → (ws : List ℕ)
    → any (λ w. eqb (length_of w) 0) (cut_words limit ws) ≡ any (λ w. eqb (length_of w) 0) ws
no_call_is_empty = cut_words_empty

-- No calls within the limit that have the same merged pattern are fewer. (Sound words are merged.)
pub no_fewer_calls : (limit : ℕ) → 0 < limit → (ws vs : List ℕ) → sound_words ws ≡ true → phases vs ≡ phases ws
    → any (λ w. ltb limit (length_of w)) vs ≡ false → length (cut_words limit ws) ≤ length vs
no_fewer_calls limit some ws vs e same within = fewest limit some ws vs (phases_of_sound ws e) same within

-- Where 64 calls suffice, START takes the cut words of sound words,
pub cut_words_are_accepted : (ws : List ℕ) → sound_words ws ≡ true → Below 4294967296 ws → cut_number ws ≡ accepted
    → (separator : List ℕ) → length separator ≤ 256 → opening_number (opening (cut_words max_call ws) separator) ≡ accepted
cut_words_are_accepted ws e bits n separator short = cut_accepted ws e bits n separator short

-- and elsewhere it takes no words at all that merge to them.
pub no_words_are_accepted : (ws : List ℕ) → sound_words ws ≡ true → cut_number ws ≢ accepted
    → (o : Opening) → phases o.words ≡ phases ws → opening_number o ≢ accepted
no_words_are_accepted ws e n o same a = n (accepted_suffices ws e o a same)

-- What is cut, by hand: a length at the limit and one above it, an exact multiple, an empty word, and which words 64 calls hold.
pub cut_by_hand :
    (cut_words max_call (0x81000000 ∷ 0x01000001 ∷ []) ≡ 0x81000000 ∷ 0x01000000 ∷ 0x00000001 ∷ [])
    × (cut_words max_call (0x82000000 ∷ 0x03000002 ∷ []) ≡ 0x81000000 ∷ 0x81000000 ∷ 0x01000000 ∷ 0x01000000 ∷ 0x01000000 ∷ 0x00000002 ∷ [])
    × (cut_words max_call (0x80000000 ∷ 0 ∷ []) ≡ 0x80000000 ∷ 0 ∷ [])
    × (◌≡◌ {A = ℕ} (cut_number (0xc0000000 ∷ [])) 0)
    × (◌≡◌ {A = ℕ} (cut_number (0xc0000001 ∷ [])) 1)
    × (◌≡◌ {A = ℕ} (cut_number (0xffffffff ∷ 1 ∷ [])) 1)
    × (◌≡◌ {A = ℕ} (cut_number (replicate 64 7)) 0)
    × (◌≡◌ {A = ℕ} (cut_number (replicate 65 7)) 1)
    × (cut_answer (0x81000001 ∷ []) ≡ record { number = 0; words = 0x81000000 ∷ 0x80000001 ∷ replicate 62 0; count = 2 })
    × (cut_answer (0xffffffff ∷ []) ≡ record { number = 1; words = replicate 64 0; count = 0 })
unfolding cut_answer answer_with with_words given cut_words cut_call cut_length rest_of cut_number first_number phase_of word_of is_absorb length_of when◌then◌else◌
cut_by_hand = (refl, refl, refl, refl, refl, refl, refl, refl, refl, refl)
