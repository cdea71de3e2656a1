-- Numbers that are not given. From document 02, P4: "With 64 words no merged length can then pass 2147483647. Prove that number 5 can't be given
-- by START, the writer or the card program, and remove the check."; P6: "Number 4 is no longer given"
use Rattle.std.specs.Prelude.{◌≡◌, refl, false, List, ◌≢◌, ℕ, ◌*◌, ◌≤◌, ltb, length}
use Rattle.std.proofs.Common.{sym, ◌∙◌, arith, lit<}
use Rattle.basics.specs.Logic.{◌and◌, all, any}
use Rattle.basics.proofs.FirstRow.{never_given}
use Rattle.words.specs.Words.{length_of}
use Rattle.pattern.specs.Pattern.{phases, too_long}
use Rattle.pattern.specs.Opening.{Opening, max_call, word_rows, opening_rows, opening_number}
use Rattle.pattern.proofs.MergedLengths.{within_more, phases_within, phases_fit}
use Rattle.tag.specs.TagString.{buffer_rows, write_rows, write_number, written_with, written}
use Rattle.session.specs.Calls.{start_rows, start_number, start}
use Rattle.runs.proofs.Opened.{number_of}
use Rattle.card_grammar.specs.Text.{ascii, decimal_up_to, decimal}
use Rattle.card.specs.Answer.{no_text, answer}
use Rattle.card.proofs.GivenNumber.{line_gives}

-- Merging adds: calls that are within a limit merge to calls within as many times the limit as there are calls.
pub merged_lengths : (limit : ℕ) (ws : List ℕ) → any (λ w. ltb limit (length_of w)) ws ≡ false
    → any (λ a. ltb (length ws * limit) a.elements) (phases ws) ≡ false
merged_lengths = phases_within

-- "With 64 words no merged length can then pass 2147483647": none passes 64 times 16,777,216, which is 2^30.
pub no_merged_length_too_long : (ws : List ℕ) → length ws ≤ 64 → any (λ w. ltb max_call (length_of w)) ws ≡ false
    → (any (λ a. ltb 1073741824 a.elements) (phases ws) ≡ false) × (any too_long (phases ws) ≡ false)
no_merged_length_too_long ws few e =
    (within_more (length ws * max_call) 1073741824 (phases ws) (omega arith) (phases_within max_call ws e), phases_fit ws few e)

-- Neither 4 nor 5 is given by START,
pub start_never_gives_5 : (field form : ℕ) (o : Opening) → (start field form o).number ≢ 5
unfolding start_number start_rows opening_rows word_rows all ◌and◌
start_never_gives_5 field form o e = never_given 5 (start_rows field form o) refl (λ z. omega arith) (sym (number_of field form o) ∙ e)

pub start_never_gives_4 : (field form : ℕ) (o : Opening) → (start field form o).number ≢ 4
unfolding start_number start_rows opening_rows word_rows all ◌and◌
start_never_gives_4 field form o e = never_given 4 (start_rows field form o) refl (λ z. omega arith) (sym (number_of field form o) ∙ e)

-- by writing,
pub writing_never_gives_5 : (form : ℕ) (o : Opening) (buffer : List ℕ) → (written form o buffer).number ≢ 5
unfolding written written_with write_number write_rows buffer_rows opening_rows word_rows all ◌and◌
writing_never_gives_5 form o buffer = never_given 5 (write_rows form o buffer) refl (λ z. omega arith)

pub writing_never_gives_4 : (form : ℕ) (o : Opening) (buffer : List ℕ) → (written form o buffer).number ≢ 4
unfolding written written_with write_number write_rows buffer_rows opening_rows word_rows all ◌and◌
writing_never_gives_4 form o buffer = never_given 4 (write_rows form o buffer) refl (λ z. omega arith)

-- or in the answer to a line.
pub cards_never_give_5 : (line : List ℕ) → answer line ≢ ascii "(no 5)"
unfolding opening_number opening_rows word_rows all ◌and◌ no_text decimal decimal_up_to
cards_never_give_5 line = line_gives 5 (lit< tt) (λ o. never_given 5 (opening_rows o) refl (λ z. omega arith)) line

pub cards_never_give_4 : (line : List ℕ) → answer line ≢ ascii "(no 4)"
unfolding opening_number opening_rows word_rows all ◌and◌ no_text decimal decimal_up_to
cards_never_give_4 line = line_gives 4 (lit< tt) (λ o. never_given 4 (opening_rows o) refl (λ z. omega arith)) line
