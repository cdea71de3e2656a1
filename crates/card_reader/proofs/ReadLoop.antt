-- What `read`'s loop holds after i bytes: the machine's state on those bytes, its lists in two arrays.
-- Assumes nothing.
use mathlib.Core.Path.{◌≡◌, refl, sym, ap, ◌∙◌}
use mathlib.Core.Bool.{true}
use mathlib.Core.List.{List, [], ◌∷◌}
use Prim.Native.Nat.{ℕ, ◌+◌, ◌<◌, ◌≤◌}
use native.Mathlib.Numerals.{add-one}
use lib.ListN.{length, take, get_or, replicate}
use lib.Seq.{take-suc, take_all}
use Rattle.card_grammar.specs.Grammar.{none}
use Rattle.card_grammar.specs.Machine.{move_of, State, at, state_after, run, fresh}
use Rattle.card_grammar.proofs.Forward.{run_append}
use Rattle.card_grammar.specs.Card.{card_of}
use Rattle.card_reader.specs.Reading.{reading}
use Rattle.card_grammar.specs.declared.machine.Mode.{Mode}
use Rattle.card_grammar.specs.declared.machine.Mode.TheVariants.{Head, End}
use Rattle.card_grammar.specs.declared.machine.Move.{Move}
use Rattle.card_reader.proofs.FirstItems.{Kept, nothing_kept}
use Rattle.card_grammar.proofs.Laws.{ended, not_ended}

pub record Held (line separator : List ℕ) (separatorLength : ℕ) (words : List ℕ) (wordCount : ℕ) (mode : Mode) (i : ℕ) : Type 0 where
  pub bytes : List ℕ
  pub calls : List ℕ
  pub state : run fresh (take i line) ≡ at mode bytes calls
  pub bytes_kept : Kept 257 bytes separatorLength separator
  pub calls_kept : Kept 65 calls wordCount words

pub held_start : (line : List ℕ) → Held line (replicate 257 0) 0 (replicate 65 0) 0 (Head 0) 0
unfolding run
held_start line =
    record { bytes = []; calls = []; state = refl; bytes_kept = nothing_kept 257; calls_kept = nothing_kept 65 }

module _ {line separator words : List ℕ} {separatorLength wordCount i : ℕ} {mode : Mode}
    (h : Held line separator separatorLength words wordCount mode i) where
  -- the state after a move
  abbrev after : Move → State
  after move = state_after move h.bytes h.calls

  -- one byte more, whose move leaves the lists kept in the arrays
  pub held_next : {separator' words' : List ℕ} {separatorLength' wordCount' : ℕ} (move : Move) → i < length line → move_of mode (get_or line i 0) ≡ move
      → Kept 257 (after move).separator separatorLength' separator' → Kept 65 (after move).words wordCount' words'
      → Held line separator' separatorLength' words' wordCount' (after move).mode (i + 1)
  unfolding run
  held_next move within does bytes_kept calls_kept =
      record {
        bytes = (after move).separator;
        calls = (after move).words;
        state =
            ap (run fresh) (ap (λ (k : ℕ). take k line) (add-one i) ∙ take-suc line i 0 within)
            ∙ run_append fresh (take i line) (get_or line i 0 ∷ [])
            ∙ ap (λ (st : State). run st (get_or line i 0 ∷ [])) h.state
            ∙ ap after does;
        bytes_kept = bytes_kept;
        calls_kept = calls_kept;
      }

  module _ (through : length line ≤ i) where
    whole : run fresh line ≡ at mode h.bytes h.calls
    whole = ap (run fresh) (sym (take_all i line through)) ∙ h.state

    pub held_card : length line ≤ 2048 → mode ≡ End
        → record {
          is_card = true;
          separator = separator;
          separator_length = separatorLength;
          words = words;
          word_count = wordCount;
        } ≡ reading (card_of line)
    unfolding reading
    held_card short e =
        (λ j. record {
          is_card = true;
          separator = h.bytes_kept.numbers j;
          separator_length = h.bytes_kept.counted j;
          words = h.calls_kept.numbers j;
          word_count = h.calls_kept.counted j;
        })
        ∙ ap reading (sym (ended line h.bytes h.calls short (whole ∙ ap (λ (m : Mode). at m h.bytes h.calls) e)))

    pub held_none : length line ≤ 2048 → (mode ≡ End → ⊥) → card_of line ≡ none
    held_none short other = not_ended line short (λ e. other (sym (ap (λ (st : State). st.mode) whole) ∙ e))
