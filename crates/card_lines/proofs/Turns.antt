-- The loop of `answer_lines`: what is known before each turn, and where it ends.
-- Assumes nothing.
use mathlib.Core.Path.{◌≡◌, refl, sym, ap, ap₂, subst, ◌∙◌}
use mathlib.Core.List.{List, [], ◌∷◌, ◌++◌, append_assoc, append-nil}
use Prim.Native.Nat.{ℕ, ◌+◌, ◌-◌, ◌≤◌, ◌<◌}
use native.Mathlib.Nat.{add-zero}
use native.Mathlib.Omega.{arith}
use lib.ListN.{length, take, drop, length-append, length-drop}
use lib.Seq.{drop-drop}
use Rattle.basics.specs.Lists.{placed}
use Rattle.basics.proofs.Placed.{Begins, begins, begins_copied}
use Rattle.card.specs.Answer.{longest_answer}
use Rattle.card_lines.specs.Stream.{writes, takes, line_after, fed}
use Rattle.card_lines.specs.Calls.{Held, leaves, writes_all, takes_all, leaves_all, output_places, feedings, held_of, feedings_of, answered_text, answered_line, answered_fed}
use Rattle.card_lines.specs.declared.Fed.{Fed}
use Rattle.card_lines.proofs.Progress.{writes_within}
use Rattle.card_lines.proofs.Feedings.{rest_after, room_after, feedings_step, feedings_none, feedings_full}

-- the calls of `feed` that are left
abbrev calls : List ℕ → Held → ℕ → ℕ → List (List ℕ)
calls piece h used written = feedings (length (drop used piece)) (output_places - written) h (drop used piece)

-- so much is written, and what is left does the rest
pub record Turn (h₀ : Held) (used₀ : ℕ) (piece output₀ : List ℕ) (h : Held) (used written : ℕ) (output : List ℕ) : Type 0 where
  pub text : List ℕ
  pub count : written ≡ length text
  pub fits : written ≤ output_places
  pub begun : Begins output₀ text output
  pub same_text : text ++ writes_all h (calls piece h used written) ≡ writes_all h₀ (calls piece h₀ used₀ 0)
  pub same_left : leaves_all h (calls piece h used written) ≡ leaves_all h₀ (calls piece h₀ used₀ 0)
  pub same_used : used + length (takes_all (calls piece h used written)) ≡ used₀ + length (takes_all (calls piece h₀ used₀ 0))

pub first_turn : (h : Held) (used : ℕ) (piece output : List ℕ) → Turn h used piece output h used 0 output
first_turn h used piece output =
    record { text = []; count = refl; fits = omega arith; begun = begins output; same_text = refl; same_left = refl; same_used = refl }

module _ (h : Held) (used written : ℕ) (piece : List ℕ) (some : used < length piece) (room : longest_answer ≤ output_places - written) where
  abbrev rest : List ℕ
  rest = drop used piece

  abbrev text : List ℕ
  text = writes h.line h.held rest

  rest_some : 0 < length rest
  rest_some = omega (arith, length-drop used piece)

  one_call : calls piece h used written ≡ rest ∷ calls piece (leaves h rest) (used + length (takes rest)) (written + length text)
  one_call =
      let less : room_after (output_places - written) h rest ≡ output_places - (written + length text) = omega arith in
      let left : rest_after rest ≡ drop (used + length (takes rest)) piece = drop-drop (length (takes rest)) used piece in
      feedings_step (output_places - written) h rest rest_some room
      ∙ ap₂ (λ (n : ℕ) (l : List ℕ). rest ∷ feedings (length l) n (leaves h rest) l) less left

  fed_turn : {h₀ : Held} {used₀ : ℕ} {output₀ output next : List ℕ} → length output₀ ≡ output_places
      → Turn h₀ used₀ piece output₀ h used written output
      → next ≡ placed output written (take (length output - written) text)
      → Turn h₀ used₀ piece output₀ (leaves h rest) (used + length (takes rest)) (written + length text) next
  unfolding writes_all takes_all leaves_all
  fed_turn {h₀} {used₀} {output₀} {output} {next} long t p =
      let short = writes_within h.line h.held rest in
      let count = t.count in
      let later = calls piece (leaves h rest) (used + length (takes rest)) (written + length text) in
      record {
        text = t.text ++ text;
        count = omega (arith, length-append t.text text);
        fits = omega arith;
        begun = begins_copied t.begun written count text (omega arith) p;
        same_text =
            append_assoc t.text text (writes_all (leaves h rest) later)
            ∙ ap (λ (l : List (List ℕ)). t.text ++ writes_all h l) (sym one_call)
            ∙ t.same_text;
        same_left = ap (leaves_all h) (sym one_call) ∙ t.same_left;
        same_used =
            omega (arith, length-append (takes rest) (takes_all later))
            ∙ ap (λ (l : List (List ℕ)). used + length (takes_all l)) (sym one_call)
            ∙ t.same_used;
      }

  -- the same of what the call gave, and of the text that was copied
  pub next_turn : {h₀ : Held} {used₀ : ℕ} {output₀ output : List ℕ} → length output₀ ≡ output_places
      → Turn h₀ used₀ piece output₀ h used written output
      → (r : Fed) (line copied next : List ℕ)
      → r ≡ fed h.line h.held rest
      → line ≡ line_after h.line h.held rest
      → copied ≡ text
      → next ≡ placed output written (take (length output - written) copied)
      → Turn h₀ used₀ piece output₀ (held_of line r) (used + r.used) (written + r.written) next
  unfolding fed leaves
  next_turn {h₀} {used₀} {output₀} {output} long t r line copied next e f g p =
      let moved = fed_turn long t (p ∙ ap (λ (l : List ℕ). placed output written (take (length output - written) l)) g) in
      subst (λ (l : List ℕ). Turn h₀ used₀ piece output₀ (held_of l r) (used + r.used) (written + r.written) next) (sym f)
      (subst (λ (k : Fed). Turn h₀ used₀ piece output₀ (held_of (line_after h.line h.held rest) k) (used + k.used) (written + k.written) next)
      (sym e)
      moved)

-- the loop ends where no byte is left, or no room
pub none_left : (h : Held) (used written : ℕ) (piece : List ℕ) → length piece ≤ used → calls piece h used written ≡ []
none_left h used written piece e = feedings_none (output_places - written) h (drop used piece) (omega (arith, length-drop used piece))

pub no_room : (h : Held) (used written : ℕ) (piece : List ℕ) → output_places - written < longest_answer → calls piece h used written ≡ []
no_room h used written piece e = feedings_full (output_places - written) h (drop used piece) e

module _ (line₀ : List ℕ) (last : Fed) (piece output₀ line : List ℕ) (r : Fed) (output : List ℕ)
    (t : Turn (held_of line₀ last) last.used piece output₀ (held_of line r) r.used r.written output)
    (e : calls piece (held_of line r) r.used r.written ≡ []) where
  text_all : t.text ≡ answered_text line₀ last piece
  unfolding answered_text feedings_of writes_all
  text_all =
      sym (append-nil t.text) ∙ ap (λ (l : List (List ℕ)). t.text ++ writes_all (held_of line r) l) (sym e) ∙ t.same_text

  held_all : held_of line r ≡ leaves_all (held_of line₀ last) (feedings_of line₀ last piece)
  unfolding feedings_of leaves_all
  held_all = ap (leaves_all (held_of line r)) (sym e) ∙ t.same_left

  used_all : r.used ≡ last.used + length (takes_all (feedings_of line₀ last piece))
  unfolding feedings_of takes_all
  used_all = sym (add-zero r.used) ∙ ap (λ (l : List (List ℕ)). r.used + length (takes_all l)) (sym e) ∙ t.same_used

  pub done : (r ≡ answered_fed line₀ last piece)
      × (line ≡ answered_line line₀ last piece)
      × (output ≡ placed output₀ 0 (answered_text line₀ last piece))
  unfolding answered_fed answered_line
  done = (
    λ i. record { held = (held_all i).held; used = used_all i; written = (t.count ∙ ap length text_all) i },
    ap (λ (h : Held). h.line) held_all,
    t.begun.is ∙ ap (placed output₀ 0) text_all,
  )
