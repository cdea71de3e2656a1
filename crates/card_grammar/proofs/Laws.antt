-- The laws of `card_of`: it gives a card's separator and words, and none for a line that is no card.
-- Assumes nothing.
use mathlib.Core.Path.{◌≡◌, refl, sym, ap, ◌∙◌}
use mathlib.Core.List.{List}
use mathlib.Core.Logic.{◌⊎◌, ⊎_elim, inl, inr}
use Prim.Native.Nat.{ℕ, ◌<◌, ◌≤◌}
use native.Mathlib.Omega.{arith}
use borrow.Author.Tests.{lt-ltb, le-ltb, ltb-true, ltb-false}
use lib.Dec.{ltb}
use lib.ListN.{length}
use Rattle.basics.specs.Logic.{when◌then◌else◌}
use Rattle.basics.specs.Lists.{Below}
use Rattle.basics.proofs.Cases.{cases}
use Rattle.card_grammar.specs.Text.{card_text}
use Rattle.card_grammar.specs.Grammar.{CardOf, Reading, card, none, NoCard}
use Rattle.card_grammar.specs.Machine.{State, at, run, fresh, card_at}
use Rattle.card_grammar.specs.Card.{card_of}
use Rattle.card_grammar.specs.declared.machine.Mode.{Mode}
use Rattle.card_grammar.specs.declared.machine.Mode.TheVariants.{Head, Domain, First, Half, More, Middle, Calls, Open}
use Rattle.card_grammar.specs.declared.machine.Mode.TheVariants.{Kind, Space, Start, Zero, Length, Close, End, Dead}
use Rattle.card_grammar.proofs.Forward.{card_run}
use Rattle.card_grammar.proofs.Backward.{end_told}

-- no two cards have the same text
pub unambiguous : (s w s' w' : List ℕ) → Below 256 s → Below 4294967296 w → Below 256 s' → Below 4294967296 w'
    → card_text s w ≡ card_text s' w' → (s ≡ s') × (w ≡ w')
unambiguous s w s' w' p q p' q' e =
    let same : at End s w ≡ at End s' w' = sym (card_run s w p q) ∙ ap (run fresh) e ∙ card_run s' w' p' q' in
    (ap (λ (st : State). st.separator) same, ap (λ (st : State). st.words) same)

no_card_is_none : (s w : List ℕ) → card s w ≡ none → ⊥
no_card_is_none s w e = let z : ◌≡◌ {A = ℕ} 0 1 = cc in omega arith

-- the machine stands behind a whole card, or there is none
end_or_none : (m : Mode) (s w : List ℕ) → (m ≡ End) ⊎ (card_at (at m s w) ≡ none)
unfolding card_at
end_or_none (Head k) s w = inr refl
end_or_none Domain s w = inr refl
end_or_none First s w = inr refl
end_or_none (Half h) s w = inr refl
end_or_none More s w = inr refl
end_or_none (Middle k) s w = inr refl
end_or_none Calls s w = inr refl
end_or_none Open s w = inr refl
end_or_none Kind s w = inr refl
end_or_none (Space t) s w = inr refl
end_or_none (Start t) s w = inr refl
end_or_none (Zero t) s w = inr refl
end_or_none (Length t v) s w = inr refl
end_or_none Close s w = inr refl
end_or_none End s w = inl refl
end_or_none Dead s w = inr refl

at_end : (m : Mode) (s w s' w' : List ℕ) → card_at (at m s w) ≡ card s' w' → at m s w ≡ at End s' w'
unfolding card_at
at_end m s w s' w' e =
    ⊎_elim
    (λ end. let same : card s w ≡ card s' w' = sym (ap (λ (n : Mode). card_at (at n s w)) end) ∙ e in
    let left : s ≡ s' = cc in
    let right : w ≡ w' = cc in
    λ j. at (end j) (left j) (right j))
    (λ other. absurd (no_card_is_none s' w' (sym e ∙ other)))
    (end_or_none m s w)

module _ (line : List ℕ) where
  -- by a line's length, and where it leaves the machine
  pub long_none : 2048 < length line → card_of line ≡ none
  unfolding card_of when◌then◌else◌
  long_none h = rw lt-ltb

  short_read : length line ≤ 2048 → card_of line ≡ card_at (run fresh line)
  unfolding card_of when◌then◌else◌
  short_read h = rw le-ltb

  pub ended : (s w : List ℕ) → length line ≤ 2048 → run fresh line ≡ at End s w → card_of line ≡ card s w
  unfolding card_at
  ended s w short e = short_read short ∙ ap card_at e

  pub not_ended : length line ≤ 2048 → ((run fresh line).mode ≡ End → ⊥) → card_of line ≡ none
  not_ended short other =
      let st : State = run fresh line in
      short_read short ∙ ⊎_elim (λ end. absurd (other end)) (λ nothing. nothing) (end_or_none st.mode st.separator st.words)

  -- a card is read as its separator and words, and what is read as a card is one
  pub card_of_law : (s w : List ℕ) → CardOf line s w → card_of line ≡ card s w
  card_of_law s w c = ended s w (omega (arith, c.short)) (ap (run fresh) c.text ∙ card_run s w c.bytes c.words)

  pub of_card : (s w : List ℕ) → card_of line ≡ card s w → CardOf line s w
  of_card s w e =
      cases (ltb 2048 (length line))
      (λ t. absurd (no_card_is_none s w (sym e ∙ long_none (ltb-true 2048 (length line) t))))
      (λ t. let short : length line ≤ 2048 = ltb-false 2048 (length line) t in
      let st : State = run fresh line in
      let told = end_told line s w (at_end st.mode st.separator st.words s w (sym (short_read short) ∙ e)) in
      record { short = omega arith; bytes = told.0.0; words = told.0.1; text = told.1 })

  -- a line that is no card is read as none, and what is read as none is no card
  pub of_none : card_of line ≡ none → NoCard line
  of_none e = record { never = λ s w c. no_card_is_none s w (sym (card_of_law s w c) ∙ e) }

  none_unless_card : NoCard line → (r : Reading) → card_of line ≡ r → card_of line ≡ none
  none_unless_card n (card s w) e = absurd (n.never s w (of_card s w e))
  none_unless_card n none e = e

  pub none_of : NoCard line → card_of line ≡ none
  none_of n = none_unless_card n (card_of line) refl
