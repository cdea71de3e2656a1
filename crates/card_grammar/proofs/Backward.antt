-- A line that the machine takes to its end is a card's text.
-- Assumes nothing.
use mathlib.Core.Path.{◌≡◌, refl, sym, ap, subst, ◌∙◌}
use mathlib.Core.List.{List, [], ◌∷◌, ◌++◌, append_assoc, append-nil}
use mathlib.Core.Logic.{◌⊎◌, ⊎_elim, inl, inr}
use Prim.Native.Nat.{ℕ, ◌+◌, ◌*◌, ◌/◌, ◌%◌, ◌<◌, ◌≤◌}
use native.Mathlib.Numerals.{add-one}
use native.Mathlib.Omega.{arith}
use borrow.Author.Tests.{ltb-true, ltb-false, le-leb, lt-leb, leb-true, eqb-true, eqb-false}
use lib.Dec.{ltb, leb, eqb, lit<}
use lib.ListN.{take}
use lib.Seq.{take-suc}
use Rattle.basics.specs.Logic.{when◌then◌else◌}
use Rattle.basics.specs.Lists.{Below}
use Rattle.basics.proofs.Cases.{by}
use Rattle.basics.proofs.Below.{below_nil, below_push}
use Rattle.words.specs.Words.{is_absorb, length_of}
use Rattle.card_grammar.specs.Text.{head_text, middle_text, hex_digit, hex, separator_text, decimal, call_text, calls_text, card_text}
use Rattle.card_grammar.specs.Machine.{head_at, middle_at, hex_value, decimal_value, expected, move_of, State, at, state_after, stepped, run, fresh}
use Rattle.card_grammar.proofs.Digits.{hex_append, hex_read, decimal_read, decimal_small, decimal_push}
use Rattle.card_grammar.specs.declared.machine.Mode.{Mode}
use Rattle.card_grammar.specs.declared.machine.Mode.TheVariants.{Head, Domain, First, Half, More, Middle, Calls, Open}
use Rattle.card_grammar.specs.declared.machine.Mode.TheVariants.{Kind, Space, Start, Zero, Length, Close, End, Dead}
use Rattle.card_grammar.specs.declared.machine.Move.{Move}

-- the text up to the last call read
abbrev up_to : List ℕ → List ℕ → List ℕ
up_to s w = head_text ++ (separator_text s ++ (middle_text ++ calls_text w))

abbrev letter : ℕ → ℕ
letter t = when is_absorb t then 97 else 115

letter_absorb : 97 ≡ letter 2147483648
unfolding is_absorb when◌then◌else◌
letter_absorb = refl

letter_squeeze : 115 ≡ letter 0
unfolding is_absorb when◌then◌else◌
letter_squeeze = refl

abbrev TopBit : ℕ → Type 0
TopBit t = (t ≡ 2147483648) ⊎ (t ≡ 0)

abbrev InRange : List ℕ → List ℕ → Type 0
InRange s w = Below 256 s × Below 4294967296 w

-- what a line is so far, by the mode that the machine has reached
abbrev Told : Mode → List ℕ → List ℕ → List ℕ → Type 0
Told (Head k) s w l = (k < 13) × (s ≡ []) × (w ≡ []) × (l ≡ take k head_text)
Told Domain s w l = (s ≡ []) × (w ≡ []) × (l ≡ head_text)
Told First s w l = (s ≡ []) × (w ≡ []) × (l ≡ head_text ++ (32 ∷ []))
Told (Half h) s w l = (w ≡ []) × Below 256 s × (h < 16) × (l ≡ head_text ++ (32 ∷ (hex s ++ (hex_digit h ∷ []))))
Told More s w l = (w ≡ []) × Below 256 s × (l ≡ head_text ++ (32 ∷ hex s)) × (separator_text s ≡ 32 ∷ hex s)
Told (Middle k) s w l = (k < 8) × (w ≡ []) × Below 256 s × (l ≡ head_text ++ (separator_text s ++ take k middle_text))
Told Calls s w l = InRange s w × (l ≡ up_to s w)
Told Open s w l = InRange s w × (l ≡ up_to s w ++ (32 ∷ []))
Told Kind s w l = InRange s w × (l ≡ up_to s w ++ (32 ∷ 40 ∷ []))
Told (Space t) s w l = InRange s w × TopBit t × (l ≡ up_to s w ++ (32 ∷ 40 ∷ letter t ∷ []))
Told (Start t) s w l = InRange s w × TopBit t × (l ≡ up_to s w ++ (32 ∷ 40 ∷ letter t ∷ 32 ∷ []))
Told (Zero t) s w l = InRange s w × TopBit t × (l ≡ up_to s w ++ (32 ∷ 40 ∷ letter t ∷ 32 ∷ 48 ∷ []))
Told (Length t v) s w l = InRange s w × TopBit t × (0 < v) × (v ≤ 2147483647) × (l ≡ up_to s w ++ (32 ∷ 40 ∷ letter t ∷ 32 ∷ decimal v))
Told Close s w l = InRange s w × (l ≡ up_to s w ++ (41 ∷ []))
Told End s w l = InRange s w × (l ≡ up_to s w ++ (41 ∷ 41 ∷ []))
Told Dead s w l = Unit {0}

abbrev ToldAt : State → List ℕ → Type 0
ToldAt st l = Told st.mode st.separator st.words l

abbrev ToldBy : List ℕ → List ℕ → List ℕ → Move → Type 0
ToldBy s w l move = ToldAt (state_after move s w) l

told_expected : (s w l : List ℕ) (b wanted : ℕ) (next : Mode) → (b ≡ wanted → Told next s w l) → ToldBy s w l (expected b wanted next)
unfolding expected
told_expected s w l b wanted next told = by (ToldBy s w l) (eqb b wanted) _ _ (λ e. told (eqb-true b wanted e)) (λ e. tt)

-- one byte more behind a text
more : (l p q : List ℕ) (b x : ℕ) → l ≡ p ++ q → b ≡ x → l ++ (b ∷ []) ≡ p ++ (q ++ (x ∷ []))
more l p q b x e f = ap (λ (y : List ℕ). y ++ (b ∷ [])) e ∙ append_assoc p q (b ∷ []) ∙ ap (λ (y : ℕ). p ++ (q ++ (y ∷ []))) f

first_more : (l p : List ℕ) (b x : ℕ) → l ≡ p → b ≡ x → l ++ (b ∷ []) ≡ p ++ (x ∷ [])
first_more l p b x e f = ap (λ (y : List ℕ). y ++ (b ∷ [])) e ∙ ap (λ (y : ℕ). p ++ (y ∷ [])) f

hex_push : (s : List ℕ) (x : ℕ) → hex (s ++ (x ∷ [])) ≡ hex s ++ (hex_digit (x / 16) ∷ hex_digit (x % 16) ∷ [])
unfolding hex
hex_push s x = hex_append s (x ∷ [])

separator_push : (s : List ℕ) (x : ℕ) → separator_text (s ++ (x ∷ [])) ≡ 32 ∷ hex (s ++ (x ∷ []))
unfolding separator_text
separator_push [] x = refl
separator_push (y ∷ s) x = refl

calls_push : (w : List ℕ) (x : ℕ) → calls_text (w ++ (x ∷ [])) ≡ calls_text w ++ call_text x
unfolding calls_text
calls_push [] x = append-nil (call_text x)
calls_push (y ∷ w) x = ap (λ (l : List ℕ). call_text y ++ l) (calls_push w x) ∙ sym (append_assoc (call_text y) (calls_text w) (call_text x))

up_to_push : (s w : List ℕ) (x : ℕ) → up_to s (w ++ (x ∷ [])) ≡ up_to s w ++ call_text x
up_to_push s w x = rw calls_push (simp append_assoc)

-- the word of a top bit and a length
word_text : (t v : ℕ) → TopBit t → v ≤ 2147483647 → call_text (t + v) ≡ 32 ∷ 40 ∷ letter t ∷ 32 ∷ (decimal v ++ (41 ∷ []))
unfolding call_text is_absorb length_of when◌then◌else◌
word_text t v top u =
    ⊎_elim
    (λ e. let low : (2147483648 + v) % 2147483648 ≡ v = omega arith in
    rw e (simp (low, le-leb 2147483648 (2147483648 + v) (omega arith))))
    (λ e. let low : (0 + v) % 2147483648 ≡ v = omega arith in
    rw e (simp (low, lt-leb 2147483648 (0 + v) (omega arith))))
    top

word_fits : (t v : ℕ) → TopBit t → v ≤ 2147483647 → t + v < 4294967296
word_fits t v top u = ⊎_elim (λ e. omega arith) (λ e. omega arith) top

word_told : (s w l : List ℕ) (t v b : ℕ) → InRange s w → TopBit t → v ≤ 2147483647
    → l ≡ up_to s w ++ (32 ∷ 40 ∷ letter t ∷ 32 ∷ decimal v) → b ≡ 41 → Told Calls s (w ++ ((t + v) ∷ [])) (l ++ (b ∷ []))
word_told s w l t v b within top u e f = (
  (within.0, below_push 4294967296 w (t + v) within.1 (word_fits t v top u)),
  more l (up_to s w) (32 ∷ 40 ∷ letter t ∷ 32 ∷ decimal v) b 41 e f
      ∙ ap (λ (y : List ℕ). up_to s w ++ y) (sym (word_text t v top u))
      ∙ sym (up_to_push s w (t + v)),
)

head_more : (k : ℕ) → k < 13 → take k head_text ++ (head_at k ∷ []) ≡ take (k + 1) head_text
unfolding head_at
head_more k h = rw add-one (sym (take-suc head_text k 0 h))

middle_more : (k : ℕ) → k < 8 → take k middle_text ++ (middle_at k ∷ []) ≡ take (k + 1) middle_text
unfolding middle_at
middle_more k h = rw add-one (sym (take-suc middle_text k 0 h))

empty_below : (n : ℕ) (s : List ℕ) → s ≡ [] → Below n s
empty_below n s e = rw e (below_nil n)

empty_separator : (s : List ℕ) → s ≡ [] → head_text ++ (41 ∷ []) ≡ head_text ++ (separator_text s ++ take 1 middle_text)
unfolding separator_text
empty_separator s e = rw e

empty_hex : (s : List ℕ) (d : ℕ) → s ≡ [] → head_text ++ (32 ∷ d ∷ []) ≡ head_text ++ (32 ∷ (hex s ++ (d ∷ [])))
unfolding hex
empty_hex s d e = rw e

empty_calls : (s w : List ℕ) → w ≡ [] → head_text ++ (separator_text s ++ middle_text) ≡ up_to s w
unfolding calls_text
empty_calls s w e = rw e

told_step : (m : Mode) (s w l : List ℕ) (b : ℕ) → Told m s w l → ToldBy s w (l ++ (b ∷ [])) (move_of m b)
unfolding move_of
told_step (Head k) s w l b h =
    let text : b ≡ head_at k → l ++ (b ∷ []) ≡ take (k + 1) head_text =
    λ e. first_more l (take k head_text) b (head_at k) h.3 e ∙ head_more k h.0 in
    by (ToldBy s w (l ++ (b ∷ []))) (ltb k 12) _ _
    (λ f. told_expected s w (l ++ (b ∷ [])) b (head_at k) (Head (k + 1)) (λ e. (omega (arith, ltb-true k 12 f), h.1, h.2, text e)))
    (λ f. let last : k ≡ 12 = omega (arith, ltb-false k 12 f, h.0) in
    told_expected s w (l ++ (b ∷ [])) b (head_at k) Domain (λ e. (h.1, h.2, text e ∙ ap (λ (y : ℕ). take (y + 1) head_text) last)))
told_step Domain s w l b h =
    by (ToldBy s w (l ++ (b ∷ []))) (eqb b 32) _ _
    (λ e. (h.0, h.1, first_more l head_text b 32 h.2 (eqb-true b 32 e)))
    (λ e. told_expected s w (l ++ (b ∷ [])) b 41 (Middle 1)
    (λ f. (lit< tt, h.1, empty_below 256 s h.0, first_more l head_text b 41 h.2 f ∙ empty_separator s h.0)))
told_step First s w l b h =
    by (ToldBy s w (l ++ (b ∷ []))) (ltb (hex_value b) 16) _ _
    (λ e. let digit : hex_value b < 16 = ltb-true (hex_value b) 16 e in (
      h.1,
      empty_below 256 s h.0,
      digit,
      more l head_text (32 ∷ []) b (hex_digit (hex_value b)) h.2 (hex_read b digit) ∙ empty_hex s (hex_digit (hex_value b)) h.0,
    ))
    (λ e. tt)
told_step (Half k) s w l b h =
    let P = ToldBy s w (l ++ (b ∷ [])) in
    by P (ltb (hex_value b) 16) _ _
    (λ e. let digit : hex_value b < 16 = ltb-true (hex_value b) 16 e in
    by P (ltb k 16) _ _
    (λ f. let x : ℕ = k * 16 + hex_value b in
    let small : k * 16 + hex_value b < 256 = omega (arith, h.2) in
    let quotient : (k * 16 + hex_value b) / 16 ≡ k = omega arith in
    let remainder : (k * 16 + hex_value b) % 16 ≡ hex_value b = omega arith in (
      h.0,
      below_push 256 s x h.1 small,
      more l head_text (32 ∷ (hex s ++ (hex_digit k ∷ []))) b (hex_digit (hex_value b)) h.3 (hex_read b digit)
          ∙ ap (λ (y : List ℕ). head_text ++ (32 ∷ y)) (append_assoc (hex s) (hex_digit k ∷ []) (hex_digit (hex_value b) ∷ [])
          ∙ ap (λ (y : ℕ). hex s ++ (hex_digit y ∷ hex_digit (hex_value b) ∷ [])) (sym quotient)
          ∙ ap (λ (y : ℕ). hex s ++ (hex_digit (x / 16) ∷ hex_digit y ∷ [])) (sym remainder)
          ∙ sym (hex_push s x)),
      separator_push s x,
    ))
    (λ f. tt))
    (λ e. tt)
told_step More s w l b h =
    let P = ToldBy s w (l ++ (b ∷ [])) in
    by P (eqb b 41) _ _
    (λ e. (
      lit< tt,
      h.0,
      h.1,
      more l head_text (32 ∷ hex s) b 41 h.2 (eqb-true b 41 e) ∙ ap (λ (y : List ℕ). head_text ++ (y ++ (41 ∷ []))) (sym h.3),
    ))
    (λ e. by P (ltb (hex_value b) 16) _ _
    (λ f. let digit : hex_value b < 16 = ltb-true (hex_value b) 16 f in
    (h.0, h.1, digit, more l head_text (32 ∷ hex s) b (hex_digit (hex_value b)) h.2 (hex_read b digit)))
    (λ f. tt))
told_step (Middle k) s w l b h =
    let text : b ≡ middle_at k → l ++ (b ∷ []) ≡ head_text ++ (separator_text s ++ take (k + 1) middle_text) =
    λ e. more l head_text (separator_text s ++ take k middle_text) b (middle_at k) h.3 e
    ∙ ap (λ (y : List ℕ). head_text ++ y) (append_assoc (separator_text s) (take k middle_text) (middle_at k ∷ [])
    ∙ ap (λ (y : List ℕ). separator_text s ++ y) (middle_more k h.0)) in
    by (ToldBy s w (l ++ (b ∷ []))) (ltb k 7) _ _
    (λ f. told_expected s w (l ++ (b ∷ [])) b (middle_at k) (Middle (k + 1)) (λ e. (omega (arith, ltb-true k 7 f), h.1, h.2, text e)))
    (λ f. let last : k ≡ 7 = omega (arith, ltb-false k 7 f, h.0) in
    told_expected s w (l ++ (b ∷ [])) b (middle_at k) Calls (λ e. (
      (h.2, empty_below 4294967296 w h.1),
      text e ∙ ap (λ (y : ℕ). head_text ++ (separator_text s ++ take (y + 1) middle_text)) last ∙ empty_calls s w h.1,
    )))
told_step Calls s w l b h =
    by (ToldBy s w (l ++ (b ∷ []))) (eqb b 32) _ _
    (λ e. (h.0, first_more l (up_to s w) b 32 h.1 (eqb-true b 32 e)))
    (λ e. told_expected s w (l ++ (b ∷ [])) b 41 Close (λ f. (h.0, first_more l (up_to s w) b 41 h.1 f)))
told_step Open s w l b h =
    told_expected s w (l ++ (b ∷ [])) b 40 Kind (λ e. (h.0, more l (up_to s w) (32 ∷ []) b 40 h.1 e))
told_step Kind s w l b h =
    by (ToldBy s w (l ++ (b ∷ []))) (eqb b 97) _ _
    (λ e. (h.0, inl refl, more l (up_to s w) (32 ∷ 40 ∷ []) b (letter 2147483648) h.1 (eqb-true b 97 e ∙ letter_absorb)))
    (λ e. told_expected s w (l ++ (b ∷ [])) b 115 (Space 0)
    (λ f. (h.0, inr refl, more l (up_to s w) (32 ∷ 40 ∷ []) b (letter 0) h.1 (f ∙ letter_squeeze))))
told_step (Space t) s w l b h =
    told_expected s w (l ++ (b ∷ [])) b 32 (Start t) (λ e. (h.0, h.1, more l (up_to s w) (32 ∷ 40 ∷ letter t ∷ []) b 32 h.2 e))
told_step (Start t) s w l b h =
    let P = ToldBy s w (l ++ (b ∷ [])) in
    by P (eqb b 48) _ _
    (λ e. (h.0, h.1, more l (up_to s w) (32 ∷ 40 ∷ letter t ∷ 32 ∷ []) b 48 h.2 (eqb-true b 48 e)))
    (λ e. by P (ltb (decimal_value b) 10) _ _
    (λ f. let digit : decimal_value b < 10 = ltb-true (decimal_value b) 10 f in
    let byte : b ≡ decimal_value b + 48 = decimal_read b digit in (
      h.0,
      h.1,
      omega (arith, eqb-false b 48 e),
      omega arith,
      more l (up_to s w) (32 ∷ 40 ∷ letter t ∷ 32 ∷ []) b (decimal_value b + 48) h.2 byte
          ∙ ap (λ (y : List ℕ). up_to s w ++ (32 ∷ 40 ∷ letter t ∷ 32 ∷ y)) (sym (decimal_small (decimal_value b) digit)),
    ))
    (λ f. tt))
told_step (Zero t) s w l b h =
    by (ToldBy s w (l ++ (b ∷ []))) (eqb b 41) _ _
    (λ e. let same : t + 0 ≡ t = omega arith in
    subst (λ (y : ℕ). Told Calls s (w ++ (y ∷ [])) (l ++ (b ∷ []))) same
    (word_told s w l t 0 b h.0 h.1 (omega arith)
    (h.2 ∙ ap (λ (y : List ℕ). up_to s w ++ (32 ∷ 40 ∷ letter t ∷ 32 ∷ y)) (sym (decimal_small 0 (omega arith)))) (eqb-true b 41 e)))
    (λ e. tt)
told_step (Length t v) s w l b h =
    let P = ToldBy s w (l ++ (b ∷ [])) in
    by P (eqb b 41) _ _
    (λ e. by P (ltb (t + v) 4294967296) _ _
    (λ f. word_told s w l t v b h.0 h.1 h.3 h.4 (eqb-true b 41 e))
    (λ f. tt))
    (λ e. by P (ltb (decimal_value b) 10) _ _
    (λ f. let digit : decimal_value b < 10 = ltb-true (decimal_value b) 10 f in
    by P (leb (v * 10 + decimal_value b) 2147483647) _ _
    (λ g. (
      h.0,
      h.1,
      omega (arith, h.2),
      leb-true (v * 10 + decimal_value b) 2147483647 g,
      more l (up_to s w) (32 ∷ 40 ∷ letter t ∷ 32 ∷ decimal v) b (decimal_value b + 48) h.4 (decimal_read b digit)
          ∙ ap (λ (y : List ℕ). up_to s w ++ (32 ∷ 40 ∷ letter t ∷ 32 ∷ y)) (sym (decimal_push v (decimal_value b) h.2 digit)),
    ))
    (λ g. tt))
    (λ f. tt))
told_step Close s w l b h =
    told_expected s w (l ++ (b ∷ [])) b 41 End (λ e. (h.0, more l (up_to s w) (41 ∷ []) b 41 h.1 e))
told_step End s w l b h = tt
told_step Dead s w l b h = tt

told_run : (st : State) (p l : List ℕ) → ToldAt st p → ToldAt (run st l) (p ++ l)
unfolding run
told_run st p [] h = rw append-nil h
told_run st p (b ∷ l) h =
    subst (λ (y : List ℕ). ToldAt (run st (b ∷ l)) y) (append_assoc p (b ∷ []) l)
    (told_run (stepped st b) (p ++ (b ∷ [])) l (told_step st.mode st.separator st.words p b h))

pub end_told : (l s w : List ℕ) → run fresh l ≡ at End s w → (Below 256 s × Below 4294967296 w) × (l ≡ card_text s w)
unfolding card_text
end_told l s w e =
    let told : Told End s w l = subst (λ (st : State). ToldAt st l) e (told_run fresh [] l (lit< tt, refl, refl, refl)) in
    (told.0, told.1 ∙ simp append_assoc)
