-- Laws of `placed`: a buffer with a text from a place on.
-- Assumes nothing.
use mathlib.Core.Path.{◌≡◌, refl, sym, ap, ap₂, ◌∙◌}
use mathlib.Core.List.{List, [], ◌∷◌, ◌++◌, append_assoc}
use Prim.Native.Nat.{ℕ, suc, ◌+◌, ◌-◌, ◌≤◌, ◌<◌}
use native.Mathlib.Nat.{zero-add}
use native.Mathlib.Numerals.{add-one}
use native.Mathlib.Omega.{arith}
use lib.ListN.{length, get_or, take, drop, set, length-append, length-take, length-drop}
use lib.Seq.{length-take-le, take_all, take-suc, drop-cons, take-append_seam, take_at, drop-append-add, drop-drop, set_at, append_snoc, paste-zero}
use Rattle.basics.specs.Lists.{placed}

module _ (buffer : List ℕ) (at : ℕ) where
  pub placed_none : placed buffer at [] ≡ buffer
  unfolding placed
  placed_none = sym (paste-zero buffer at [])

  -- what precedes the rest
  head_length : (text : List ℕ) → at ≤ length buffer → length (take at buffer ++ text) ≡ at + length text
  head_length text h =
      length-append (take at buffer) text ∙ ap (λ (k : ℕ). k + length text) (length-take-le at buffer h)

  pub placed_length : (text : List ℕ) → length text ≤ length buffer - at → length (placed buffer at text) ≡ length buffer
  unfolding placed
  placed_length text h = simp (length-append, length-take, length-drop) (omega arith)

  -- a text behind a text
  pub placed_behind : (s t : List ℕ) → at ≤ length buffer → placed (placed buffer at s) (at + length s) t ≡ placed buffer at (s ++ t)
  unfolding placed
  placed_behind s t h =
      let head = take at buffer ++ s in
      let rest = drop (at + length s) buffer in
      let front = take_at head rest (at + length s) (head_length s h) in
      let long : length (s ++ t) ≡ length s + length t = length-append s t in
      let place : at + length s + length t ≡ at + length (s ++ t) = omega arith in
      let behind : drop (at + length s + length t) (head ++ rest) ≡ drop (at + length (s ++ t)) buffer =
      ap (λ (k : ℕ). drop (k + length t) (head ++ rest)) (sym (head_length s h))
      ∙ drop-append-add head rest (length t)
      ∙ drop-drop (length t) (at + length s) buffer
      ∙ ap (λ (k : ℕ). drop k buffer) place in
      ap₂ (λ (x y : List ℕ). x ++ t ++ y) front behind
      ∙ ap (λ (l : List ℕ). l ++ drop (at + length (s ++ t)) buffer) (append_assoc (take at buffer) s t)

  -- one element behind a text
  pub placed_set : (text : List ℕ) (x : ℕ) → length text < length buffer - at
      → set (placed buffer at text) (at + length text) x ≡ placed buffer at (text ++ (x ∷ []))
  unfolding placed
  placed_set text x h =
      let head = take at buffer ++ text in
      let place = at + length text in
      let long = length-append text (x ∷ []) in
      let next : suc place ≡ at + length (text ++ (x ∷ [])) = omega arith in
      ap (λ (l : List ℕ). set (head ++ l) place x) (drop-cons buffer place 0 (omega arith))
      ∙ set_at head (get_or buffer place 0) (drop (suc place) buffer) x place (head_length text (omega arith))
      ∙ sym (append_snoc head x (drop (suc place) buffer))
      ∙ ap₂ (λ (l : List ℕ) (k : ℕ). l ++ drop k buffer) (append_assoc (take at buffer) text (x ∷ [])) next

  -- one byte more of a text that is copied
  pub placed_next : (bytes : List ℕ) (i : ℕ) → i < length bytes → i < length buffer - at
      → set (placed buffer at (take i bytes)) (at + i) (get_or bytes i 0) ≡ placed buffer at (take (i + 1) bytes)
  placed_next bytes i h k =
      let long : length (take i bytes) ≡ i = length-take-le i bytes (omega arith) in
      ap (λ (n : ℕ). set (placed buffer at (take i bytes)) (at + n) (get_or bytes i 0)) (sym long)
      ∙ placed_set (take i bytes) (get_or bytes i 0) (omega arith)
      ∙ ap (placed buffer at) (sym (take-suc bytes i 0 h))
      ∙ ap (λ (n : ℕ). placed buffer at (take n bytes)) (sym (add-one i))

-- from the buffer's start on
pub placed_start : (buffer text : List ℕ) → placed buffer 0 text ≡ text ++ drop (length text) buffer
unfolding placed
placed_start buffer text = ap (λ (k : ℕ). text ++ drop k buffer) (zero-add (length text))

-- the text is then the buffer's first bytes
pub placed_front : (buffer text : List ℕ) → take (length text) (placed buffer 0 text) ≡ text
placed_front buffer text = ap (take (length text)) (placed_start buffer text) ∙ take-append_seam text (drop (length text) buffer)

-- what a buffer is after a text was written to its start, part by part
pub record Begins (buffer text after : List ℕ) : Type 0 where
  pub is : after ≡ placed buffer 0 text
  pub long : length after ≡ length buffer

pub begins : (buffer : List ℕ) → Begins buffer [] buffer
begins buffer = record { is = sym (placed_none buffer 0); long = refl }

module _
    {buffer text after : List ℕ}
    (b : Begins buffer text after)
    (at : ℕ)
    (e : at ≡ length text)
    (more : List ℕ)
    (fits : length text + length more ≤ length buffer)
  where
    -- one text more, behind it
    pub begins_more : {next : List ℕ} → next ≡ placed after at more → Begins buffer (text ++ more) next
    begins_more {next} p =
        let whole : length (text ++ more) ≡ length text + length more = length-append text more in
        let place : at ≡ 0 + length text = omega arith in
        let is : next ≡ placed buffer 0 (text ++ more) =
        p
        ∙ ap₂ (λ (l : List ℕ) (k : ℕ). placed l k more) b.is place
        ∙ placed_behind buffer 0 text more (omega arith) in
        record { is = is; long = ap length is ∙ placed_length buffer 0 (text ++ more) (omega arith) }

    -- the same for a text that is copied as far as there is room: there is room for all of it
    pub begins_copied : {next : List ℕ} → next ≡ placed after at (take (length after - at) more) → Begins buffer (text ++ more) next
    begins_copied p =
        let long = b.long in
        begins_more (p ∙ ap (placed after at) (take_all (length after - at) more (omega arith)))
