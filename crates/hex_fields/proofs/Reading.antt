-- A field read pair by pair.
-- Assumes nothing.
use mathlib.Core.Path.{◌≡◌, refl, sym, ap, ap₂, ◌∙◌}
use mathlib.Core.Bool.{true, false, not}
use mathlib.Core.List.{List, [], ◌∷◌, ◌++◌, append_assoc, append-nil}
use mathlib.Core.Logic.{◌⊎◌, ⊎_elim}
use Prim.Native.Nat.{ℕ, zero, suc, ◌+◌, ◌*◌, ◌-◌, ◌/◌, ◌%◌, ◌≤◌, ◌<◌, zero-le}
use native.Mathlib.Numerals.{add-one}
use native.Mathlib.Omega.{arith}
use borrow.Author.Tests.{lt-ltb, le-ltb, ltb-true, ltb-false, not-true, not-false}
use lib.Dec.{ltb}
use lib.ListN.{length, get_or, take, drop, set, replicate, length-set, length-replicate, take-append-drop, drop_of_length-le, length-drop}
use lib.Seq.{get_or-drop, drop-cons, drop-drop, take-suc-set, drop-set-lt, length-take-le}
use denote.Ref.{Bor}
use Rattle.std.specs.Prelude.{Option, Some, None, unwrap_or}
use Rattle.std.specs.List.{PartBy}
use Rattle.std.specs.Simd.{first_chunks}
use Rattle.std.proofs.lemmas.List.{take_rest}
use Rattle.basics.specs.Lists.{zero_padded}
use Rattle.basics.proofs.Parts.{chunk_read}
use Rattle.basics.proofs.Cases.{by, cases, if_true, if_false, and_left, and_right, and_stop, and_step}
use Rattle.hex_fields.specs.declared.Field.{Field}
use Rattle.hex_fields.specs.Fields.{digit_value, pair_byte, is_end, field_bytes, is_pair, place_behind, field_of, field_at, max_bytes}

-- ---- digits, and the place behind a field

pub digit_decimal : (code : ℕ) → code < 58 → digit_value code ≡ code % 16
unfolding digit_value
digit_decimal code h = if_true _ _ _ (lt-ltb code 58 h)

pub digit_letter : (code : ℕ) → 58 ≤ code → digit_value code ≡ (code % 16 + 9) % 16
unfolding digit_value
digit_letter code h = if_false _ _ _ (le-ltb code 58 h)

pub behind_inside : (text : List ℕ) (end : ℕ) → end < length text → place_behind text end ≡ end + 1
unfolding place_behind
behind_inside text end h = if_true _ _ _ (lt-ltb end (length text) h)

pub behind_last : (text : List ℕ) (end : ℕ) → length text ≤ end → place_behind text end ≡ end
unfolding place_behind
behind_last text end h = if_false _ _ _ (le-ltb end (length text) h)

-- it lies no earlier, and behind every place of the text before it
pub behind_end : (text : List ℕ) (end : ℕ) → end ≤ place_behind text end
unfolding place_behind
behind_end text end = by (λ place. end ≤ place) (ltb end (length text)) _ _ (λ e. omega arith) (λ e. omega arith)

pub behind_inner : (text : List ℕ) (at end : ℕ) → at ≤ end → at < length text → at < place_behind text end
unfolding place_behind
behind_inner text at end h l =
    by (λ place. at < place) (ltb end (length text)) _ _ (λ e. omega arith) (λ e. omega (arith, ltb-false end (length text) e))

-- ---- the test for a pair

pub pair_short : (text : List ℕ) (at : ℕ) → length text ≤ at + 1 → is_pair text at ≡ false
unfolding is_pair
pair_short text at h = and_stop _ _ (le-ltb (at + 1) (length text) h)

pub pair_end : (text : List ℕ) (at : ℕ) → at + 1 < length text → get_or text at 0 < 48 → is_pair text at ≡ false
unfolding is_pair is_end
pair_end text at l h = and_step _ _ (lt-ltb (at + 1) (length text) l) ∙ ap not (lt-ltb (get_or text at 0) 48 h)

pub pair_yes : (text : List ℕ) (at : ℕ) → at + 1 < length text → 48 ≤ get_or text at 0 → is_pair text at ≡ true
unfolding is_pair is_end
pair_yes text at l h = and_step _ _ (lt-ltb (at + 1) (length text) l) ∙ ap not (le-ltb (get_or text at 0) 48 h)

pub pair_inside : (text : List ℕ) (at : ℕ) → is_pair text at ≡ true → at + 1 < length text
unfolding is_pair
pair_inside text at e = ltb-true (at + 1) (length text) (and_left _ _ e)

-- ---- what is written from a place on

module _ (text : List ℕ) (at : ℕ) where
  two_codes : at + 1 < length text → drop at text ≡ get_or text at 0 ∷ (get_or text (at + 1) 0 ∷ drop (at + 2) text)
  two_codes h =
      let e1 : at + 1 ≡ suc at = omega arith in
      let e2 : at + 2 ≡ suc (suc at) = omega arith in
      let d0 = drop-cons text at 0 (omega arith) in
      let d1 = drop-cons text (suc at) 0 (omega arith) in
      rw (e1, e2, d0, d1)

  pub written_pair : (n : ℕ) → is_pair text at ≡ true
      → field_bytes (suc n) (drop at text) ≡ pair_byte (get_or text at 0) (get_or text (at + 1) 0) ∷ field_bytes n (drop (at + 2) text)
  unfolding is_pair field_bytes
  written_pair n e =
      let inside = ltb-true (at + 1) (length text) (and_left _ _ e) in
      ap (field_bytes (suc n)) (two_codes inside) ∙ if_false _ _ _ (not-true _ (and_right _ _ e))

  one_code : at < length text → length text ≤ at + 1 → drop at text ≡ get_or text at 0 ∷ []
  one_code l h =
      let none : drop (suc at) text ≡ [] = drop_of_length-le text {i = suc at} (omega arith) in
      drop-cons text at 0 l ∙ ap (λ (rest : List ℕ). get_or text at 0 ∷ rest) none

  pub written_none : (n : ℕ) → is_pair text at ≡ false → field_bytes n (drop at text) ≡ []
  unfolding is_pair field_bytes
  written_none zero e = refl
  written_none (suc n) e =
      cases (ltb (at + 1) (length text))
      (λ l. ap (field_bytes (suc n)) (two_codes (ltb-true (at + 1) (length text) l)) ∙ if_true _ _ _ (not-false _ (sym (and_step _ _ l) ∙ e)))
      (λ l. let short = ltb-false (at + 1) (length text) l in
      cases (ltb at (length text))
      (λ k. ap (field_bytes (suc n)) (one_code (ltb-true at (length text) k) short))
      (λ k. ap (field_bytes (suc n)) (drop_of_length-le text (ltb-false at (length text) k))))

-- ---- the text from a place on, in pairs

-- what the library gives of a text from a place on, and nothing where the place lies behind it
pub rest_is : (text : List ℕ) (at : ℕ) (found : Option (Bor (List ℕ))) (none : Bor (List ℕ)) → none.now ≡ []
    → PartBy (λ (x : Bor (List ℕ)). x.now) text at (length text) found → (unwrap_or found none).now ≡ drop at text
rest_is text at None none e p = e ∙ sym (drop_of_length-le text (⊎_elim (λ h. omega arith) (λ h. absurd (omega arith)) p.0))
rest_is text at (Some x) none e p = p.0.2 ∙ take_rest text at

module _ (text : List ℕ) (at : ℕ) (rest : List ℕ) (pairs : List (List ℕ)) (from : rest ≡ drop at text)
    (parts : pairs ≡ first_chunks 2 (length rest / 2) rest) where
  pub pairs_long : length pairs ≡ length rest / 2 → length pairs ≡ (length text - at) / 2
  pairs_long e = e ∙ ap (λ (k : ℕ). k / 2) (ap length from ∙ length-drop at text)

  pub pair_code : (i j : ℕ) → i < (length text - at) / 2 → j < 2 → get_or (get_or pairs i []) j 0 ≡ get_or text (at + 2 * i + j) 0
  pair_code i j h l =
      let long = ap length from ∙ length-drop at text in
      let place : at + (2 * i + j) ≡ at + 2 * i + j = omega arith in
      ap (λ (p : List (List ℕ)). get_or (get_or p i []) j 0) parts
      ∙ chunk_read 2 (length rest / 2) rest i j (rw long h) l
      ∙ ap (λ (s : List ℕ). get_or s (2 * i + j) 0) from
      ∙ get_or-drop at text (2 * i + j) 0
      ∙ ap (λ (k : ℕ). get_or text k 0) place

-- ---- the loop over pairs

-- some pairs are read into n places; what they write, and what is left of the field, is what the whole field writes
pub record Read (n : ℕ) (text : List ℕ) (at : ℕ) (bytes : List ℕ) (count from : ℕ) : Type 0 where
  pub within : count ≤ n
  pub long : length bytes ≡ n
  pub place : from ≡ at + 2 * count
  pub zeros : drop count bytes ≡ replicate (n - count) 0
  pub rest : take count bytes ++ field_bytes (n - count) (drop from text) ≡ field_bytes n (drop at text)

pub read_start : (n : ℕ) (text : List ℕ) (at : ℕ) → Read n text at (replicate n 0) 0 at
read_start n text at =
    let all : n - 0 ≡ n = omega arith in
    record { within = zero-le; long = length-replicate n 0; place = omega arith; zeros = rw all; rest = rw all }

module _ {n : ℕ} {text : List ℕ} {at : ℕ} {bytes : List ℕ} {count from : ℕ} (r : Read n text at bytes count from) where
  -- one pair more
  pub read_pair : (v : ℕ) → count < n → is_pair text from ≡ true → v ≡ pair_byte (get_or text from 0) (get_or text (from + 1) 0)
      → Read n text at (set bytes count v) (count + 1) (from + 2)
  read_pair v h e w =
      let left = n - (count + 1) in
      let room : n - count ≡ suc left = omega arith in
      let front : take (count + 1) (set bytes count v) ≡ take count bytes ++ (v ∷ []) = rw add-one (take-suc-set bytes count v (omega arith)) in
      let behind : drop (count + 1) (set bytes count v) ≡ drop (count + 1) bytes = drop-set-lt (count + 1) bytes count v (omega arith) in
      let zeros : drop (count + 1) bytes ≡ replicate left 0 =
      sym (drop-drop 1 count bytes) ∙ ap (drop 1) (r.zeros ∙ ap (λ (k : ℕ). replicate k 0) room) in
      record {
        within = omega arith;
        long = length-set bytes count v ∙ r.long;
        place = omega (arith, r.place);
        zeros = behind ∙ zeros;
        rest =
            ap (λ (l : List ℕ). l ++ field_bytes left (drop (from + 2) text)) front
            ∙ append_assoc (take count bytes) (v ∷ []) (field_bytes left (drop (from + 2) text))
            ∙ ap (λ (l : List ℕ). take count bytes ++ l)
            (ap (λ (b : ℕ). b ∷ field_bytes left (drop (from + 2) text)) w
            ∙ sym (written_pair text from left e)
            ∙ ap (λ (k : ℕ). field_bytes k (drop from text)) (sym room))
            ∙ r.rest;
      }

  -- no pair more
  module _ (e : field_bytes (n - count) (drop from text) ≡ []) where
    front : take count bytes ≡ field_bytes n (drop at text)
    front = sym (append-nil (take count bytes)) ∙ ap (λ (l : List ℕ). take count bytes ++ l) (sym e) ∙ r.rest

    pub read_count : count ≡ length (field_bytes n (drop at text))
    read_count = sym (length-take-le count bytes (omega (arith, r.long, r.within))) ∙ ap length front

    pub read_bytes : bytes ≡ zero_padded n (field_bytes n (drop at text))
    read_bytes =
        sym (take-append-drop count bytes)
        ∙ ap₂ (λ (x y : List ℕ). x ++ y) front (r.zeros ∙ ap (λ (k : ℕ). replicate (n - k) 0) read_count)

-- nothing is left where all places are filled, and where no pair follows
pub none_left : (n : ℕ) (text : List ℕ) (from : ℕ) → (n ≡ 0) ⊎ (is_pair text from ≡ false) → field_bytes n (drop from text) ≡ []
unfolding field_bytes
none_left n text from = ⊎_elim (λ e. ap (λ (k : ℕ). field_bytes k (drop from text)) e) (written_none text from n)

-- the field that is read in the end
pub field_read : {text : List ℕ} {at : ℕ} {bytes : List ℕ} {count from next : ℕ}
    → Read max_bytes text at bytes count from
    → field_bytes (max_bytes - count) (drop from text) ≡ []
    → next ≡ place_behind text from
    → ◌≡◌ {A = Field} record { bytes = bytes; count = count; next = next } (field_at text at)
unfolding field_at field_of
field_read {text} {at} r e b =
    let place = r.place ∙ ap (λ (k : ℕ). at + 2 * k) (read_count r e) in
    let ends = b ∙ ap (place_behind text) place in
    rw (ends, read_bytes r e) (rw (read_count r e) refl)
