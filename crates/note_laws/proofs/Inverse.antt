-- What was sealed opens to the same blocks, and what opens was sealed.
-- Assumes nothing.
use mathlib.Core.Path.{◌≡◌, refl, sym, ap, ap₂, ◌∙◌}
use mathlib.Core.Bool.{true}
use mathlib.Core.List.{List, [], ◌++◌, append-nil}
use mathlib.Core.Logic.{◌≢◌}
use Prim.Native.Nat.{ℕ, ◌+◌}
use native.Mathlib.Omega.{arith}
use lib.ListN.{length, replicate, take, drop, length-append, take-append-drop}
use lib.Seq.{take_all, take_at, drop_at}
use Rattle.basics.specs.Logic.{all}
use Rattle.basics.specs.Lists.{joined, total}
use Rattle.basics.specs.Numbers.{accepted, mark_differs}
use Rattle.basics.proofs.Cases.{cases, all_both}
use Rattle.field.specs.Field.{field_of, is_element}
use Rattle.field.specs.declared.Field.{Field}
use Rattle.session.specs.declared.Session.{Session}
use Rattle.seal.specs.Seal.{Context, Outcome, leaving, keyed, after_blocks, cipher_blocks, plain_blocks, mark_of, blocks_of, sealed, unsealed, is_mark, has_mark, seal_rows, seal_note, open_note}
use Rattle.seal.proofs.Calls.{squeezed_length, squeezed_elements_law}
use Rattle.seal.proofs.Marks.{is_mark_same, same_is_mark}
use Rattle.seal.proofs.Rows.{Passed, passed, passes}
use Rattle.seal.proofs.Accepted.{Fit, Ready, text_fits, fit_long, plain_fits, blocks_accepted, mark_accepted, keyed_ready}
use Rattle.note_laws.proofs.RoundTrip.{opens_sealed, seals_opened, cipher_fits, blocks_again, fit_elements, joined_again}
use Rattle.seal.proofs.Outcomes.{seal_number, seal_accepted, open_accepted, open_differs, opened_for}

module _ (c : Context) where
  abbrev f : Field
  f = field_of c.field

  abbrev ns : List ℕ
  ns = c.lengths

  -- the session after key and nonce
  abbrev r : Session
  r = keyed c

  -- a mark: eight elements
  module _ (blocks : List (List ℕ)) (ready : Ready f [] (after_blocks r blocks)) where
    mark_long : length (mark_of r blocks) ≡ 8
    unfolding mark_of
    mark_long = squeezed_length 8 (after_blocks r blocks)

    mark_elements : all (is_element f) (mark_of r blocks) ≡ true
    unfolding mark_of
    mark_elements = rw ready.field at (squeezed_elements_law (after_blocks r blocks) 8 (mark_accepted f (after_blocks r blocks) ready).0)

  -- ---- sealed, then opened

  module _ (plain : List ℕ) {size : ℕ} (p : Passed c plain 0 size 8) where
    abbrev blocks : List (List ℕ)
    blocks = blocks_of ns plain

    plain_fit : Fit f ns blocks
    plain_fit = text_fits f ns plain (omega (arith, p.text_long)) p.elements

    cipher_fit : Fit f ns (cipher_blocks r blocks)
    cipher_fit = cipher_fits f ns p.lengths.each r (keyed_ready c p) plain_fit

    end_ready : Ready f [] (after_blocks r blocks)
    end_ready = (blocks_accepted f ns p.lengths.each r (keyed_ready c p) plain_fit).1

    abbrev cipher : List ℕ
    cipher = joined (cipher_blocks r blocks)

    abbrev mark : List ℕ
    mark = mark_of r blocks

    whole : sealed c plain ≡ cipher ++ mark
    unfolding sealed
    whole = refl

    sealed_passes : (room : ℕ) → room ≡ total ns → Passed c (sealed c plain) 8 room 0
    sealed_passes room e =
        record {
          known = p.known;
          short = p.short;
          sound = p.sound;
          lengths = p.lengths;
          key_long = p.key_long;
          nonce_long = p.nonce_long;
          text_long = ap length whole ∙ omega (arith, length-append cipher mark, fit_long f cipher_fit, mark_long blocks end_ready);
          buffer_long = omega (arith, e);
          key = p.key;
          nonce = p.nonce;
          elements = ap (all (is_element f)) whole ∙ all_both (is_element f) cipher mark (fit_elements f cipher_fit) (mark_elements blocks end_ready);
        }

    opens_to_blocks : unsealed c (sealed c plain) ≡ blocks
    unfolding unsealed
    opens_to_blocks =
        ap (λ (l : List ℕ). plain_blocks r (blocks_of ns l)) whole
        ∙ ap (plain_blocks r) (blocks_again f cipher_fit mark)
        ∙ opens_sealed f ns p.lengths.each r (keyed_ready c p) plain_fit

    has_its_mark : has_mark c (sealed c plain) ≡ true
    unfolding has_mark
    has_its_mark =
        rw (opens_to_blocks, ap (drop (total ns)) whole ∙ drop_at cipher mark (total ns) (fit_long f cipher_fit)) (same_is_mark mark)

    opens_again : (buffer : List ℕ) → length buffer ≡ total ns → open_note c (sealed c plain) buffer ≡ leaving accepted plain
    opens_again buffer e =
        open_accepted c (sealed c plain) buffer (passes c (sealed c plain) 8 (length buffer) 0 (sealed_passes (length buffer) e)) has_its_mark
        ∙ ap (leaving accepted)
        (ap joined opens_to_blocks ∙ joined_again ns plain ∙ take_all (total ns) plain (omega (arith, p.text_long)))

    -- ---- another mark behind the same cipher elements

    opens_whatever_mark : (other : List ℕ) → unsealed c (cipher ++ other) ≡ blocks
    unfolding unsealed
    opens_whatever_mark other =
        ap (plain_blocks r) (blocks_again f cipher_fit other) ∙ opens_sealed f ns p.lengths.each r (keyed_ready c p) plain_fit

    compares_mark : (other : List ℕ) → has_mark c (cipher ++ other) ≡ is_mark mark other
    unfolding has_mark
    compares_mark other =
        ap₂ is_mark (ap (mark_of r) (opens_whatever_mark other)) (drop_at cipher other (total ns) (fit_long f cipher_fit))

    other_passes : (other : List ℕ) → length other ≡ 8 → all (is_element f) other ≡ true → (room : ℕ) → room ≡ total ns → Passed c (cipher ++ other) 8 room 0
    other_passes other long elements room e =
        record {
          known = p.known;
          short = p.short;
          sound = p.sound;
          lengths = p.lengths;
          key_long = p.key_long;
          nonce_long = p.nonce_long;
          text_long = omega (arith, length-append cipher other, fit_long f cipher_fit, long);
          buffer_long = omega (arith, e);
          key = p.key;
          nonce = p.nonce;
          elements = all_both (is_element f) cipher other (fit_elements f cipher_fit) elements;
        }

    other_differs : (other buffer : List ℕ) → length buffer ≡ total ns → length other ≡ 8 → all (is_element f) other ≡ true → other ≢ mark
        → open_note c (cipher ++ other) buffer ≡ leaving mark_differs (replicate (total ns) 0)
    other_differs other buffer room long elements ne =
        open_differs c (cipher ++ other) buffer
        (passes c (cipher ++ other) 8 (length buffer) 0 (other_passes other long elements (length buffer) room))
        (compares_mark other ∙ cases (is_mark mark other) (λ e. absurd (ne (sym (is_mark_same mark other e)))) (λ e. e))

    cipher_of_sealed : take (total ns) (sealed c plain) ≡ cipher
    cipher_of_sealed = ap (take (total ns)) whole ∙ take_at cipher mark (total ns) (fit_long f cipher_fit)

    mark_of_sealed : drop (total ns) (sealed c plain) ≡ mark
    mark_of_sealed = ap (drop (total ns)) whole ∙ drop_at cipher mark (total ns) (fit_long f cipher_fit)

  pub another_mark : (plain out buffer other : List ℕ) → (seal_note c plain out).number ≡ accepted → length buffer ≡ total c.lengths
      → length other ≡ 8 → all (is_element (field_of c.field)) other ≡ true → other ≢ drop (total c.lengths) (seal_note c plain out).buffer
      → open_note c (take (total c.lengths) (seal_note c plain out).buffer ++ other) buffer ≡ leaving mark_differs (replicate (total c.lengths) 0)
  unfolding seal_rows
  another_mark plain out buffer other e room long elements ne =
      let number = sym (seal_number c plain out) ∙ e in
      let p = passed c plain 0 (length out) 8 number in
      let left = ap (λ (o : Outcome). o.buffer) (seal_accepted c plain out number) in
      ap (λ (l : List ℕ). open_note c (l ++ other) buffer) (ap (take (total ns)) left ∙ cipher_of_sealed plain p)
      ∙ other_differs plain p other buffer room long elements (λ same. ne (same ∙ sym (ap (drop (total ns)) left ∙ mark_of_sealed plain p)))

  pub sealed_opens : (plain out buffer : List ℕ) → (seal_note c plain out).number ≡ accepted → length buffer ≡ total c.lengths
      → open_note c (seal_note c plain out).buffer buffer ≡ leaving accepted plain
  unfolding seal_rows
  sealed_opens plain out buffer e long =
      let number = sym (seal_number c plain out) ∙ e in
      ap (λ (o : Outcome). open_note c o.buffer buffer) (seal_accepted c plain out number) ∙ opens_again plain (passed c plain 0 (length out) 8 number) buffer long

  -- ---- opened, then sealed

  module _ (text : List ℕ) {size : ℕ} (p : Passed c text 8 size 0) (marked : has_mark c text ≡ true) where
    abbrev text_blocks : List (List ℕ)
    text_blocks = blocks_of ns text

    text_fit : Fit f ns text_blocks
    text_fit = text_fits f ns text (omega (arith, p.text_long)) p.elements

    opened_fit : Fit f ns (unsealed c text)
    unfolding unsealed
    opened_fit = plain_fits f ns p.lengths.each r (keyed_ready c p) text_fit

    opened_passes : (room : ℕ) → room ≡ total ns + 8 → Passed c (joined (unsealed c text)) 0 room 8
    opened_passes room e =
        record {
          known = p.known;
          short = p.short;
          sound = p.sound;
          lengths = p.lengths;
          key_long = p.key_long;
          nonce_long = p.nonce_long;
          text_long = omega (arith, fit_long f opened_fit);
          buffer_long = e;
          key = p.key;
          nonce = p.nonce;
          elements = fit_elements f opened_fit;
        }

    blocks_of_opened : blocks_of ns (joined (unsealed c text)) ≡ unsealed c text
    blocks_of_opened = ap (blocks_of ns) (sym (append-nil (joined (unsealed c text)))) ∙ blocks_again f opened_fit []

    cipher_again : cipher_blocks r (unsealed c text) ≡ text_blocks
    unfolding unsealed
    cipher_again = seals_opened f ns p.lengths.each r (keyed_ready c p) text_fit

    mark_again : mark_of r (unsealed c text) ≡ drop (total ns) text
    unfolding has_mark
    mark_again = is_mark_same _ _ marked

    seals_to_text : sealed c (joined (unsealed c text)) ≡ text
    unfolding sealed
    seals_to_text =
        ap (λ (bs : List (List ℕ)). joined (cipher_blocks r bs) ++ mark_of r bs) blocks_of_opened
        ∙ ap₂ (λ (a b : List ℕ). a ++ b) (ap joined cipher_again ∙ joined_again ns text) mark_again
        ∙ take-append-drop (total ns) text

  pub opened_seals : (text out buffer : List ℕ) → (open_note c text out).number ≡ accepted → length buffer ≡ total c.lengths + 8
      → seal_note c (open_note c text out).buffer buffer ≡ leaving accepted text
  unfolding seal_rows
  opened_seals text out buffer e long =
      let (number, marked) = opened_for c text out e in
      let p = passed c text 8 (length out) 0 number in
      let plain = joined (unsealed c text) in
      ap (λ (o : Outcome). seal_note c o.buffer buffer) (open_accepted c text out number marked)
      ∙ seal_accepted c plain buffer (passes c plain 0 (length buffer) 8 (opened_passes text p marked (length buffer) long))
      ∙ ap (leaving accepted) (seals_to_text text p marked)
