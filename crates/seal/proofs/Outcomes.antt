-- What sealing and opening leave, by their numbers.
-- Assumes nothing.
use mathlib.Core.Path.{◌≡◌, refl, sym, ap, ap₂, ◌∙◌}
use mathlib.Core.Bool.{Bool, true, false, not}
use mathlib.Core.List.{List, []}
use mathlib.Core.Logic.{◌≢◌}
use Prim.Native.Nat.{ℕ}
use native.Mathlib.Omega.{arith}
use borrow.Author.Tests.{eqb-true, eqb-false, eq-eqb, ne_eqb}
use lib.Dec.{eqb}
use lib.ListN.{length, replicate}
use Rattle.basics.specs.Logic.{when◌then◌else◌, ◌and◌, all}
use Rattle.basics.specs.Lists.{joined, total}
use Rattle.basics.specs.Numbers.{accepted, mark_differs}
use Rattle.basics.specs.Refusals.{◌gets◌⨾◌, first_number}
use Rattle.basics.proofs.Cases.{cases, if_true, if_false}
use Rattle.basics.proofs.FirstRow.{refusing, behind, accepted_none, refused_before, never_given}
use Rattle.seal.specs.Seal.{Context, Outcome, leaving, sealed, unsealed, has_mark, note_rows, seal_rows, open_rows, seal_note, open_note}

module _ (c : Context) (plain buffer : List ℕ) where
  pub seal_number : (seal_note c plain buffer).number ≡ first_number (seal_rows c plain buffer)
  unfolding seal_note
  seal_number = refl

  pub seal_accepted : first_number (seal_rows c plain buffer) ≡ accepted → seal_note c plain buffer ≡ leaving accepted (sealed c plain)
  unfolding seal_note
  seal_accepted e = ap₂ leaving e (if_true _ _ _ (eq-eqb _ _ e))

  pub seal_refused : first_number (seal_rows c plain buffer) ≢ accepted → seal_note c plain buffer ≡ leaving (first_number (seal_rows c plain buffer)) buffer
  unfolding seal_note
  seal_refused z = ap (leaving _) (if_false _ _ _ (ne_eqb _ _ z))

last_row : (b : Bool) → first_number (not b gets mark_differs ⨾ []) ≡ (when not b then mark_differs else accepted)
unfolding first_number
last_row b = refl

module _ (c : Context) (text buffer : List ℕ) where
  -- the rows before the one about the mark
  abbrev pub first : ℕ
  first = first_number (note_rows c text 8 (length buffer) 0)

  refusing_rows : all refusing (note_rows c text 8 (length buffer) 0) ≡ true
  unfolding note_rows all ◌and◌
  refusing_rows = refl

  -- behind them that one counts
  mark_row : first ≡ accepted → first_number (open_rows c text buffer) ≡ (when not (has_mark c text) then mark_differs else accepted)
  unfolding open_rows
  mark_row e = behind (note_rows c text 8 (length buffer) 0) _ (accepted_none _ refusing_rows e) ∙ last_row (has_mark c text)

  pub open_accepted : first ≡ accepted → has_mark c text ≡ true → open_note c text buffer ≡ leaving accepted (joined (unsealed c text))
  unfolding open_note
  open_accepted e m =
      let number = mark_row e ∙ if_false _ _ _ (ap not m) in
      ap₂ leaving number (if_true _ _ _ (eq-eqb _ _ number))

  pub open_differs : first ≡ accepted → has_mark c text ≡ false → open_note c text buffer ≡ leaving mark_differs (replicate (total c.lengths) 0)
  unfolding open_note
  open_differs e m =
      let number = mark_row e ∙ if_true _ _ _ (ap not m) in
      ap₂ leaving number (if_false _ _ _ (ap (λ (n : ℕ). eqb n accepted) number) ∙ if_true _ _ _ (eq-eqb _ _ number))

  no_mark_rows : all (λ row. not (eqb row.number mark_differs)) (note_rows c text 8 (length buffer) 0) ≡ true
  unfolding note_rows all ◌and◌
  no_mark_rows = refl

  pub never_21 : first ≢ mark_differs
  never_21 = never_given mark_differs _ no_mark_rows (λ e. omega arith)

  pub open_refused : first ≢ accepted → open_note c text buffer ≡ leaving first buffer
  unfolding open_note open_rows
  open_refused z =
      let number = refused_before (note_rows c text 8 (length buffer) 0) _ z in
      ap₂ leaving number (if_false _ _ _ (ne_eqb _ 0 (λ e. z (sym number ∙ e))) ∙ if_false _ _ _ (ne_eqb _ _ (λ e. never_21 (sym number ∙ e))))

  -- opening is accepted where none of these rows applies, and the mark is right
  pub opened_for : (open_note c text buffer).number ≡ accepted → (first ≡ accepted) × (has_mark c text ≡ true)
  opened_for e =
      cases (eqb first accepted)
      (λ t.
      let passes = eqb-true first accepted t in
      cases (has_mark c text)
      (λ m. (passes, m))
      λ m. absurd (omega (arith, ap (λ (o : Outcome). o.number) (open_differs passes m), e)))
      λ z.
      let refused = eqb-false first accepted z in
      absurd (refused (sym (ap (λ (o : Outcome). o.number) (open_refused refused)) ∙ e))
