-- A caller of `answer_lines`: each call takes something, and all calls together print the output of the whole input.
-- Assumes nothing.
use mathlib.Core.Path.{◌≡◌, refl, sym, ap, subst, ◌∙◌}
use mathlib.Core.Bool.{true, false}
use mathlib.Core.List.{List, [], ◌∷◌, ◌++◌, append-nil}
use Prim.Native.Nat.{ℕ, zero, suc, ◌+◌, ◌≤◌, ◌<◌}
use native.Mathlib.Omega.{arith}
use borrow.Author.Tests.{ltb-true, ltb-false, lt-ltb, le-ltb}
use lib.Dec.{ltb}
use lib.ListN.{length, drop, length-append, length-drop, drop_of_length-le}
use lib.Seq.{drop-drop}
use Rattle.basics.specs.Lists.{joined}
use Rattle.basics.proofs.Cases.{cases, if_true, if_false}
use Rattle.card_lines.specs.Lines.{output}
use Rattle.card_lines.specs.Stream.{takes}
use Rattle.card_lines.specs.Calls.{leaves, takes_all, output_places, feedings, held_of, feedings_of, answered_text, answered_line, answered_fed}
use Rattle.card_lines.specs.Calls.{Kept, kept_of, next_kept, kept_after, piece_text, piece_kept, text_of_pieces}
use Rattle.card_lines.specs.declared.Fed.{Fed}
use Rattle.card_lines.proofs.Progress.{takes_some}
use Rattle.card_lines.proofs.Cutting.{Holds, Continues, stays, goes_on, all_continue, last_line}
use Rattle.card_lines.proofs.Feedings.{feedings_step, feedings_front, feedings_fit, rest_after, room_after}

-- ---- one call

module _ (line : List ℕ) (last : Fed) (piece : List ℕ) where
  abbrev taken : List ℕ
  taken = takes_all (feedings_of line last piece)

  -- its front, and what is left
  taken_front : taken ++ drop (length taken) (drop last.used piece) ≡ drop last.used piece
  unfolding feedings_of
  taken_front = let rest = drop last.used piece in feedings_front (length rest) output_places (held_of line last) rest

  taken_some : last.used < length piece → 0 < length taken
  unfolding feedings_of takes_all
  taken_some h =
      let rest = drop last.used piece in
      let some : 0 < length rest = omega (arith, length-drop last.used piece) in
      let later = takes_all (feedings (length (rest_after rest)) (room_after output_places (held_of line last) rest) (leaves (held_of line last) rest) (rest_after rest)) in
      rw (feedings_step output_places (held_of line last) rest some (omega arith)) (omega (arith, length-append (takes rest) later, takes_some rest some))

  pub answered_some : last.used < length piece → last.used < (answered_fed line last piece).used
  unfolding answered_fed
  answered_some h = omega (arith, taken_some h)

  pub answered_fits : (answered_fed line last piece).written ≤ output_places
  unfolding answered_fed answered_text feedings_of
  answered_fits = let rest = drop last.used piece in feedings_fit (length rest) output_places (held_of line last) rest

-- the calls of `feed` behind it, as one step
answered_continues : (s : Kept) (piece q : List ℕ) → Holds (held_of s.line s.last) q
    → Continues q (answered_text s.line s.last piece) (taken s.line s.last piece) (held_of (kept_after s piece).line (kept_after s piece).last)
unfolding answered_text kept_after answered_line answered_fed
answered_continues s piece q holds = all_continue (feedings_of s.line s.last piece) (held_of s.line s.last) q holds

-- ---- a piece

module _ (k : ℕ) (s : Kept) (piece : List ℕ) where
  module _ (e : ltb s.last.used (length piece) ≡ true) where
    text_more : piece_text (suc k) s piece ≡ answered_text s.line s.last piece ++ piece_text k (kept_after s piece) piece
    unfolding piece_text
    text_more = if_true _ _ _ e

    kept_more : piece_kept (suc k) s piece ≡ piece_kept k (kept_after s piece) piece
    unfolding piece_kept
    kept_more = if_true _ _ _ e

    -- what the calls behind the first one have left to take
    left_more : taken s.line s.last piece ++ drop (kept_after s piece).last.used piece ≡ drop s.last.used piece
    unfolding kept_after answered_fed
    left_more =
        let front = taken s.line s.last piece in
        ap (λ (l : List ℕ). front ++ l) (sym (drop-drop (length front) s.last.used piece)) ∙ taken_front s.line s.last piece

    fewer : length piece ≤ suc k + s.last.used → length piece ≤ k + (kept_after s piece).last.used
    unfolding kept_after
    fewer h = omega (arith, answered_some s.line s.last piece (ltb-true _ _ e))

  module _ (e : ltb s.last.used (length piece) ≡ false) where
    text_done : piece_text (suc k) s piece ≡ []
    unfolding piece_text
    text_done = if_false _ _ _ e

    kept_done : piece_kept (suc k) s piece ≡ s
    unfolding piece_kept
    kept_done = if_false _ _ _ e

-- what is left of the calls on a piece leads to the same as all of them
pub record Reaches (whole s : Kept) (piece : List ℕ) : Type 0 where
  calls : ℕ
  enough : length piece ≤ calls + s.last.used
  pub same : whole ≡ piece_kept calls s piece

pub reaches_start : (s : Kept) (piece : List ℕ) → Reaches (piece_kept (length piece) s piece) s piece
reaches_start s piece = record { calls = length piece; enough = omega arith; same = refl }

reaches_next : {whole : Kept} (s : Kept) (piece : List ℕ) → Reaches whole s piece → s.last.used < length piece → Reaches whole (kept_after s piece) piece
reaches_next {whole} s piece r h = one_fewer r.calls r.enough r.same
  where
    one_fewer : (k : ℕ) → length piece ≤ k + s.last.used → whole ≡ piece_kept k s piece → Reaches whole (kept_after s piece) piece
    one_fewer zero l e = absurd (omega arith)
    one_fewer (suc k) l e =
        let more = lt-ltb s.last.used (length piece) h in
        record { calls = k; enough = fewer k s piece more l; same = e ∙ kept_more k s piece more }

-- the same from what a call gives and leaves
pub reaches_answered : {whole : Kept} (line : List ℕ) (last : Fed) (piece line' : List ℕ) (next : Fed) → Reaches whole (kept_of line last) piece
    → last.used < length piece → next ≡ answered_fed line last piece → line' ≡ answered_line line last piece → Reaches whole (kept_of line' next) piece
unfolding kept_after
reaches_answered {whole} line last piece line' next r h e f =
    subst (λ (s : Kept). Reaches whole s piece) (λ i. kept_of (sym f i) (sym e i)) (reaches_next (kept_of line last) piece r h)

pub reaches_end : {whole : Kept} (s : Kept) (piece : List ℕ) → Reaches whole s piece → length piece ≤ s.last.used → s ≡ whole
unfolding piece_kept
reaches_end {whole} s piece r h = sym (ended r.calls r.same)
  where
    ended : (k : ℕ) → whole ≡ piece_kept k s piece → whole ≡ s
    ended zero e = e
    ended (suc k) e = e ∙ kept_done k s piece (le-ltb s.last.used (length piece) h)

piece_continues : (k : ℕ) (s : Kept) (piece q : List ℕ) → Holds (held_of s.line s.last) q → length piece ≤ k + s.last.used
    → Continues q (piece_text k s piece) (drop s.last.used piece) (held_of (piece_kept k s piece).line (piece_kept k s piece).last)
unfolding piece_text piece_kept
piece_continues zero s piece q holds h = rw (drop_of_length-le piece {i = s.last.used} (omega arith)) (stays _ q holds)
piece_continues (suc k) s piece q holds h =
    cases (ltb s.last.used (length piece))
    (λ e.
    let next = kept_after s piece in
    rw (text_more k s piece e, kept_more k s piece e, sym (left_more k s piece e))
    (goes_on q _ _ _ _ _ _ (answered_continues s piece q holds)
    λ line held. piece_continues k next piece line held (fewer k s piece e h)))
    λ e. let all = ltb-false _ _ e in
    rw (text_done k s piece e, kept_done k s piece e, drop_of_length-le piece {i = s.last.used} all) (stays _ q holds)

-- ---- piece after piece

next_holds : (s : Kept) (q : List ℕ) → Holds (held_of s.line s.last) q → Holds (held_of (next_kept s).line (next_kept s).last) q
unfolding next_kept
next_holds s q holds = holds

pub pieces_output : (pieces : List (List ℕ)) (s : Kept) (q : List ℕ) → Holds (held_of s.line s.last) q
    → text_of_pieces s pieces ≡ output (q ++ joined pieces)
unfolding text_of_pieces joined next_kept
pieces_output [] s q holds = last_line (held_of s.line s.last) q holds ∙ ap output (sym (append-nil q))
pieces_output (piece ∷ pieces) s q holds =
    let one = piece_continues (length piece) (next_kept s) piece q (next_holds s q holds) (omega arith) in
    let kept = piece_kept (length piece) (next_kept s) piece in
    ap (λ (l : List ℕ). piece_text (length piece) (next_kept s) piece ++ l) (pieces_output pieces kept one.line one.holds)
    ∙ sym (one.prints (joined pieces))
