-- However an input is cut into pieces, the output is that of the whole.
-- Assumes nothing.
use mathlib.Core.Path.{◌≡◌, refl, sym, ap, subst, ◌∙◌}
use mathlib.Core.Bool.{true, false}
use mathlib.Core.List.{List, [], ◌∷◌, ◌++◌, append_assoc, append-nil}
use Prim.Native.Nat.{ℕ, ◌+◌, ◌-◌, min}
use native.Mathlib.Omega.{arith}
use borrow.Author.Tests.{leb-true, leb-false, eq-eqb, ne_eqb}
use lib.Dec.{leb}
use lib.ListN.{length, take, length-append, length-take}
use lib.Seq.{take_all, take_at, take-append-le, take-append-add, length-take-le}
use Rattle.basics.specs.Lists.{placed}
use Rattle.basics.proofs.Cases.{cases, if_true, if_false}
use Rattle.basics.proofs.Placed.{placed_length}
use Rattle.card.specs.Answer.{answer, with_newline}
use Rattle.card.proofs.Laws.{answer_long}
use Rattle.card_lines.specs.Lines.{output}
use Rattle.card_lines.specs.Stream.{first_line, ends_line, extended_length, extended, held_answer, writes, takes, line_after, last_answer, fed}
use Rattle.card_lines.specs.Calls.{Held, leaves, writes_all, takes_all, leaves_all}
use Rattle.card_lines.proofs.OutputLines.{NoNewline, join_no_newline, output_newline, output_none, output_last}
use Rattle.card_lines.proofs.Pieces.{first_no_newline, all_first}
use Rattle.card_lines.proofs.FeedCases.{open_held, open_writes, open_takes, newline_held, newline_writes, newline_takes}

take_append : (n : ℕ) (a b : List ℕ) → take n (a ++ b) ≡ take n a ++ take (n - length a) b
take_append n a b =
    cases (leb n (length a))
    (λ e. let none : n - length a ≡ 0 = omega (arith, leb-true n (length a) e) in
    take-append-le n a b (leb-true _ _ e) ∙ sym (append-nil (take n a)) ∙ ap (λ (k : ℕ). take n a ++ take k b) (sym none))
    λ e. let more : length a + (n - length a) ≡ n = omega (arith, leb-false n (length a) e) in
    ap (λ (k : ℕ). take k (a ++ b)) (sym more)
    ∙ take-append-add a b (n - length a)
    ∙ ap (λ (l : List ℕ). l ++ take (n - length a) b) (sym (take_all n a (omega (arith, leb-false n (length a) e))))

-- the line in progress q: its first 2,049 bytes are held
pub record Holds (h : Held) (q : List ℕ) : Type 0 where
  pub long : length h.line ≡ 2049
  pub count : h.held ≡ min (length q) 2049
  pub bytes : take h.held h.line ≡ take 2049 q
  pub no_newline : NoNewline q

module _ (h : Held) (q : List ℕ) (holds : Holds h q) (bytes : List ℕ) where
  longer : length (placed h.line h.held (take (2049 - h.held) bytes)) ≡ 2049
  longer = let short = length-take (2049 - h.held) bytes in placed_length h.line h.held _ (omega (arith, holds.long)) ∙ holds.long

  more_count : extended_length h.held bytes ≡ min (length (q ++ bytes)) 2049
  unfolding extended_length
  more_count = let long = length-append q bytes in omega (arith, holds.count)

  more_bytes : take (extended_length h.held bytes) (extended h.line h.held bytes) ≡ take 2049 (q ++ bytes)
  unfolding extended_length extended placed
  more_bytes =
      let n = h.held in
      let room = 2049 - n in
      let short = length-take room bytes in
      let count = holds.count in
      let same : 2049 - length q ≡ room = omega arith in
      let head : length (take n h.line ++ take room bytes) ≡ min (n + length bytes) 2049 =
      length-append (take n h.line) (take room bytes)
      ∙ ap (λ (k : ℕ). k + length (take room bytes)) (length-take-le n h.line (omega (arith, holds.long)))
      ∙ omega arith in
      take_at (take n h.line ++ take room bytes) _ _ head
      ∙ ap (λ (l : List ℕ). l ++ take room bytes) holds.bytes
      ∙ ap (λ (k : ℕ). take 2049 q ++ take k bytes) (sym same)
      ∙ sym (take_append 2049 q bytes)

-- a line of more than 2,048 bytes gets the answer of its first 2,049
answer_held : (q : List ℕ) → answer (take 2049 q) ≡ answer q
answer_held q =
    cases (leb (length q) 2048)
    (λ e. ap answer (take_all 2049 q (omega (arith, leb-true (length q) 2048 e))))
    λ e. let long = leb-false (length q) 2048 e in
    answer_long (take 2049 q) (omega (arith, length-take-le 2049 q (omega arith))) ∙ sym (answer_long q long)

-- Calls that take and write so much, from the line in progress q on: what they leave holds the line in progress then, and the output of what
-- they take and what follows is what they write, and then that of the line in progress and what follows.
pub record Continues (q text taken : List ℕ) (h : Held) : Type 0 where
  pub line : List ℕ
  pub holds : Holds h line
  pub prints : (rest : List ℕ) → output (q ++ (taken ++ rest)) ≡ text ++ output (line ++ rest)

-- no call
pub stays : (h : Held) (q : List ℕ) → Holds h q → Continues q [] [] h
stays h q holds = record { line = q; holds = holds; prints = λ rest. refl }

-- calls, and calls behind them
pub goes_on : (q text taken text' taken' : List ℕ) (h h' : Held) → Continues q text taken h
    → ((line : List ℕ) → Holds h line → Continues line text' taken' h')
    → Continues q (text ++ text') (taken ++ taken') h'
goes_on q text taken text' taken' h h' first later =
    let second = later first.line first.holds in
    record {
      line = second.line;
      holds = second.holds;
      prints =
          λ rest. ap (λ (l : List ℕ). output (q ++ l)) (append_assoc taken taken' rest)
          ∙ first.prints (taken' ++ rest)
          ∙ ap (λ (l : List ℕ). text ++ l) (second.prints rest)
          ∙ sym (append_assoc text text' (output (second.line ++ rest)));
    }

-- one call, by its kind
module _ (h : Held) (piece q : List ℕ) (holds : Holds h q) where
  abbrev first : List ℕ
  first = first_line piece

  after_long : length (leaves h piece).line ≡ 2049
  unfolding leaves line_after extended
  after_long = longer h q holds first

  open_holds : ends_line piece ≡ false → Holds (leaves h piece) (q ++ piece)
  unfolding leaves line_after fed
  open_holds e =
      let all = all_first piece e in
      let count = open_held h.line h.held piece e in
      record {
        long = after_long;
        count = count ∙ more_count h q holds first ∙ ap (λ (l : List ℕ). min (length (q ++ l)) 2049) all;
        bytes =
            ap (λ (n : ℕ). take n (extended h.line h.held first)) count
            ∙ more_bytes h q holds first
            ∙ ap (λ (l : List ℕ). take 2049 (q ++ l)) all;
        no_newline = join_no_newline q piece holds.no_newline (subst NoNewline all (first_no_newline piece));
      }

  with_no_newline : ends_line piece ≡ false → Continues q (writes h.line h.held piece) (takes piece) (leaves h piece)
  with_no_newline e =
      rw (open_writes h.line h.held piece e, open_takes h.line h.held piece e)
      record { line = q ++ piece; holds = open_holds e; prints = λ rest. ap output (sym (append_assoc q piece rest)) }

  newline_holds : ends_line piece ≡ true → Holds (leaves h piece) []
  unfolding leaves fed NoNewline
  newline_holds e =
      let none = newline_held h.line h.held piece e in
      record { long = after_long; count = none; bytes = ap (λ (n : ℕ). take n (leaves h piece).line) none; no_newline = tt }

  newline_answer : ends_line piece ≡ true → writes h.line h.held piece ≡ with_newline (answer (q ++ first))
  unfolding held_answer
  newline_answer e =
      newline_writes h.line h.held piece e
      ∙ ap (λ (l : List ℕ). with_newline (answer l)) (more_bytes h q holds first)
      ∙ ap with_newline (answer_held (q ++ first))

  with_newline_law : ends_line piece ≡ true → Continues q (writes h.line h.held piece) (takes piece) (leaves h piece)
  with_newline_law e =
      rw (newline_answer e, newline_takes h.line h.held piece e)
      record {
        line = [];
        holds = newline_holds e;
        prints =
            λ rest. ap (λ (l : List ℕ). output (q ++ l)) (append_assoc first (10 ∷ []) rest)
            ∙ ap output (sym (append_assoc q first (10 ∷ rest)))
            ∙ output_newline (q ++ first) rest (join_no_newline q first holds.no_newline (first_no_newline piece));
      }

  one_continues : Continues q (writes h.line h.held piece) (takes piece) (leaves h piece)
  one_continues = cases (ends_line piece) with_newline_law with_no_newline

-- calls in turn
pub all_continue : (pieces : List (List ℕ)) (h : Held) (q : List ℕ) → Holds h q
    → Continues q (writes_all h pieces) (takes_all pieces) (leaves_all h pieces)
unfolding writes_all takes_all leaves_all
all_continue [] h q holds = stays h q holds
all_continue (piece ∷ pieces) h q holds =
    goes_on q _ _ _ _ (leaves h piece) _ (one_continues h piece q holds) (all_continue pieces (leaves h piece))

-- at the end of the input
pub last_line : (h : Held) (q : List ℕ) → Holds h q → last_answer h.line h.held ≡ output q
unfolding last_answer held_answer
last_line h [] holds = if_true _ _ _ (eq-eqb _ _ holds.count) ∙ sym output_none
last_line h (b ∷ q) holds =
    if_false _ _ _ (ne_eqb h.held 0 (omega (arith, holds.count)))
    ∙ ap (λ (l : List ℕ). with_newline (answer l)) holds.bytes
    ∙ ap with_newline (answer_held (b ∷ q))
    ∙ sym (output_last b q holds.no_newline)

-- calls in turn, and then the end
pub written_output : (pieces : List (List ℕ)) (h : Held) (q : List ℕ) → Holds h q
    → writes_all h pieces ++ last_answer (leaves_all h pieces).line (leaves_all h pieces).held ≡ output (q ++ takes_all pieces)
written_output pieces h q holds =
    let calls = all_continue pieces h q holds in
    ap (λ (l : List ℕ). writes_all h pieces ++ l) (last_line (leaves_all h pieces) calls.line calls.holds ∙ ap output (sym (append-nil calls.line)))
    ∙ sym (calls.prints [])
    ∙ ap (λ (l : List ℕ). output (q ++ l)) (append-nil (takes_all pieces))

-- at the start, when nothing is held
pub start_holds : (line : List ℕ) → length line ≡ 2049 → Holds (record { line = line; held = 0 }) []
unfolding NoNewline
start_holds line e = record { long = e; count = refl; bytes = refl; no_newline = tt }
