-- The machine takes a card's text to its end, with its separator and words.
-- Assumes nothing.
use mathlib.Core.Path.{◌≡◌, refl, ap, ◌∙◌}
use mathlib.Core.List.{List, [], ◌∷◌, ◌++◌, append_assoc, append-nil}
use Prim.Native.Nat.{ℕ, zero, suc, ◌+◌, ◌*◌, ◌/◌, ◌%◌, ◌<◌, ◌≤◌}
use native.Mathlib.Omega.{arith}
use borrow.Author.Tests.{lt-ltb, ltb-true, ltb-false, le-leb, leb-true, leb-false, ne_eqb, eqb-true, eqb-false}
use lib.Dec.{ltb, leb, eqb}
use Rattle.basics.specs.Logic.{when◌then◌else◌}
use Rattle.basics.specs.Lists.{Below}
use Rattle.basics.proofs.Cases.{cases}
use Rattle.basics.proofs.Below.{below_head, below_tail}
use Rattle.words.specs.Words.{is_absorb, length_of}
use Rattle.card_grammar.specs.Text.{head_text, middle_text, end_text, hex_digit, hex, separator_text, decimal, call_text, calls_text, card_text}
use Rattle.card_grammar.specs.Machine.{head_at, middle_at, expected, move_of, State, at, state_after, stepped, run, fresh}
use Rattle.card_grammar.proofs.Digits.{hex_printed, hex_no_bracket, decimal_printed, decimal_small, decimal_more}
use Rattle.card_grammar.specs.declared.machine.Mode.{Mode}
use Rattle.card_grammar.specs.declared.machine.Mode.TheVariants.{Domain, First, Half, More, Middle, Calls, Kind, Space, Start, Length, End}
use Rattle.card_grammar.specs.declared.machine.Move.{Move}
use Rattle.card_grammar.specs.declared.machine.Move.TheVariants.{To, Byte, Word}

pub run_append : (st : State) (a b : List ℕ) → run st (a ++ b) ≡ run (run st a) b
unfolding run
run_append st [] b = refl
run_append st (x ∷ a) b = run_append (stepped st x) a b

run_one : (m : Mode) (s w : List ℕ) (b : ℕ) (l : List ℕ) (move : Move) → move_of m b ≡ move → run (at m s w) (b ∷ l) ≡ run (state_after move s w) l
unfolding run
run_one m s w b l move e = ap (λ (x : Move). run (state_after x s w) l) e

head_run : run fresh head_text ≡ at Domain [] []
unfolding run move_of head_at expected when◌then◌else◌
head_run = refl

middle_run : (m : Mode) (s : List ℕ) → move_of m 41 ≡ To (Middle 1) → run (at m s []) middle_text ≡ at Calls s []
unfolding run move_of middle_at expected when◌then◌else◌
middle_run m s e = run_one m s [] 41 (32 ∷ 40 ∷ 99 ∷ 97 ∷ 108 ∷ 108 ∷ 115 ∷ []) (To (Middle 1)) e

domain_closes : move_of Domain 41 ≡ To (Middle 1)
unfolding move_of expected when◌then◌else◌
domain_closes = refl

more_closes : move_of More 41 ≡ To (Middle 1)
unfolding move_of when◌then◌else◌
more_closes = refl

domain_space : move_of Domain 32 ≡ To First
unfolding move_of when◌then◌else◌
domain_space = refl

first_digit : (d : ℕ) → d < 16 → move_of First (hex_digit d) ≡ To (Half d)
unfolding move_of when◌then◌else◌
first_digit d h = simp (hex_printed d h, lt-ltb d 16 h)

more_digit : (d : ℕ) → d < 16 → move_of More (hex_digit d) ≡ To (Half d)
unfolding move_of when◌then◌else◌
more_digit d h = simp (ne_eqb (hex_digit d) 41 (hex_no_bracket d h), hex_printed d h, lt-ltb d 16 h)

second_digit : (high d : ℕ) → high < 16 → d < 16 → move_of (Half high) (hex_digit d) ≡ Byte (high * 16 + d)
unfolding move_of when◌then◌else◌
second_digit high d g h = simp (hex_printed d h, lt-ltb d 16 h, lt-ltb high 16 g)

-- a pair, where one may begin
pair_run : (m : Mode) (s : List ℕ) (b : ℕ) (l : List ℕ) → b < 256 → ((d : ℕ) → d < 16 → move_of m (hex_digit d) ≡ To (Half d))
    → run (at m s []) (hex_digit (b / 16) ∷ hex_digit (b % 16) ∷ l) ≡ run (at More (s ++ (b ∷ [])) []) l
pair_run m s b l h begins =
    let whole : b / 16 * 16 + b % 16 ≡ b = omega arith in
    run_one m s [] (hex_digit (b / 16)) _ _ (begins (b / 16) (omega arith))
    ∙ run_one (Half (b / 16)) s [] (hex_digit (b % 16)) l _ (second_digit (b / 16) (b % 16) (omega arith) (omega arith))
    ∙ ap (λ (x : ℕ). run (at More (s ++ (x ∷ [])) []) l) whole

more_run : (s more : List ℕ) → Below 256 more → run (at More s []) (hex more ++ middle_text) ≡ at Calls (s ++ more) []
unfolding hex
more_run s [] h = rw append-nil (middle_run More s more_closes)
more_run s (b ∷ more) h =
    pair_run More s b (hex more ++ middle_text) (below_head 256 b more h) more_digit
    ∙ more_run (s ++ (b ∷ [])) more (below_tail 256 b more h)
    ∙ ap (λ (x : List ℕ). at Calls x []) (append_assoc s (b ∷ []) more)

separator_run : (s : List ℕ) → Below 256 s → run (at Domain [] []) (separator_text s ++ middle_text) ≡ at Calls s []
unfolding hex separator_text
separator_run [] h = middle_run Domain [] domain_closes
separator_run (b ∷ s) h =
    run_one Domain [] [] 32 _ _ domain_space
    ∙ pair_run First [] b (hex s ++ middle_text) (below_head 256 b s h) first_digit
    ∙ more_run (b ∷ []) s (below_tail 256 b s h)

start_digit : (t v : ℕ) → 0 < v → v < 10 → move_of (Start t) (v + 48) ≡ To (Length t v)
unfolding move_of when◌then◌else◌
start_digit t v g h = simp (ne_eqb (v + 48) 48 (omega arith), decimal_printed v h, lt-ltb v 10 h)

length_digit : (t v d : ℕ) → d < 10 → v * 10 + d ≤ 2147483647 → move_of (Length t v) (d + 48) ≡ To (Length t (v * 10 + d))
unfolding move_of when◌then◌else◌
length_digit t v d h fits = simp (ne_eqb (d + 48) 41 (omega arith), decimal_printed d h, lt-ltb d 10 h, le-leb (v * 10 + d) 2147483647 fits)

length_closes : (t v : ℕ) → t + v < 4294967296 → move_of (Length t v) 41 ≡ Word (t + v)
unfolding move_of when◌then◌else◌
length_closes t v h = simp (lt-ltb (t + v) 4294967296 h)

-- the digits of a length other than 0, by induction on a bound of it
digits_run : (k t v : ℕ) (s w : List ℕ) → v ≤ k → 0 < v → v ≤ 2147483647 → run (at (Start t) s w) (decimal v) ≡ at (Length t v) s w
unfolding run
digits_run zero t v s w p q u = absurd (omega arith)
digits_run (suc k) t v s w p q u =
    cases (ltb v 10)
    (λ e. let small : v < 10 = ltb-true v 10 e in
    rw (decimal_small v small) (run_one (Start t) s w (v + 48) [] _ (start_digit t v q small)))
    (λ e. let large : 10 ≤ v = ltb-false v 10 e in
    let whole : v / 10 * 10 + v % 10 ≡ v = omega arith in
    ap (run (at (Start t) s w)) (decimal_more v large)
    ∙ run_append (at (Start t) s w) (decimal (v / 10)) ((v % 10 + 48) ∷ [])
    ∙ ap (λ (x : State). run x ((v % 10 + 48) ∷ [])) (digits_run k t (v / 10) s w (omega arith) (omega arith) (omega arith))
    ∙ run_one (Length t (v / 10)) s w (v % 10 + 48) [] _ (length_digit t (v / 10) (v % 10) (omega arith) (omega arith))
    ∙ ap (λ (x : ℕ). at (Length t x) s w) whole)

-- a length and the bracket behind it
length_run : (t v : ℕ) (s w : List ℕ) → v ≤ 2147483647 → t + v < 4294967296
    → run (at (Start t) s w) (decimal v ++ (41 ∷ [])) ≡ at Calls s (w ++ ((t + v) ∷ []))
unfolding run move_of when◌then◌else◌
length_run t v s w u f =
    cases (eqb v 0)
    (λ e. let z : v ≡ 0 = eqb-true v 0 e in
    let same : t ≡ t + v = omega arith in
    rw (z, decimal_small 0 (omega arith)) (ap (λ (x : ℕ). at Calls s (w ++ (x ∷ []))) (same ∙ ap (λ (x : ℕ). t + x) z)))
    (λ e. let p : 0 < v = omega (arith, eqb-false v 0 e) in
    run_append (at (Start t) s w) (decimal v) (41 ∷ [])
    ∙ ap (λ (x : State). run x (41 ∷ [])) (digits_run v t v s w (omega arith) p u)
    ∙ run_one (Length t v) s w 41 [] _ (length_closes t v f))

kind_a : move_of Kind 97 ≡ To (Space 2147483648)
unfolding move_of when◌then◌else◌
kind_a = refl

kind_s : move_of Kind 115 ≡ To (Space 0)
unfolding move_of expected when◌then◌else◌
kind_s = refl

-- a call of the kind that a letter gives
kind_run : (letter t v : ℕ) (s w : List ℕ) → move_of Kind letter ≡ To (Space t) → v ≤ 2147483647 → t + v < 4294967296
    → run (at Calls s w) (32 ∷ 40 ∷ letter ∷ 32 ∷ (decimal v ++ (41 ∷ []))) ≡ at Calls s (w ++ ((t + v) ∷ []))
unfolding run move_of expected when◌then◌else◌
kind_run letter t v s w e u f = run_one Kind s w letter (32 ∷ (decimal v ++ (41 ∷ []))) _ e ∙ length_run t v s w u f

call_run : (x : ℕ) (s w : List ℕ) → x < 4294967296 → run (at Calls s w) (call_text x) ≡ at Calls s (w ++ (x ∷ []))
unfolding call_text is_absorb length_of when◌then◌else◌
call_run x s w h =
    cases (leb 2147483648 x)
    (λ e. let top : 2147483648 ≤ x = leb-true 2147483648 x e in
    let whole : 2147483648 + x % 2147483648 ≡ x = omega arith in
    rw e (kind_run 97 2147483648 (x % 2147483648) s w kind_a (omega arith) (omega arith)
    ∙ ap (λ (y : ℕ). at Calls s (w ++ (y ∷ []))) whole))
    (λ e. let low : x < 2147483648 = leb-false 2147483648 x e in
    let whole : 0 + x % 2147483648 ≡ x = omega arith in
    rw e (kind_run 115 0 (x % 2147483648) s w kind_s (omega arith) (omega arith)
    ∙ ap (λ (y : ℕ). at Calls s (w ++ (y ∷ []))) whole))

calls_run : (s w ws : List ℕ) → Below 4294967296 ws → run (at Calls s w) (calls_text ws ++ end_text) ≡ at End s (w ++ ws)
unfolding calls_text run move_of expected when◌then◌else◌
calls_run s w [] h = rw append-nil
calls_run s w (x ∷ ws) h =
    ap (run (at Calls s w)) (append_assoc (call_text x) (calls_text ws) end_text)
    ∙ run_append (at Calls s w) (call_text x) (calls_text ws ++ end_text)
    ∙ ap (λ (st : State). run st (calls_text ws ++ end_text)) (call_run x s w (below_head 4294967296 x ws h))
    ∙ calls_run s (w ++ (x ∷ [])) ws (below_tail 4294967296 x ws h)
    ∙ ap (λ (y : List ℕ). at End s y) (append_assoc w (x ∷ []) ws)

pub card_run : (s w : List ℕ) → Below 256 s → Below 4294967296 w → run fresh (card_text s w) ≡ at End s w
unfolding card_text
card_run s w p q =
    let text : card_text s w ≡ head_text ++ ((separator_text s ++ middle_text) ++ (calls_text w ++ end_text)) = simp append_assoc in
    ap (run fresh) text
    ∙ run_append fresh head_text ((separator_text s ++ middle_text) ++ (calls_text w ++ end_text))
    ∙ ap (λ (st : State). run st ((separator_text s ++ middle_text) ++ (calls_text w ++ end_text))) head_run
    ∙ run_append (at Domain [] []) (separator_text s ++ middle_text) (calls_text w ++ end_text)
    ∙ ap (λ (st : State). run st (calls_text w ++ end_text)) (separator_run s p)
    ∙ calls_run s [] w q
