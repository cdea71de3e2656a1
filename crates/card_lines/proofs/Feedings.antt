-- The calls of `feed` that a call of `answer_lines` makes.
-- Assumes nothing.
use mathlib.Core.Path.{◌≡◌, refl, sym, ap, ap₂, ◌∙◌}
use mathlib.Core.List.{List, [], ◌∷◌, ◌++◌, append_assoc}
use Prim.Native.Nat.{ℕ, zero, suc, ◌-◌, ◌≤◌, ◌<◌}
use native.Mathlib.Omega.{arith}
use borrow.Author.Tests.{lt-ltb, le-ltb, ltb-false}
use lib.Dec.{ltb}
use lib.ListN.{length, drop, length-append, length-drop, take-append-drop}
use lib.Seq.{drop-drop}
use Rattle.basics.proofs.Cases.{by, cases, if_true, if_false}
use Rattle.card.specs.Answer.{longest_answer}
use Rattle.card_lines.specs.Stream.{writes, takes}
use Rattle.card_lines.specs.Calls.{Held, leaves, writes_all, takes_all, feedings}
use Rattle.card_lines.proofs.Progress.{takes_some, takes_first, writes_within}

-- what a call leaves of its piece, and of the room
abbrev pub rest_after : List ℕ → List ℕ
rest_after rest = drop (length (takes rest)) rest

abbrev pub room_after : ℕ → Held → List ℕ → ℕ
room_after room h rest = room - length (writes h.line h.held rest)

shorter : (rest : List ℕ) → 0 < length rest → length (rest_after rest) < length rest
shorter rest h = omega (arith, length-drop (length (takes rest)) rest, takes_some rest h)

-- any bound that is enough gives the same calls
enough : (k j room : ℕ) (h : Held) (rest : List ℕ) → length rest ≤ k → length rest ≤ j → feedings k room h rest ≡ feedings j room h rest
unfolding feedings
enough zero zero room h rest l m = refl
enough zero (suc j) room h [] l m = refl
enough zero (suc j) room h (b ∷ bs) l m = absurd (omega arith)
enough (suc k) zero room h [] l m = refl
enough (suc k) zero room h (b ∷ bs) l m = absurd (omega arith)
enough (suc k) (suc j) room h [] l m = refl
enough (suc k) (suc j) room h (b ∷ bs) l m =
    let rest = b ∷ bs in
    let less = shorter rest (omega arith) in
    cases (ltb room longest_answer)
    (λ e. if_true _ _ _ e ∙ sym (if_true _ _ _ e))
    λ e. if_false _ _ _ e
    ∙ ap (λ (l : List (List ℕ)). rest ∷ l) (enough k j (room_after room h rest) (leaves h rest) (rest_after rest) (omega arith) (omega arith))
    ∙ sym (if_false _ _ _ e)

-- one call, where there is a byte and room; none where there is not
pub feedings_step : (room : ℕ) (h : Held) (rest : List ℕ) → 0 < length rest → longest_answer ≤ room
    → feedings (length rest) room h rest ≡ rest ∷ feedings (length (rest_after rest)) (room_after room h rest) (leaves h rest) (rest_after rest)
unfolding feedings
feedings_step room h [] some fits = absurd (omega arith)
feedings_step room h (b ∷ bs) some fits =
    let rest = b ∷ bs in
    let less = shorter rest some in
    if_false _ _ _ (le-ltb room longest_answer fits)
    ∙ ap (λ (l : List (List ℕ)). rest ∷ l)
    (enough (length bs) (length (rest_after rest)) (room_after room h rest) (leaves h rest) (rest_after rest) (omega arith) (omega arith))

pub feedings_none : (room : ℕ) (h : Held) (rest : List ℕ) → length rest ≡ 0 → feedings (length rest) room h rest ≡ []
unfolding feedings
feedings_none room h [] e = refl
feedings_none room h (b ∷ bs) e = absurd (omega arith)

pub feedings_full : (room : ℕ) (h : Held) (rest : List ℕ) → room < longest_answer → feedings (length rest) room h rest ≡ []
unfolding feedings
feedings_full room h [] full = refl
feedings_full room h (b ∷ bs) full = if_true _ _ _ (lt-ltb room longest_answer full)

-- what is taken is the front of what is there
front_more : (rest later : List ℕ) → later ++ drop (length later) (rest_after rest) ≡ rest_after rest
    → takes rest ++ later ++ drop (length (takes rest ++ later)) rest ≡ rest
front_more rest later behind =
    let left : drop (length (takes rest ++ later)) rest ≡ drop (length later) (rest_after rest) =
    ap (λ (n : ℕ). drop n rest) (length-append (takes rest) later) ∙ sym (drop-drop (length later) (length (takes rest)) rest) in
    ap (λ (l : List ℕ). takes rest ++ later ++ l) left
    ∙ append_assoc (takes rest) later (drop (length later) (rest_after rest))
    ∙ ap₂ (λ (x y : List ℕ). x ++ y) (takes_first rest) behind
    ∙ take-append-drop (length (takes rest)) rest

pub feedings_front : (k room : ℕ) (h : Held) (rest : List ℕ)
    → takes_all (feedings k room h rest) ++ drop (length (takes_all (feedings k room h rest))) rest ≡ rest
unfolding feedings takes_all
feedings_front zero room h rest = refl
feedings_front (suc k) room h [] = refl
feedings_front (suc k) room h (b ∷ bs) =
    by (λ (l : List (List ℕ)). takes_all l ++ drop (length (takes_all l)) (b ∷ bs) ≡ b ∷ bs) (ltb room longest_answer) _ _ (λ e. refl)
    λ e. let rest = b ∷ bs in front_more rest _ (feedings_front k (room_after room h rest) (leaves h rest) (rest_after rest))

-- no more is written than there is room for
pub feedings_fit : (k room : ℕ) (h : Held) (rest : List ℕ) → length (writes_all h (feedings k room h rest)) ≤ room
unfolding feedings writes_all
feedings_fit zero room h rest = omega arith
feedings_fit (suc k) room h [] = omega arith
feedings_fit (suc k) room h (b ∷ bs) =
    by (λ (l : List (List ℕ)). length (writes_all h l) ≤ room) (ltb room longest_answer) _ _ (λ e. omega arith)
    λ e.
    let rest = b ∷ bs in
    let text = writes h.line h.held rest in
    let later = writes_all (leaves h rest) (feedings k (room_after room h rest) (leaves h rest) (rest_after rest)) in
    let fits = ltb-false room longest_answer e in
    let rest_fits = feedings_fit k (room_after room h rest) (leaves h rest) (rest_after rest) in
    omega (arith, length-append text later, writes_within h.line h.held rest)
