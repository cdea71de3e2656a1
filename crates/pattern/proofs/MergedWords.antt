-- The merged words of an accepted pattern are sound, and sound words merge to themselves.
-- Assumes nothing.
use mathlib.Core.Path.{◌≡◌, refl, sym, ap, ap₂, subst, ◌∙◌}
use mathlib.Core.Bool.{Bool, true, false, not, true≢false}
use mathlib.Core.List.{List, [], ◌∷◌, map}
use Prim.Native.Nat.{ℕ, suc, ◌+◌, ◌-◌, ◌%◌, ◌≤◌, ◌<◌}
use native.Mathlib.Omega.{arith}
use borrow.Author.Tests.{ltb-false, leb-true, le-leb, ne_eqb, eqb-false, not-false}
use lib.Dec.{leb, eqb}
use lib.ListN.{length, get_or, length-map}
use Rattle.basics.specs.Logic.{◌or◌, same, all, any}
use Rattle.basics.specs.Lists.{Below}
use Rattle.basics.specs.Numbers.{accepted}
use Rattle.basics.proofs.Below.{below_nil, below_cons, below_head, below_tail}
use Rattle.basics.proofs.Cases.{by, if_false, and_left, and_right, and_both, or_false, same_self, same_other, same_true, same_false}
use Rattle.words.specs.Words.{is_absorb, length_of, Phase, phase_of, word_of}
use Rattle.pattern.specs.Pattern.{max_words, join, merge, phases, merged_words, too_long, alternate, sound_words}
use Rattle.pattern.specs.Opening.{Opening, max_separator, opening_number}
use Rattle.words.proofs.WordKinds.{word_kind, word_length, word_of_phase, phase_of_word, word_below}
use Rattle.pattern.proofs.MergeStep.{merged_words_length}
use Rattle.pattern.proofs.Soundness.{long, right_count, Sound, sound}
use Rattle.pattern.proofs.MergedLengths.{phases_fit}
use Rattle.pattern.proofs.StartCheck.{row2, row19, PassedWords, few_declared, merged_fit, passed_rows, passes, some_words}

-- ---- merging gives calls that alternate

-- no call is empty
abbrev Positive : List Phase → Type 0
Positive [] = Unit {0}
Positive (a ∷ ps) = (0 < a.elements) × Positive ps

-- kinds alternate, the first is k, and no call is empty
abbrev Alternating : Bool → List Phase → Type 0
Alternating k [] = Unit {0}
Alternating k (a ∷ ps) = (a.absorbs ≡ k) × (0 < a.elements) × Alternating (not k) ps

join_alternating : (a : Phase) (k : Bool) (ps : List Phase) → 0 < a.elements → Alternating k ps → Alternating a.absorbs (join a ps)
unfolding join
join_alternating a k [] h f = (refl, h, tt)
join_alternating a k (b ∷ bs) h f =
    by (Alternating a.absorbs) _ _ _
    (λ e. (refl, omega arith, subst (λ (l : Bool). Alternating (not l) bs) (sym f.0 ∙ sym (same_true _ _ e)) f.2))
    λ e. (refl, h, (same_false _ _ e, f.1, subst (λ (l : Bool). Alternating (not l) bs) (sym f.0 ∙ same_false _ _ e) f.2))

merge_alternating : (a : Phase) (ps : List Phase) → 0 < a.elements → Positive ps → Alternating a.absorbs (merge (a ∷ ps))
unfolding merge
merge_alternating a [] h p = join_alternating a true [] h tt
merge_alternating a (b ∷ ps) h p = join_alternating a b.absorbs (merge (b ∷ ps)) h (merge_alternating b ps p.0 p.1)

-- ---- the kind of the last call stays

last_kind : List Phase → Bool → Bool
last_kind [] k = k
last_kind (a ∷ ps) k = last_kind ps a.absorbs

join_last : (a : Phase) (ps : List Phase) (k : Bool) → last_kind (join a ps) k ≡ last_kind ps a.absorbs
unfolding join last_kind
join_last a [] k = refl
join_last a (b ∷ bs) k =
    by (λ (l : List Phase). last_kind l k ≡ last_kind bs b.absorbs) _ _ _ (λ e. ap (last_kind bs) (same_true _ _ e)) λ _. refl

merge_last : (ps : List Phase) (k : Bool) → last_kind (merge ps) k ≡ last_kind ps k
unfolding merge last_kind
merge_last [] k = refl
merge_last (a ∷ ps) k = join_last a (merge ps) k ∙ merge_last ps a.absorbs

-- the last word is that behind the first, too
last_behind : (w v : ℕ) (ws : List ℕ) → get_or (w ∷ v ∷ ws) (length (w ∷ v ∷ ws) - 1) 0 ≡ get_or (v ∷ ws) (length (v ∷ ws) - 1) 0
last_behind w v ws =
    let n = length ws in
    let e1 : suc n - 1 ≡ n = omega arith in
    let e2 : suc (suc n) - 1 ≡ suc n = omega arith in
    ap (λ (j : ℕ). get_or (w ∷ v ∷ ws) j 0) e2 ∙ sym (ap (λ (j : ℕ). get_or (v ∷ ws) j 0) e1)

last_word_law : (w : ℕ) (ws : List ℕ) (k : Bool) → last_kind (map phase_of (w ∷ ws)) k ≡ is_absorb (get_or (w ∷ ws) (length (w ∷ ws) - 1) 0)
unfolding last_kind phase_of
last_word_law w [] k = refl
last_word_law w (v ∷ ws) k = last_word_law v ws k ∙ sym (ap is_absorb (last_behind w v ws))

-- ---- from ABSORB to SQUEEZE the count is even

shift : Bool → ℕ
shift true = 0
shift false = 1

even_count : (k : Bool) (ps : List Phase) → Alternating k ps → last_kind ps (not k) ≡ false → (shift k + length ps) % 2 ≡ 0
unfolding shift last_kind
even_count true [] f e = refl
even_count false [] f e = absurd (true≢false e)
even_count true (a ∷ ps) f e = omega (arith, even_count false ps f.2 (rw f.0 at e))
even_count false (a ∷ ps) f e = omega (arith, even_count true ps f.2 (rw f.0 at e))

-- ---- as words

words_alternate : (k : Bool) (ps : List Phase) → Alternating k ps → any too_long ps ≡ false
    → (alternate k (map word_of ps) ≡ true) × (all long (map word_of ps) ≡ true)
unfolding alternate all any too_long
words_alternate k [] f e = (refl, refl)
words_alternate k (a ∷ ps) f e =
    let o = or_false _ _ e in
    let l : a.elements < 2147483648 = omega (arith, ltb-false 2147483647 a.elements o.0) in
    let rest = words_alternate (not k) ps f.2 o.1 in (
      and_both _ _ (ap (same k) (word_kind a l ∙ f.0) ∙ same_self k) rest.0,
      and_both _ _ (ap (leb 1) (word_length a l) ∙ le-leb 1 a.elements f.1) rest.1,
    )

positive : (ws : List ℕ) → any (λ w. eqb (length_of w) 0) ws ≡ false → Positive (map phase_of ws)
unfolding any phase_of
positive [] e = tt
positive (w ∷ ws) e = let o = or_false _ _ e in (omega (arith, eqb-false (length_of w) 0 o.0), positive ws o.1)

join_some : (a : Phase) (ps : List Phase) → 1 ≤ length (join a ps)
unfolding join
join_some a [] = omega arith
join_some a (b ∷ bs) = by (λ (l : List Phase). 1 ≤ length l) _ _ _ (λ _. omega arith) λ _. omega arith

module _ (w : ℕ) (ws : List ℕ) (r : PassedWords (w ∷ ws)) where
  abbrev ps : List Phase
  ps = phases (w ∷ ws)

  alternating : Alternating true ps
  unfolding phases phase_of
  alternating =
      let p = positive (w ∷ ws) r.e2 in
      subst (λ (k : Bool). Alternating k (merge (map phase_of (w ∷ ws)))) (not-false _ r.e3)
      (merge_alternating (phase_of w) (map phase_of ws) p.0 p.1)

  -- where the last word is SQUEEZE, they are even in number
  pub even_words : is_absorb (get_or (w ∷ ws) (length (w ∷ ws) - 1) 0) ≡ false → length ps % 2 ≡ 0
  unfolding phases shift
  even_words squeezes =
      omega (arith, even_count true ps alternating (merge_last (map phase_of (w ∷ ws)) false ∙ last_word_law w ws false ∙ squeezes))

  pub some_phases : 1 ≤ length ps
  unfolding phases merge
  some_phases = join_some (phase_of w) (merge (map phase_of ws))

  rows_sound : sound_words (merged_words (w ∷ ws)) ≡ true
  unfolding merged_words
  rows_sound =
      let count = length-map ps word_of in
      let few = merged_words_length (w ∷ ws) in
      let most = few_declared (w ∷ ws) r.e1 in
      let words = words_alternate true ps alternating (merged_fit (w ∷ ws) r) in
      right_count (map word_of ps) (omega (arith, some_phases)) (omega arith) ∙ and_both _ _ words.0 words.1

words_sound : (ws : List ℕ) → PassedWords ws → sound_words (merged_words ws) ≡ true
words_sound [] r = absurd (true≢false (or_false _ _ r.e1).0)
words_sound (w ∷ ws) r = rows_sound w ws r

-- the merged words of an accepted pattern are sound
pub merged_sound : (o : Opening) → opening_number o ≡ accepted → sound_words (merged_words o.words) ≡ true
merged_sound o e = words_sound o.words (passed_rows o e).of_words

-- ---- sound words merge to themselves

merge_alternate : (first : Bool) (ws : List ℕ) → alternate first ws ≡ true → merge (map phase_of ws) ≡ map phase_of ws
unfolding merge join alternate phase_of
merge_alternate first [] e = refl
merge_alternate first (w ∷ []) e = refl
merge_alternate first (w ∷ v ∷ ws) e =
    let rest = and_right _ _ e in
    let k : first ≡ is_absorb w = same_true _ _ (and_left _ _ e) in
    let l : not first ≡ is_absorb v = same_true _ _ (and_left _ _ rest) in
    ap (join (phase_of w)) (merge_alternate (not first) (v ∷ ws) rest)
    ∙ if_false _ _ _ (sym (ap₂ same k l) ∙ same_other first)

pub words_of_phases : (ws : List ℕ) → Below 4294967296 ws → map word_of (map phase_of ws) ≡ ws
words_of_phases [] h = refl
words_of_phases (w ∷ ws) h =
    ap₂ (λ (x : ℕ) (l : List ℕ). x ∷ l) (word_of_phase w (below_head _ w ws h)) (words_of_phases ws (below_tail _ w ws h))

-- the merged pattern of sound words
pub phases_of_sound : (ws : List ℕ) → sound_words ws ≡ true → phases ws ≡ map phase_of ws
unfolding phases
phases_of_sound ws e = merge_alternate true ws (sound ws e).turns

pub sound_merged : (ws : List ℕ) → sound_words ws ≡ true → Below 4294967296 ws → merged_words ws ≡ ws
unfolding merged_words
sound_merged ws e h = ap (map word_of) (phases_of_sound ws e) ∙ words_of_phases ws h

-- ---- merged words, merged again

-- phases whose words are read again
pub phases_of_words : (ps : List Phase) → any too_long ps ≡ false → (map phase_of (map word_of ps) ≡ ps) × Below 4294967296 (map word_of ps)
unfolding any too_long
phases_of_words [] e = (refl, below_nil _)
phases_of_words (a ∷ ps) e =
    let o = or_false _ _ e in
    let l : a.elements < 2147483648 = omega (arith, ltb-false 2147483647 a.elements o.0) in
    let rest = phases_of_words ps o.1 in
    (ap₂ (λ (b : Phase) (bs : List Phase). b ∷ bs) (phase_of_word a l) rest.0, below_cons _ (word_of a) (map word_of ps) (word_below a l) rest.1)

-- words of which none is empty, and no merged length too long, have their merged pattern again when merged
pub merged_again : (v : ℕ) (vs : List ℕ) → any (λ w. eqb (length_of w) 0) (v ∷ vs) ≡ false → any too_long (phases (v ∷ vs)) ≡ false
    → phases (merged_words (v ∷ vs)) ≡ phases (v ∷ vs)
unfolding phases merged_words phase_of
merged_again v vs some fine =
    let p = positive (v ∷ vs) some in
    let alternating = merge_alternating (phase_of v) (map phase_of vs) p.0 p.1 in
    merge_alternate (is_absorb v) (merged_words (v ∷ vs)) (words_alternate (is_absorb v) (phases (v ∷ vs)) alternating fine).0
    ∙ (phases_of_words (phases (v ∷ vs)) fine).0

-- ---- which words are accepted

pub none_empty : (ws : List ℕ) → all long ws ≡ true → any (λ w. eqb (length_of w) 0) ws ≡ false
unfolding all any ◌or◌
none_empty [] e = refl
none_empty (w ∷ ws) e =
    let l = leb-true 1 (length_of w) (and_left _ _ e) in
    rw (ne_eqb (length_of w) 0 (λ z. omega arith), none_empty ws (and_right _ _ e))

-- the first of words that alternate
pub first_kind_law : (first : Bool) (ws : List ℕ) → alternate first ws ≡ true → 0 < length ws → is_absorb (get_or ws 0 0) ≡ first
unfolding alternate
first_kind_law first [] e p = absurd (omega arith)
first_kind_law first (w ∷ ws) e p = sym (same_true first (is_absorb w) (and_left _ _ e))

-- the kind of the first call stays
first_kind : List Phase → Bool
first_kind [] = true
first_kind (a ∷ rest) = a.absorbs

join_first : (a : Phase) (ps : List Phase) → first_kind (join a ps) ≡ a.absorbs
unfolding join first_kind
join_first a [] = refl
join_first a (b ∷ bs) = by (λ (l : List Phase). first_kind l ≡ a.absorbs) _ _ _ (λ _. refl) λ _. refl

first_word : (w : ℕ) (ws : List ℕ) → first_kind (map phase_of (w ∷ ws)) ≡ is_absorb w
unfolding first_kind phase_of
first_word w ws = refl

-- what the merged words tell of the first word
module _ (w : ℕ) (ws : List ℕ) (fine : any too_long (phases (w ∷ ws)) ≡ false) (e : sound_words (merged_words (w ∷ ws)) ≡ true) where
  words_told : (vs : List ℕ) → map phase_of vs ≡ phases (w ∷ ws) → Sound vs → is_absorb w ≡ true
  unfolding phases merge phase_of
  words_told [] read s = absurd (let few = s.few in omega arith)
  words_told (v ∷ vs) read s =
      sym (join_first (phase_of w) (merge (map phase_of ws)))
      ∙ sym (ap first_kind read)
      ∙ first_word v vs
      ∙ first_kind_law true (v ∷ vs) s.turns (omega arith)

  first_told : is_absorb w ≡ true
  unfolding merged_words
  first_told = words_told (merged_words (w ∷ ws)) (phases_of_words (phases (w ∷ ws)) fine).0 (sound _ e)

-- words that are few enough and within the limits, and whose merged words are sound, are an accepted pattern
words_accepted : (ws : List ℕ) → length ws ≤ max_words → row2 ws ≡ false → row19 ws ≡ false → sound_words (merged_words ws) ≡ true → PassedWords ws
unfolding merged_words phases merge
words_accepted [] few some within e = absurd (let one = (sound [] e).few in omega arith)
words_accepted (w ∷ ws) few some within e =
    record {
      e1 = some_words (w ∷ ws) (λ z. omega arith) few;
      e2 = some;
      e19 = within;
      e3 = ap not (first_told w ws (phases_fit (w ∷ ws) few within) e);
    }

pub accepts : (o : Opening) → length o.words ≤ max_words → row2 o.words ≡ false → row19 o.words ≡ false
    → sound_words (merged_words o.words) ≡ true → length o.separator ≤ max_separator → opening_number o ≡ accepted
accepts o few some within e short = passes o (record { of_words = words_accepted o.words few some within e; short = short })
