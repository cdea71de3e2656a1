-- `generator::generate_from` meets its contract: each place gets the next constant, or 0 where none is left.
-- Assumes nothing.
use mathlib.Core.Path.{◌≡◌, ◌∙◌, refl, sym, ap}
use mathlib.Core.List.{List, [], ◌∷◌, ◌++◌, append-nil, append_assoc}
use Prim.Native.Nat.{ℕ, ◌+◌, ◌-◌, ◌≤◌, ◌<◌}
use native.Mathlib.Numerals.{add-one}
use native.Mathlib.Omega.{arith}
use lib.ListN.{length, get_or, take, drop, set, replicate, length-drop, drop_of_length-le, replicate-append-replicate}
use lib.Seq.{length-take-le, take_all, take-suc, take-suc-set, drop-cons}
use Rattle.basics.specs.Lists.{zero_padded}
use Rattle.generator.specs.Generator.{new_bits, output_bits, candidates, kept, found}
use Rattle.generator.specs.Steps.{bits_left, outputs_left, candidates_left, constants_left}
use Rattle.generator.specs.declared.Source.{Source}
use Rattle.generator.proofs.generate_from.Invariants.{Filled}
use Rattle.generator.proofs.generate_from.Goals.{in-Some, in-None}
use Rattle.generator.proofs.generate_from.Goals as goal

-- where no constant is left, one zero more
module _ (constants : List ℕ) (i : ℕ) (few : length constants ≤ i) where
  past : take i constants ≡ take (i + 1) constants
  past = take_all i constants few ∙ sym (take_all (i + 1) constants (omega arith))

  zero_behind : zero_padded i (take i constants) ++ (0 ∷ []) ≡ zero_padded (i + 1) (take (i + 1) constants)
  zero_behind =
      let further : i - length constants + 1 ≡ i + 1 - length constants = omega arith in
      rw (sym past, take_all i constants few) (append_assoc constants (replicate (i - length constants) 0) (0 ∷ [])
      ∙ ap (◌++◌ constants) (replicate-append-replicate (i - length constants) 1 0 ∙ ap (λ (m : ℕ). replicate m 0) further))

module _ {constants rest places : List ℕ} {i count : ℕ} (k : Filled constants rest places i count) (room : i < length places) where
  next_place : (x : ℕ) → take (i + 1) (set places i x) ≡ zero_padded i (take i constants) ++ (x ∷ [])
  next_place x = rw (add-one, take-suc-set places i x room) (ap (λ (l : List ℕ). l ++ (x ∷ [])) k.is)

  -- a constant is stored
  store : {place x count' : ℕ} (rest' : List ℕ) → place ≡ x → count' ≡ count + 1 → rest ≡ x ∷ rest' → Filled constants rest' (set places i place) (i + 1) count'
  store {place} {x} {count'} rest' p n e =
      let front : drop i constants ≡ x ∷ rest' = sym k.to_come ∙ e in
      let more : i < length constants = omega (arith, length-drop i constants, ap length front) in
      let here : get_or constants i 0 ∷ drop (i + 1) constants ≡ x ∷ rest' = rw (add-one) (sym (drop-cons constants i 0 more) ∙ front) in
      let taken : take (i + 1) constants ≡ take i constants ++ (x ∷ []) = rw (add-one, take-suc constants i 0 more) cc in
      let long : length (take i constants) ≡ i = length-take-le i constants (omega arith) in
      let longer : length (take (i + 1) constants) ≡ i + 1 = length-take-le (i + 1) constants (omega arith) in
      let full : i - length (take i constants) ≡ 0 = omega arith in
      let fuller : i + 1 - length (take (i + 1) constants) ≡ 0 = omega arith in
      record {
        to_come = cc;
        number = n ∙ omega (arith, k.number);
        is = ap (λ (y : ℕ). take (i + 1) (set places i y)) p ∙ next_place x ∙ rw (full, fuller, append-nil (take i constants), append-nil (take (i + 1) constants), taken) refl;
      }

  -- none is left
  pad : {place count' : ℕ} (rest' : List ℕ) → place ≡ 0 → count' ≡ count → (rest ≡ []) × (rest' ≡ []) → Filled constants rest' (set places i place) (i + 1) count'
  pad {place} {count'} rest' p n (e, e') =
      let few : length constants ≤ i = omega (arith, length-drop i constants, ap length (sym k.to_come ∙ e)) in
      record {
        to_come = e' ∙ sym (drop_of_length-le constants {i = i + 1} (omega arith));
        number = n ∙ k.number ∙ ap length (past constants i few);
        is = ap (λ (y : ℕ). take (i + 1) (set places i y)) p ∙ next_place 0 ∙ zero_behind constants i few;
      }

-- every place is filled
all_filled : {constants rest places : List ℕ} {i count : ℕ} (n : ℕ) → Filled constants rest places i count → i ≡ n → length places ≤ n
    → (count ≡ length (take n constants)) × (places ≡ zero_padded n (take n constants))
all_filled {places = places} n k e whole = let is = rw e at k.is in (rw e at k.number, sym (take_all n places whole) ∙ is)

-- the first constants of a source behind the dropped bits
found_is : (register : List ℕ) (source : Source) (modulus wanted limit : ℕ) → bits_left source ≡ drop 160 (new_bits limit register)
    → take wanted (constants_left modulus source) ≡ found register modulus wanted limit
unfolding found constants_left candidates_left outputs_left
found_is register source modulus wanted limit e =
    ap (λ (bits : List ℕ). take wanted (kept modulus (candidates (output_bits bits)))) e

pub loop-place-preserved : goal.loop-place-preserved
loop-place-preserved c =
    let l = c.loop-place in
    let room : l.place-index < length l.constants = omega arith in
    elim c.match-next_constant.branch [
      | in-Some w ↦ store l.invariant room _ w.place-is w.count-is w.in-Some.ensures
      | in-None w ↦ pad l.invariant room _ w.place-is w.count-is w.in-None.ensures
    ]

pub returns : goal.returns
returns c =
    let l = c.loop-place in
    let wanted = length c.args.constants.now in
    let k = all_filled wanted l.invariant (omega arith) (omega arith) in
    let is = found_is c.args.register c.start-source.result c.args.modulus wanted c.args.limit c.start-source.ensures in
    (k.0 ∙ ap length is, k.1 ∙ ap (zero_padded wanted) is)
