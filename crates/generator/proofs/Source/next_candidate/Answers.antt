-- `Source::next_candidate` meets its contract: the value is the number that the output bits so far write.
-- Assumes nothing.
use mathlib.Core.Path.{◌≡◌, ◌∙◌, refl, sym, ap}
use mathlib.Core.List.{List, [], ◌∷◌, ◌++◌, append-nil}
use Prim.Native.Nat.{ℕ, ◌+◌, ◌*◌, ◌^◌, ◌≤◌, ◌<◌}
use native.Mathlib.Nat.{pow-suc}
use native.Mathlib.Numerals.{add-one}
use native.Mathlib.Omega.{arith}
use lib.Dec.{lit<}
use lib.Pow.{pow_mono}
use lib.ListN.{length-append}
use lib.Seq.{append_snoc}
use borrow.Author.Rules.{rules}
use Rattle.basics.specs.Digits.{number, number_after}
use Rattle.basics.proofs.Positional.{number_append}
use Rattle.generator.specs.Generator.{candidates}
use Rattle.generator.specs.Steps.{outputs_left, candidates_left}
use Rattle.generator.specs.declared.Source.{Source}
use Rattle.generator.proofs.Streams.{candidate_whole, candidate_part}
use Rattle.generator.proofs.Source.next_candidate.Invariants.{Collected}
use Rattle.generator.proofs.Source.next_candidate.Goals as goal

small : {before from : Source} {value size : ℕ} → Collected before from value size → size < 31 → value < 1073741824
small {size = size} k h = let e : 2 ^ size ≤ 2 ^ 30 = pow_mono {j = 30} (omega arith) in omega arith

more : {before from next : Source} {value size bit : ℕ} → Collected before from value size → bit < 2
    → next.left < from.left → outputs_left from ≡ bit ∷ outputs_left next → Collected before next (value * 2 + bit) (size + 1)
more {next = next} {value = value} {size = size} {bit = bit} k small fewer e =
    let power : 2 ^ (size + 1) ≡ 2 ^ size * 2 = rw add-one (pow-suc 2 size) in
    record {
      bound = omega arith;
      fewer = omega arith;
      word = k.word ++ (bit ∷ []);
      long = length-append k.word (bit ∷ []) ∙ ap (λ (n : ℕ). n + 1) k.long;
      writes = ap (λ (n : ℕ). n * 2 + bit) k.writes ∙ sym (number_append 2 k.word bit);
      rest = k.rest ∙ ap (λ (bits : List ℕ). k.word ++ bits) e ∙ sym (append_snoc k.word bit (outputs_left next));
    }

-- 31 bits make a candidate
whole : {before from : Source} {value : ℕ} → Collected before from value 31 → candidates_left before ≡ value ∷ candidates_left from
unfolding candidates_left
whole k = ap candidates k.rest ∙ candidate_whole k.word _ k.long ∙ rw (← k.writes)

-- fewer make none
part : {before from : Source} (next : Source) {value size : ℕ} → Collected before from value size → size < 31
    → (outputs_left from ≡ []) × (outputs_left next ≡ []) → (candidates_left before ≡ []) × (candidates_left next ≡ [])
unfolding candidates_left
part next k h (e, f) = (
  ap candidates (k.rest ∙ ap (λ (bits : List ℕ). k.word ++ bits) e ∙ append-nil _) ∙ candidate_part k.word (rw k.long h),
  ap candidates f ∙ candidate_part [] (lit< tt),
)

pub loop-init : goal.loop-init
unfolding number number_after
loop-init c =
    record {
      bound = search rules;
      fewer = search rules;
      word = [];
      long = refl;
      writes = refl;
      rest = refl;
    }

pub overflow_mul-value : goal.overflow_mul-value
overflow_mul-value c = omega (arith, small c.loop.invariant (search rules))

pub overflow_add-value : goal.overflow_add-value
overflow_add-value c =
    record { fits = omega (arith, small c.loop.invariant (search rules), c.from.ensures, c.in_ok-next_output.ensures.1) }

pub returns-in_err-next_output : goal.returns-in_err-next_output
returns-in_err-next_output c =
    rw c.from_residual.ensures (part _ c.loop.invariant c.loop-test.true c.in_err-next_output.ensures.0, tt)

pub loop-preserved : goal.loop-preserved
loop-preserved c =
    let next = c.in_ok-next_output.ensures in
    rw c.from.ensures (more c.loop.invariant next.1.0 next.1.1 next.0)

pub returns : goal.returns
returns c =
    let e : c.loop.counter ≡ 31 = omega arith in
    (whole (rw e at c.loop.invariant), omega arith)
