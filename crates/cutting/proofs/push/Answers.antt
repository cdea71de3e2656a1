-- `cutting::push` meets its contract.
-- Assumes nothing.
use mathlib.Core.Path.{refl, sym, ap, ap₂, ◌∙◌}
use mathlib.Core.List.{List, [], ◌∷◌}
use Prim.Native.Nat.{ℕ, ◌+◌, ◌<◌}
use native.Mathlib.Omega.{arith}
use lib.ListN.{length, set, length-append}
use Rattle.basics.specs.Answers.{number_of}
use Rattle.basics.proofs.Zeros.{push_number}
use Rattle.cutting.proofs.push.Goals as goal

pub returns-then-calls-eq-MAX_WORDS-clause-err : goal.returns-then-calls-eq-MAX_WORDS-clause-err
unfolding number_of
returns-then-calls-eq-MAX_WORDS-clause-err c = (refl, c.if-calls-eq-MAX_WORDS.true)

pub returns-clause-ok : goal.returns-clause-ok
returns-clause-ok c =
    let calls = c.args.calls.now in
    let call = c.args.call in
    let some = c.if-calls-eq-MAX_WORDS.false in
    λ cs h.
    let room : length cs < 64 = omega (arith, h.counted, calls.fits) in
    record {
      places = ap₂ (λ (l : List ℕ) (k : ℕ). set l k call) h.places h.counted ∙ push_number 64 cs call room;
      counted = ap (λ (k : ℕ). k + 1) h.counted ∙ sym (length-append cs (call ∷ []));
    }
