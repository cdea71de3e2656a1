-- `generator::generate` meets its contract: it is `generate_from` with the parameters of the field that the
-- number names.
-- Assumes nothing.
use mathlib.Core.Path.{◌≡◌, ◌∙◌, sym, ap, ap₂}
use mathlib.Core.Bool.{true, false, not}
use mathlib.Core.List.{List, ◌++◌, append_assoc}
use Prim.Native.Nat.{ℕ, ◌+◌, ◌-◌, ◌*◌, ◌≤◌}
use native.Mathlib.Omega.{arith}
use lib.ListN.{length, drop, replicate, length-take, length-replicate, replicate-append-replicate}
use lib.Seq.{length-take-le, drop_at}
use borrow.Author.Rules.{rules}
use Rattle.std.specs.Prelude.{Result, Ok, Err}
use Rattle.basics.specs.Lists.{zero_padded}
use Rattle.basics.specs.Numbers.{accepted}
use Rattle.basics.specs.Answers.{number_of}
use Rattle.basics.specs.declared.Refusal.{Refusal}
use Rattle.basics.specs.declared.Refusal.TheVariants.{FieldUnknown}
use Rattle.basics.proofs.Cases.{if_true, if_false}
use Rattle.field.specs.Field.{modulus, partial_rounds, is_field, field_of}
use Rattle.field.specs.declared.Field.{Field}
use Rattle.field.proofs.Moduli.{few_rounds}
use Rattle.generator.specs.Answers.{generated_answer}
use Rattle.generator.specs.Generator.{first_register, new_bits, output_bits, candidates, kept, found, generated, with_constants, generation}
use Rattle.generator.specs.declared.Constants.{Constants}
use Rattle.generator.proofs.generate.Goals as goal

-- n zeros without k of them
zeros-dropped : (n k : ℕ) → k ≤ n → drop k (replicate n 0) ≡ replicate {A = ℕ} (n - k) 0
zeros-dropped n k h =
    let all : n ≡ k + (n - k) = omega arith in
    ap (λ (m : ℕ). drop k (replicate m 0)) all
    ∙ ap (drop k) (sym (replicate-append-replicate k (n - k) 0))
    ∙ drop_at (replicate k 0) (replicate (n - k) 0) k (length-replicate {A = ℕ} k 0)

-- numbers in the first places of n, zeros behind them there, and zeros in the places left
padded-further : (n wanted : ℕ) (numbers : List ℕ) → length numbers ≤ wanted → wanted ≤ n
    → zero_padded wanted numbers ++ drop wanted (replicate n 0) ≡ zero_padded n numbers
padded-further n wanted numbers fit room =
    let left : wanted - length numbers + (n - wanted) ≡ n - length numbers = omega arith in
    append_assoc numbers (replicate (wanted - length numbers) 0) (drop wanted (replicate n 0))
    ∙ ap (◌++◌ numbers) (rw (zeros-dropped n wanted room, replicate-append-replicate {A = ℕ} (wanted - length numbers) (n - wanted) 0, left))

-- no more are found than are wanted
found-few : (register : List ℕ) (m wanted limit : ℕ) → length (found register m wanted limit) ≤ wanted
unfolding found
found-few register m wanted limit =
    let size = length-take wanted (kept m (candidates (output_bits (drop 160 (new_bits limit register))))) in omega arith

-- what is found in the places lent, with the zeros in those left
lent-filled : (n wanted : ℕ) {lent : ℕ} {constants : List ℕ} (register : List ℕ) (m limit : ℕ) → lent ≡ wanted → wanted ≤ n
    → constants ≡ zero_padded lent (found register m lent limit)
    → constants ++ drop wanted (replicate n 0) ≡ zero_padded n (found register m wanted limit)
lent-filled n wanted register m limit size room e =
    ap (λ (l : List ℕ). l ++ drop wanted (replicate n 0)) (e ∙ ap (λ (k : ℕ). zero_padded k (found register m k limit)) size)
    ∙ padded-further n wanted (found register m wanted limit) (found-few register m wanted limit) room

-- all that are wanted have a place
few : (f : Field) {rounds : ℕ} → rounds ≡ partial_rounds f → 24 * (4 + rounds + 4) ≤ 744
few f e = omega (arith, few_rounds f)

-- the constants of a field in its places of 744
filled : (f : Field) {register constants : List ℕ} {m rounds lent count : ℕ}
    → register ≡ first_register (partial_rounds f) → m ≡ modulus f → rounds ≡ partial_rounds f → lent ≡ 24 * (4 + rounds + 4)
    → (count ≡ length (found register m lent 262144)) × (constants ≡ zero_padded lent (found register m lent 262144))
    → generated_answer (Ok (record { constants = constants ++ drop (24 * (4 + rounds + 4)) (replicate 744 0); count = count })) ≡ with_constants accepted (generated f)
unfolding with_constants generated generated_answer
filled f {register} {constants} {m} {rounds} e₁ e₂ e₃ size (counted, is) =
    let wanted = 24 * (4 + rounds + 4) in
    ap₂ (λ (l : List ℕ) (n : ℕ). record { number = accepted; constants = l; count = n })
    (lent-filled 744 wanted register m 262144 size (few f e₃) is)
    (counted ∙ ap (λ (k : ℕ). length (found register m k 262144)) size)
    ∙ (λ i. with_constants accepted (found (e₁ i) (e₂ i) (24 * (4 + e₃ i + 4)) 262144))

-- the number names no field, or one
unknown : (number : ℕ) (r : Result Constants Refusal) → is_field number ≡ false → r ≡ Err FieldUnknown → generated_answer r ≡ generation number
unfolding generation with_constants generated_answer number_of
unknown number r e is = ap generated_answer is ∙ sym (if_true _ _ _ (ap not e))

known : (number : ℕ) {f : Field} → (is_field number ≡ true) × (f ≡ field_of number) → with_constants accepted (generated f) ≡ generation number
unfolding generation
known number (e, field) = ap (λ (f : Field). with_constants accepted (generated f)) field ∙ sym (if_false _ _ _ (ap not e))

pub returns-in_err-field : goal.returns-in_err-field
returns-in_err-field c =
    let e : c.from_residual.result ≡ Err FieldUnknown = search rules in
    unknown c.args.field _ c.in_err-field.ensures.0 e

pub returns : goal.returns
returns c =
    let f = c.in_ok-field.field in
    filled f c.first_register.ensures c.modulus.ensures c.partial_rounds.ensures
    (length-take-le _ (replicate 744 0) (few f c.partial_rounds.ensures)) c.generate_from-count.ensures
    ∙ known c.args.field c.in_ok-field.ensures
