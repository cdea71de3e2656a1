-- `poseidon::permute` meets its contract.
-- Assumes nothing.
use mathlib.Core.Path.{◌≡◌, ◌∙◌, sym, ap, subst}
use mathlib.Core.Bool.{Bool, true, false, not}
use mathlib.Core.List.{List}
use Prim.Native.Nat.{ℕ}
use Rattle.std.specs.Prelude.{Ok, Err}
use Rattle.std.proofs.lemmas.Result.{err_from_is_err_and}
use Rattle.basics.specs.Logic.{all}
use Rattle.basics.specs.Answers.{number_of}
use Rattle.basics.specs.declared.Refusal.{Refusal}
use Rattle.basics.specs.declared.Refusal.TheVariants.{FieldUnknown, ElementNotReduced}
use Rattle.basics.proofs.Cases.{if_true, if_false}
use Rattle.field.specs.Field.{is_element, is_field, field_of}
use Rattle.field.specs.declared.Field.{Field}
use Rattle.poseidon.specs.Permutation.{permuted, permutation, parameters}
use Rattle.poseidon.specs.Answers.{permuted_answer}
use Rattle.poseidon.proofs.permute.Goals as goal

-- a number that names no field
unknown : (number : ℕ) (s : List ℕ) (e : Refusal) → (is_field number ≡ false) × (e ≡ FieldUnknown) → permuted_answer s (Err e) ≡ permuted number s
unfolding permuted permuted_answer number_of
unknown number s e h = ap (λ (e : Refusal). permuted_answer s (Err e)) h.1 ∙ sym (if_true _ _ _ (ap not h.0))

-- the field is the one that the number names
module _ (number : ℕ) (s : List ℕ) (f : Field) (h : (is_field number ≡ true) × (f ≡ field_of number)) where
  by_test : {b : Bool} → b ≡ all (is_element f) s → (t : Bool) → b ≡ t → not (all (is_element (field_of number)) s) ≡ not t
  by_test e t g = ap not (subst (λ (f : Field). all (is_element f) s ≡ t) h.1 (sym e ∙ g))

  taken : {b : Bool} {r : List ℕ} → b ≡ all (is_element f) s → b ≡ true → r ≡ permutation (parameters f) s → permuted_answer s (Ok r) ≡ permuted number s
  unfolding permuted permuted_answer
  taken e g p =
      ap (λ (t : List ℕ). permuted_answer s (Ok t)) (p ∙ ap (λ (f : Field). permutation (parameters f) s) h.1)
      ∙ sym (if_false _ _ _ (by_test e true g))
      ∙ sym (if_false _ _ _ (ap not h.0))

  refused : {b : Bool} → b ≡ all (is_element f) s → b ≡ false → permuted_answer s (Err ElementNotReduced) ≡ permuted number s
  unfolding permuted permuted_answer number_of
  refused e g = sym (if_true _ _ _ (by_test e false g)) ∙ sym (if_false _ _ _ (ap not h.0))

pub returns-in_err-named : goal.returns-in_err-named
returns-in_err-named c =
    let p = err_from_is_err_and c.from_residual.result c.from_residual.ensures.1 in
    rw (p.1, p.2) (unknown _ _ _ c.in_err-named.ensures)

pub returns-then-not-is_reduced : goal.returns-then-not-is_reduced
returns-then-not-is_reduced c = refused _ _ _ c.in_ok-named.ensures c.is_reduced.ensures c.if-not-is_reduced.true

pub returns : goal.returns
returns c = taken _ _ _ c.in_ok-named.ensures c.is_reduced.ensures c.if-not-is_reduced.false c.permutation.ensures
