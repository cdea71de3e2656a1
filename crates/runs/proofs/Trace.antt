-- A list of calls that ends in an accepted FINISH goes element by element through what is left of the pattern, however its calls are cut.
-- Assumes nothing.
use mathlib.Core.Path.{◌≡◌, refl, sym, ap, ◌∙◌}
use mathlib.Core.Bool.{Bool, true, false}
use mathlib.Core.List.{List, [], ◌∷◌, ◌++◌}
use Prim.Native.Nat.{ℕ, zero, suc, ◌+◌, ◌<◌}
use native.Mathlib.Omega.{arith}
use lib.Dec.{eqb}
use lib.ListN.{length}
use Rattle.basics.specs.Logic.{when◌then◌else◌, ◌or◌}
use Rattle.basics.specs.Numbers.{accepted}
use Rattle.basics.proofs.Cases.{if_true, if_false}
use Rattle.sponge.specs.Sponge.{absorb_element, squeeze_element}
use Rattle.session.specs.Record.{wiped, sponge_of, absorb_one, squeeze_one, squeezed_one, absorb_all, squeeze_all, squeezed_all, parameters_in}
use Rattle.basics.specs.Refusals.{first_number}
use Rattle.session.specs.Calls.{giving, record_rows, call_rows, absorb_rows, finish_rows, wipes, answer_of, absorb, squeeze, finish}
use Rattle.session.specs.declared.Session.{Session}
use Rattle.session.specs.Calls.{Answer}
use Rattle.session.proofs.SoundRecord.{parts}
use Rattle.session.proofs.Folds.{InPhase}
use Rattle.runs.specs.Calls.{Call, ABSORB, SQUEEZE, FINISH, answered, accepts, left, left_by, absorbed_in, absorbed, squeezed_in, squeezed}
use Rattle.runs.proofs.Places.{in_phase_next}
use Rattle.runs.proofs.Outcomes.{wiped_not_open, absorb_outcome, squeeze_outcome, finish_outcome, finish_ended}
use Rattle.runs.proofs.ElementKinds.{to_do, to_absorb, next_to_do, none_to_do}

-- element by element: the kinds, the record before, the elements absorbed and squeezed, the record after
pub data Trace : List Bool → Session → List ℕ → List ℕ → Session → Type 0 where
  end : {r : Session} → Trace [] r [] [] r
  absorbs : {ks : List Bool} {r : Session} {x : ℕ} {xs ys : List ℕ} {t : Session} → Trace ks (absorb_one r x) xs ys t
      → Trace (true ∷ ks) r (x ∷ xs) ys t
  squeezes : {ks : List Bool} {r : Session} {xs ys : List ℕ} {t : Session} → Trace ks (squeeze_one r) xs ys t
      → Trace (false ∷ ks) r xs (squeezed_one r ∷ ys) t

-- the absorbed elements decide the squeezed ones and the record after them
pub decided : {ks : List Bool} {r : Session} {xs ys zs : List ℕ} {t u : Session} → Trace ks r xs ys t → Trace ks r xs zs u → (ys ≡ zs) × (t ≡ u)
decided end end = (refl, refl)
decided (absorbs p) (absorbs q) = decided p q
decided (squeezes {r = r} p) (squeezes q) = let d = decided p q in (ap (λ (l : List ℕ). squeezed_one r ∷ l) d.0, d.1)

pub absorbed_length : {ks : List Bool} {r : Session} {xs ys : List ℕ} {t : Session} → Trace ks r xs ys t → length xs ≡ to_absorb ks
unfolding to_absorb
absorbed_length end = refl
absorbed_length (absorbs p) = ap suc (absorbed_length p)
absorbed_length (squeezes p) = absorbed_length p

-- each element is absorbed or squeezed
pub trace_length : {ks : List Bool} {r : Session} {xs ys : List ℕ} {t : Session} → Trace ks r xs ys t → length xs + length ys ≡ length ks
trace_length end = refl
trace_length (absorbs p) = omega (arith, trace_length p)
trace_length (squeezes p) = omega (arith, trace_length p)

-- ---- accepted calls

absorb_all_law : (xs : List ℕ) (r : Session) {zs ys : List ℕ} {t : Session} → (0 < length xs → InPhase r true (length xs))
    → Trace (to_do (absorb_all r xs)) (absorb_all r xs) zs ys t → Trace (to_do r) r (xs ++ zs) ys t
unfolding absorb_all absorb_one
absorb_all_law [] r f p = p
absorb_all_law (x ∷ xs) r f p =
    let i = f (omega arith) in
    rw (next_to_do r true i.kind (omega (arith, i.room)) (absorb_element (parameters_in r) (sponge_of r) x))
    (absorbs (absorb_all_law xs (absorb_one r x) (in_phase_next r true (length xs) _ i) p))

squeeze_all_law : (n : ℕ) (r : Session) {zs ys : List ℕ} {t : Session} → (0 < n → InPhase r false n)
    → Trace (to_do (squeeze_all r n)) (squeeze_all r n) zs ys t → Trace (to_do r) r zs (squeezed_all r n ++ ys) t
unfolding squeeze_all squeezed_all squeeze_one
squeeze_all_law zero r f p = p
squeeze_all_law (suc n) r f p =
    let i = f (omega arith) in
    rw (next_to_do r false i.kind (omega (arith, i.room)) (squeeze_element (parameters_in r) (sponge_of r)))
    (squeezes (squeeze_all_law n (squeeze_one r) (in_phase_next r false n _ i) p))

-- ---- lists of calls

-- a wiped record is refused every call, FINISH too
wiped_stays : (cs : List Call) → left_by wiped cs ≡ wiped
unfolding left_by left answered absorb squeeze finish absorb_rows call_rows finish_rows record_rows first_number answer_of wipes giving wiped when◌then◌else◌ ◌or◌
wiped_stays [] = refl
wiped_stays (ABSORB xs ∷ cs) = wiped_stays cs
wiped_stays (SQUEEZE n ∷ cs) = wiped_stays cs
wiped_stays (FINISH ∷ cs) = wiped_stays cs

pub wiped_not_finished : (cs : List Call) → (finish (left_by wiped cs)).number ≡ accepted → ⊥
wiped_not_finished cs e = wiped_not_open (finish_ended wiped (sym (ap (λ (r : Session). (finish r).number) (wiped_stays cs)) ∙ e)).opens

-- what is counted of a call with an answer: a list if it is accepted, and nothing if it is refused
record Counts (a : Answer) (xs counted : List ℕ) : Type 0 where
  all_accepted : eqb a.number accepted ≡ true → counted ≡ xs
  none_refused : eqb a.number accepted ≡ false → counted ≡ []

counts_absorbed : (r : Session) (xs : List ℕ) → Counts (absorb r xs) xs (absorbed_in r (ABSORB xs))
unfolding absorbed_in accepts answered
counts_absorbed r xs = record { all_accepted = if_true _ _ _; none_refused = if_false _ _ _ }

counts_squeezed : (r : Session) (n : ℕ) → Counts (squeeze r n) (squeezed_all r n) (squeezed_in r (SQUEEZE n))
unfolding squeezed_in accepts answered
counts_squeezed r n = record { all_accepted = if_true _ _ _; none_refused = if_false _ _ _ }

-- one call before others that go through what it left
module _ (r : Session) (cs : List Call) (zs ys : List ℕ) (t : Session) where
  abbrev Later : Session → Type 0
  Later s = ((finish (left_by s cs)).number ≡ accepted) × Trace (to_do s) s zs ys t

  absorb_call : (xs counted : List ℕ) → Counts (absorb r xs) xs counted → Later (absorb r xs).session → Trace (to_do r) r (counted ++ zs) ys t
  unfolding giving
  absorb_call xs counted =
      absorb_outcome r (λ (a : Answer). Counts a xs counted → Later a.session → Trace (to_do r) r (counted ++ zs) ys t)
      (λ _ z f l. rw (f.none_refused z) l.1)
      (λ _ _ _ l. absurd (wiped_not_finished cs l.0))
      xs
      λ takes _ f l. rw (f.all_accepted refl) (absorb_all_law xs r takes.fits l.1)

  squeeze_call : (n : ℕ) (counted : List ℕ) → Counts (squeeze r n) (squeezed_all r n) counted → Later (squeeze r n).session
      → Trace (to_do r) r zs (counted ++ ys) t
  unfolding giving
  squeeze_call n counted =
      squeeze_outcome r (λ (a : Answer). Counts a (squeezed_all r n) counted → Later a.session → Trace (to_do r) r zs (counted ++ ys) t)
      (λ _ z f l. rw (f.none_refused z) l.1)
      (λ _ _ _ l. absurd (wiped_not_finished cs l.0))
      n
      λ takes f l. rw (f.all_accepted refl) (squeeze_all_law n r takes.fits l.1)

  -- FINISH among them is refused
  finish_call : Later (finish r).session → Trace (to_do r) r zs ys t
  unfolding giving
  finish_call =
      finish_outcome r (λ (a : Answer). Later a.session → Trace (to_do r) r zs ys t)
      (λ _ _ l. l.1)
      (λ _ _ l. absurd (wiped_not_finished cs l.0))
      λ _ l. absurd (wiped_not_finished cs l.0)

-- the whole list
pub traced : (r : Session) (cs : List Call) → (finish (left_by r cs)).number ≡ accepted
    → Trace (to_do r) r (absorbed r (cs ++ (FINISH ∷ []))) (squeezed r (cs ++ (FINISH ∷ []))) (left_by r cs)
unfolding left_by left answered accepts absorbed absorbed_in squeezed squeezed_in
traced r [] e = let ends = finish_ended r e in rw (none_to_do r (parts r ends.sounds) ends.ended) end
traced r (ABSORB xs ∷ cs) e = absorb_call r cs _ _ _ xs _ (counts_absorbed r xs) (e, traced (absorb r xs).session cs e)
traced r (SQUEEZE n ∷ cs) e = squeeze_call r cs _ _ _ n _ (counts_squeezed r n) (e, traced (squeeze r n).session cs e)
traced r (FINISH ∷ cs) e = finish_call r cs _ _ _ (e, traced (finish r).session cs e)
