-- A record that calls leave open has the field and the pattern that it had.
-- Assumes nothing.
use mathlib.Core.Path.{◌≡◌, refl, ◌∙◌}
use mathlib.Core.Bool.{true}
use mathlib.Core.List.{List, [], ◌∷◌}
use Prim.Native.Nat.{ℕ, zero, suc}
use lib.Dec.{eqb}
use Rattle.session.specs.Record.{opened, moved, absorb_one, squeeze_one, absorb_all, squeeze_all}
use Rattle.session.specs.Calls.{giving}
use Rattle.session.specs.declared.Session.{Session}
use Rattle.session.specs.Calls.{Answer}
use Rattle.runs.specs.Calls.{Call, ABSORB, SQUEEZE, FINISH, answered, left, left_by}
use Rattle.runs.proofs.Outcomes.{wiped_not_open, absorb_outcome, squeeze_outcome, finish_outcome}

pub record SamePattern (r s : Session) : Type 0 where
  pub status : s.status ≡ r.status
  pub field : s.field ≡ r.field
  pub form : s.form ≡ r.form
  pub words : s.words ≡ r.words
  pub count : s.count ≡ r.count

pub absorb_all_same : (r : Session) (xs : List ℕ) → SamePattern r (absorb_all r xs)
unfolding absorb_all absorb_one moved
absorb_all_same r [] = record { status = refl; field = refl; form = refl; words = refl; count = refl }
absorb_all_same r (x ∷ xs) =
    let s = absorb_all_same (absorb_one r x) xs in
    record { status = s.status; field = s.field; form = s.form; words = s.words; count = s.count }

pub squeeze_all_same : (r : Session) (n : ℕ) → SamePattern r (squeeze_all r n)
unfolding squeeze_all squeeze_one moved
squeeze_all_same r zero = record { status = refl; field = refl; form = refl; words = refl; count = refl }
squeeze_all_same r (suc n) =
    let s = squeeze_all_same (squeeze_one r) n in
    record { status = s.status; field = s.field; form = s.form; words = s.words; count = s.count }

module _ (r : Session) where
  abbrev SameIfOpen : Session → Type 0
  SameIfOpen s = eqb s.status opened ≡ true → SamePattern r s

  itself : SameIfOpen r
  itself _ = record { status = refl; field = refl; form = refl; words = refl; count = refl }

  same_left : (c : Call) → SameIfOpen (left r c)
  unfolding left answered giving
  same_left (ABSORB xs) =
      absorb_outcome r (λ (a : Answer). SameIfOpen a.session) (λ _ _. itself) (λ _ _ o. absurd (wiped_not_open o)) xs
      (λ _ _ _. absorb_all_same r xs)
  same_left (SQUEEZE n) =
      squeeze_outcome r (λ (a : Answer). SameIfOpen a.session) (λ _ _. itself) (λ _ _ o. absurd (wiped_not_open o)) n
      (λ _ _. squeeze_all_same r n)
  same_left FINISH =
      finish_outcome r (λ (a : Answer). SameIfOpen a.session) (λ _ _. itself) (λ _ _ o. absurd (wiped_not_open o))
      (λ _ o. absurd (wiped_not_open o))

pub same_left_by : (r : Session) (cs : List Call) → eqb (left_by r cs).status opened ≡ true → SamePattern r (left_by r cs)
unfolding left_by
same_left_by r [] o = itself r o
same_left_by r (c ∷ cs) o =
    let later = same_left_by (left r c) cs o in
    let now = same_left r c (rw later.status at o) in
    record {
      status = later.status ∙ now.status;
      field = later.field ∙ now.field;
      form = later.form ∙ now.form;
      words = later.words ∙ now.words;
      count = later.count ∙ now.count;
    }
