-- The calls of a note are a session of the third demand, and what it squeezes is what is added.
-- Assumes nothing.
use mathlib.Core.Path.{◌≡◌, refl, sym, ap, ap₂, subst, ◌∙◌}
use mathlib.Core.Bool.{true}
use mathlib.Core.List.{List, [], ◌∷◌, ◌++◌, zip_with, append_assoc, append-nil}
use Prim.Native.Nat.{ℕ, zero, suc, ◌+◌, ◌%◌}
use native.Mathlib.Nat.{suc_inj, mod-eq_of_lt, zero-add}
use native.Mathlib.Omega.{arith}
use borrow.Author.Tests.{eq-eqb}
use lib.ListN.{length, replicate, length-append}
use lib.Seq.{take_all}
use Rattle.basics.specs.Logic.{all}
use Rattle.basics.specs.Lists.{Below, joined, total}
use Rattle.basics.specs.Numbers.{accepted}
use Rattle.basics.proofs.Below.{below_head, below_tail}
use Rattle.basics.proofs.Cases.{if_true, and_left, and_right}
use Rattle.field.specs.Field.{modulus, field_of}
use Rattle.field.specs.declared.Field.{Field}
use Rattle.pattern.specs.Opening.{Opening, opening}
use Rattle.session.specs.Record.{field_in, squeezed_all}
use Rattle.session.specs.Calls.{squeeze, finish}
use Rattle.session.specs.declared.Session.{Session}
use Rattle.runs.specs.Calls.{Call, ABSORB, FINISH, answered, accepts, left, left_by, absorbed_in, absorbed, squeezed_in, squeezed}
use Rattle.runs.specs.Runs.{Run, absorbed_of, squeezed_of}
use Rattle.runs.proofs.Forks.{absorbed_append, squeezed_append}
use Rattle.seal.specs.Seal.{Context, note_form, seal_words, started, keyed, keystream, after_block, after_blocks, plus, cipher_blocks, mark_of, blocks_of, sealed}
use Rattle.note_laws.specs.Calls.{block_calls, note_calls}
use Rattle.seal.proofs.Lengths.{declarable}
use Rattle.seal.proofs.Calls.{squeezed_length, squeezed_elements_law}
use Rattle.seal.proofs.Rows.{Passed}
use Rattle.seal.proofs.Accepted.{Fit, none, more, Ready, text_fits, block_accepted, blocks_accepted, mark_accepted, start_accepts, key_accepted, keyed_ready}
use Rattle.note_laws.proofs.RoundTrip.{joined_again}

-- every call of a list is accepted
unfoldable pub AllAccepted : Session → List Call → Type 0
AllAccepted r [] = Unit {0}
AllAccepted r (c ∷ cs) = (accepts r c ≡ true) × AllAccepted (left r c) cs

-- each of them, where it stands
pub accepted_at : (r : Session) (cs before : List Call) (c : Call) (after : List Call) → AllAccepted r cs → cs ≡ before ++ (c ∷ after)
    → accepts (left_by r before) c ≡ true
unfolding AllAccepted left_by
accepted_at r cs [] c after a e = (subst (AllAccepted r) e a).0
accepted_at r cs (b ∷ before) c after a e = accepted_at (left r b) (before ++ (c ∷ after)) before c after (subst (AllAccepted r) e a).1 refl

pub accepted_append : (r : Session) (cs ds : List Call) → AllAccepted r cs → AllAccepted (left_by r cs) ds → AllAccepted r (cs ++ ds)
unfolding AllAccepted left_by
accepted_append r [] ds a b = b
accepted_append r (c ∷ cs) ds a b = (a.0, accepted_append (left r c) cs ds a.1 b)

-- ---- sums of lists

zip_append : (g : ℕ → ℕ → ℕ) (xs ys us vs : List ℕ) → length xs ≡ length ys → zip_with g (xs ++ us) (ys ++ vs) ≡ zip_with g xs ys ++ zip_with g us vs
unfolding zip_with
zip_append g [] [] us vs e = refl
zip_append g [] (y ∷ ys) us vs e = absurd (omega arith)
zip_append g (x ∷ xs) [] us vs e = absurd (omega arith)
zip_append g (x ∷ xs) (y ∷ ys) us vs e = ap (λ (l : List ℕ). g x y ∷ l) (zip_append g xs ys us vs (suc_inj e))

module _ (f : Field) where
  plus_append : (xs ys us vs : List ℕ) → length xs ≡ length ys → plus f (xs ++ us) (ys ++ vs) ≡ plus f xs ys ++ plus f us vs
  unfolding plus
  plus_append xs ys us vs e = zip_append _ xs ys us vs e

  plus_zeros : (n : ℕ) (ys : List ℕ) → length ys ≡ n → Below (modulus f) ys → plus f (replicate n 0) ys ≡ ys
  unfolding plus zip_with
  plus_zeros zero [] e h = refl
  plus_zeros zero (y ∷ ys) e h = absurd (omega arith)
  plus_zeros (suc n) [] e h = absurd (omega arith)
  plus_zeros (suc n) (y ∷ ys) e h =
      ap₂ (λ (a : ℕ) (l : List ℕ). a ∷ l) (ap (λ (k : ℕ). k % modulus f) (zero-add y) ∙ mod-eq_of_lt (below_head _ y ys h))
      (plus_zeros n ys (suc_inj e) (below_tail _ y ys h))

  -- ---- the calls of blocks

  record Ran (r : Session) (blocks : List (List ℕ)) : Type 0 where
    accepts_all : AllAccepted r (block_calls blocks)
    leaves : left_by r (block_calls blocks) ≡ (squeeze (after_blocks r blocks) 8).session
    absorbs : absorbed r (block_calls blocks) ≡ joined blocks
    adds : plus f (joined blocks ++ replicate 8 0) (squeezed r (block_calls blocks)) ≡ joined (cipher_blocks r blocks) ++ mark_of r blocks
    gives : length (squeezed r (block_calls blocks)) ≡ length (joined blocks) + 8

  ran : (ns : List ℕ) → all declarable ns ≡ true → (r : Session) → Ready f ns r → {blocks : List (List ℕ)} → Fit f ns blocks → Ran r blocks
  unfolding AllAccepted block_calls left_by left answered absorbed absorbed_in squeezed squeezed_in accepts after_blocks after_block cipher_blocks mark_of joined all
  ran [] d r ready none =
      let m = (mark_accepted f r ready).0 in
      let stream = squeezed_all r 8 in
      let test = eq-eqb _ _ m in
      let written = append-nil _ ∙ if_true _ stream [] test in
      record {
        accepts_all = (test, tt);
        leaves = refl;
        absorbs = refl;
        adds = ap (plus f (replicate 8 0)) written ∙ plus_zeros 8 stream (squeezed_length 8 r) (rw ready.field at (squeezed_elements_law r 8 m));
        gives = ap length written ∙ squeezed_length 8 r;
      }
  ran (n ∷ ns) d r ready (more {block = block} {blocks = blocks} size elements fit) =
      let b = block_accepted f n ns r block (and_left _ _ d) ready size elements in
      let later = ran ns (and_right _ _ d) (after_block r block) b.next fit in
      let stream = keystream r block in
      let squeezes = eq-eqb _ _ b.squeezes in
      let absorbs = eq-eqb _ _ b.absorbs in
      let others = squeezed (after_block r block) (block_calls blocks) in
      let written = ap (λ (l : List ℕ). l ++ others) (if_true _ stream [] squeezes) in
      record {
        accepts_all = (squeezes, (absorbs, later.accepts_all));
        leaves = later.leaves;
        absorbs = ap₂ (λ (a b : List ℕ). a ++ b) (if_true _ block [] absorbs) later.absorbs;
        adds = ap₂ (plus f) (append_assoc block (joined blocks) (replicate 8 0)) written
            ∙ plus_append block stream (joined blocks ++ replicate 8 0) others (sym (squeezed_length (length block) r))
            ∙ ap₂ (λ (a b : List ℕ). a ++ b) (ap (λ (g : Field). plus g block stream) (sym ready.field)) later.adds
            ∙ sym (append_assoc (plus (field_in r) block stream) (joined (cipher_blocks (after_block r block) blocks)) _);
        gives =
            let rest = later.gives in
            ap length written
            ∙ omega (arith, rest, length-append stream others, squeezed_length (length block) r, length-append block (joined blocks));
      }

-- ---- the whole session

module _ (c : Context) (plain : List ℕ) {size : ℕ} (p : Passed c plain 0 size 8) where
  abbrev f : Field
  f = field_of c.field

  abbrev blocks : List (List ℕ)
  blocks = blocks_of c.lengths plain

  abbrev o : Opening
  o = opening (seal_words c.lengths) c.separator

  plain_fit : Fit f c.lengths blocks
  plain_fit = text_fits f c.lengths plain (omega (arith, p.text_long)) p.elements

  ran_blocks : Ran f (keyed c) blocks
  ran_blocks = ran f c.lengths p.lengths.each (keyed c) (keyed_ready c p) plain_fit

  pub finishes : (finish (left_by (keyed c) (block_calls blocks))).number ≡ accepted
  finishes =
      let ready = (blocks_accepted f c.lengths p.lengths.each (keyed c) (keyed_ready c p) plain_fit).1 in
      ap (λ (r : Session). (finish r).number) ran_blocks.leaves ∙ (mark_accepted f (after_blocks (keyed c) blocks) ready).1

  unfoldable pub note_run : Run
  unfolding note_calls left_by left answered started keyed
  note_run = record { field = c.field; form = note_form; opening = o; before = note_calls c plain; opens = start_accepts c p; ends = finishes }

  key_test : accepts (started c) (ABSORB (c.key ++ c.nonce)) ≡ true
  unfolding accepts answered
  key_test = eq-eqb _ _ (key_accepted c p)

  pub note_accepted : AllAccepted (started c) (note_calls c plain ++ (FINISH ∷ []))
  unfolding AllAccepted note_calls left_by left answered accepts keyed
  note_accepted =
      accepted_append (started c) (note_calls c plain) (FINISH ∷ []) (key_test, ran_blocks.accepts_all) (eq-eqb _ _ finishes, tt)

  pub note_absorbed : absorbed_of note_run ≡ c.key ++ c.nonce ++ plain
  unfolding note_run note_calls absorbed absorbed_in left answered left_by started keyed
  note_absorbed =
      absorbed_append (started c) (note_calls c plain) (FINISH ∷ [])
      ∙ append-nil (absorbed (started c) (note_calls c plain))
      ∙ ap₂ (λ (a b : List ℕ). a ++ b) (if_true _ (c.key ++ c.nonce) [] key_test)
      (ran_blocks.absorbs ∙ joined_again c.lengths plain ∙ take_all (total c.lengths) plain (omega (arith, p.text_long)))

  pub note_added : plus f (plain ++ replicate 8 0) (squeezed_of note_run) ≡ sealed c plain
  unfolding note_run note_calls squeezed squeezed_in left answered left_by started keyed sealed
  note_added =
      let whole = joined_again c.lengths plain ∙ take_all (total c.lengths) plain (omega (arith, p.text_long)) in
      ap₂ (λ (a b : List ℕ). plus f (a ++ replicate 8 0) b) (sym whole)
      (squeezed_append (started c) (note_calls c plain) (FINISH ∷ []) ∙ append-nil (squeezed (started c) (note_calls c plain)))
      ∙ ran_blocks.adds

  pub note_squeezed : length (squeezed_of note_run) ≡ length plain + 8
  unfolding note_run note_calls squeezed squeezed_in left answered left_by started keyed
  note_squeezed =
      let whole = joined_again c.lengths plain ∙ take_all (total c.lengths) plain (omega (arith, p.text_long)) in
      ap length (squeezed_append (started c) (note_calls c plain) (FINISH ∷ []) ∙ append-nil (squeezed (started c) (note_calls c plain)))
      ∙ ran_blocks.gives
      ∙ ap (λ (l : List ℕ). length l + 8) whole
