-- Calls against a place of a pattern: the tests one by one, and the place after a call.
-- Assumes nothing.
use mathlib.Core.Path.{◌≡◌, refl, sym, ap, ◌∙◌}
use mathlib.Core.Bool.{Bool, true, false, not, true≢false}
use mathlib.Core.Logic.{◌≢◌}
use mathlib.Core.List.{List}
use Prim.Native.Nat.{ℕ, suc, ◌+◌, ◌-◌, ◌≤◌, ◌<◌}
use native.Mathlib.Nat.{add-zero}
use native.Mathlib.Omega.{arith}
use denote.Enum.Bare.{sameb}
use borrow.Author.Tests.{ltb-true, ltb-false, leb-true, leb-false, eqb-true, eqb-false, lt-ltb, le-ltb, le-leb, lt-leb}
use lib.Dec.{leb, ltb}
use lib.ListN.{get_or}
use Rattle.basics.specs.Logic.{when◌then◌else◌, same}
use Rattle.basics.proofs.Cases.{by, cases, if_true, if_false, and_left, and_right, and_both, and_step, and_stop, same_self, same_true}
use Rattle.words.specs.Words.{is_absorb, length_of}
use Rattle.words.specs.Kinds.{absorbs}
use Rattle.words.specs.contracts.Kind.{the_type}
use Rattle.words.specs.declared.Kind.{Kind}
use Rattle.words.specs.declared.Kind.TheVariants.{Absorb, Squeeze}
use Rattle.progress.specs.Place.{phase_length, in_pattern, next_place, place_after}
use Rattle.progress.specs.declared.place.Place.{Place}

leb_left : (a b n : ℕ) → a ≤ b → leb (a + n) b ≡ leb n (b - a)
leb_left a b n h =
    cases (leb n (b - a))
    (λ e. le-leb (a + n) b (omega (arith, leb-true n (b - a) e)) ∙ sym e)
    λ e. lt-leb (a + n) b (omega (arith, leb-false n (b - a) e)) ∙ sym e

-- the test whether two kinds differ
pub kinds_differ : (a b : Kind) → not (sameb the_type a b) ≡ true → absorbs a ≢ absorbs b
unfolding absorbs
kinds_differ Absorb Absorb e q = true≢false (sym e)
kinds_differ Absorb Squeeze e q = true≢false q
kinds_differ Squeeze Absorb e q = true≢false (sym q)
kinds_differ Squeeze Squeeze e q = true≢false (sym e)

pub kinds_agree : (a b : Kind) → not (sameb the_type a b) ≡ false → absorbs a ≡ absorbs b
kinds_agree Absorb Absorb e = refl
kinds_agree Absorb Squeeze e = absurd (true≢false e)
kinds_agree Squeeze Absorb e = absurd (true≢false e)
kinds_agree Squeeze Squeeze e = refl

module _ (ws : List ℕ) (count phase done : ℕ) (absorbs : Bool) (n : ℕ) where
  abbrev word : ℕ
  word = get_or ws phase 0

  -- n elements of a kind lie in the phase
  pub record InPhase : Type 0 where
    pub before_end : phase < count
    pub kind : is_absorb word ≡ absorbs
    pub room : done + n ≤ length_of word

  pub in_phase : in_pattern ws count phase done absorbs n ≡ true → InPhase
  unfolding in_pattern
  in_phase e =
      let e2 = and_right _ _ e in
      record {
        before_end = ltb-true _ _ (and_left _ _ e);
        kind = sym (same_true _ _ (and_left _ _ e2));
        room = leb-true _ _ (and_right _ _ e2);
      }

  pub after_last : count ≤ phase → in_pattern ws count phase done absorbs n ≡ false
  unfolding in_pattern
  after_last h = and_stop _ _ (le-ltb phase count h)

  module _ (early : phase < count) where
    pub wrong_kind : (is_absorb word ≢ absorbs) → in_pattern ws count phase done absorbs n ≡ false
    unfolding in_pattern
    wrong_kind other =
        and_step _ _ (lt-ltb phase count early)
        ∙ and_stop _ _ (cases (same absorbs (is_absorb word)) (λ e. absurd (other (sym (same_true _ _ e)))) λ e. e)

    module _ (kind : is_absorb word ≡ absorbs) where
      to_length : in_pattern ws count phase done absorbs n ≡ leb (done + n) (length_of word)
      unfolding in_pattern
      to_length =
          and_step _ _ (lt-ltb phase count early)
          ∙ and_step _ _ (ap (same absorbs) kind ∙ same_self absorbs)

      pub past_end : length_of word < done → in_pattern ws count phase done absorbs n ≡ false
      past_end h = to_length ∙ lt-leb (done + n) (length_of word) (omega arith)

      pub in_length : done ≤ length_of word → in_pattern ws count phase done absorbs n ≡ leb n (length_of word - done)
      in_length h = to_length ∙ leb_left done (length_of word) n h

  pub in_pattern_law : InPhase → in_pattern ws count phase done absorbs n ≡ true
  in_pattern_law i = to_length i.before_end i.kind ∙ le-leb (done + n) (length_of word) i.room

-- ---- the place after a call

module _ (ws : List ℕ) (count phase done : ℕ) where
  -- the element is the phase's last, or it is not
  pub next_place_law : (Q : Place → Type 0)
      → (suc done ≡ phase_length ws phase → Q (record { phase = suc phase; done = 0 }))
      → (suc done ≢ phase_length ws phase → Q (record { phase = phase; done = suc done }))
      → Q (next_place ws phase done)
  unfolding next_place
  next_place_law Q f g = by Q _ _ _ (λ e. f (eqb-true _ _ e)) λ e. g (eqb-false _ _ e)

  module _ (n : ℕ) where
    pub stays_behind : count ≤ phase → place_after ws count phase done n ≡ record { phase = phase; done = done }
    unfolding place_after
    stays_behind h = if_false _ _ _ (and_stop _ _ (le-ltb phase count h))

    module _ (early : phase < count) where
      pub stays_at_end : phase_length ws phase ≤ done → place_after ws count phase done n ≡ record { phase = phase; done = done }
      unfolding place_after
      stays_at_end h = if_false _ _ _ (and_step _ _ (lt-ltb phase count early) ∙ le-ltb done (phase_length ws phase) h)

      module _ (left : done < phase_length ws phase) where
        inside : place_after ws count phase done n
            ≡ (when ltb (done + n) (phase_length ws phase) then record { phase = phase; done = done + n } else record { phase = suc phase; done = 0 })
        unfolding place_after
        inside = if_true _ _ _ (and_both _ _ (lt-ltb phase count early) (lt-ltb done (phase_length ws phase) left))

        pub goes_on : done + n < phase_length ws phase → place_after ws count phase done n ≡ record { phase = phase; done = done + n }
        goes_on h = inside ∙ if_true _ _ _ (lt-ltb (done + n) (phase_length ws phase) h)

        pub next_phase : phase_length ws phase ≤ done + n → place_after ws count phase done n ≡ record { phase = suc phase; done = 0 }
        next_phase h = inside ∙ if_false _ _ _ (le-ltb (done + n) (phase_length ws phase) h)

  -- no element leaves the place as it is
  pub after_none : place_after ws count phase done 0 ≡ record { phase = phase; done = done }
  after_none =
      cases (ltb phase count)
      (λ e. cases (ltb done (phase_length ws phase))
      (λ f. goes_on 0 (ltb-true phase count e) (ltb-true done (phase_length ws phase) f) (omega (arith, ltb-true done (phase_length ws phase) f))
      ∙ (λ i. record { phase = phase; done = add-zero done i }))
      λ f. stays_at_end 0 (ltb-true phase count e) (omega (arith, ltb-false done (phase_length ws phase) f)))
      λ e. stays_behind 0 (omega (arith, ltb-false phase count e))

  -- element by element: a first one that is not the phase's last, and n others
  pub after_more : (n : ℕ) → phase < count → suc done < phase_length ws phase
      → place_after ws count phase (suc done) n ≡ place_after ws count phase done (suc n)
  unfolding place_after
  after_more n early more =
      let left : done < phase_length ws phase = omega arith in
      let sum : suc done + n ≡ done + suc n = omega arith in
      if_true _ _ _ (and_both _ _ (lt-ltb phase count early) (lt-ltb (suc done) (phase_length ws phase) more))
      ∙ rw sum (sym (if_true _ _ _ (and_both _ _ (lt-ltb phase count early) (lt-ltb done (phase_length ws phase) left))))

  -- the last element of a call that ends with it
  pub after_one : phase < count → done < phase_length ws phase → next_place ws phase done ≡ place_after ws count phase done 1
  after_one early left =
      next_place_law (λ (at : Place). at ≡ place_after ws count phase done 1)
      (λ e. sym (next_phase 1 early left (omega arith)))
      λ n. let e : done + 1 ≡ suc done = omega arith in
      sym (goes_on 1 early left (omega (arith, n)) ∙ (λ i. record { phase = phase; done = e i }))
