-- What comes with a number: all of it if the call is accepted, nothing if it is refused.
-- Assumes nothing.
use mathlib.Core.Path.{◌≡◌, refl, ap}
use mathlib.Core.Bool.{false}
use mathlib.Core.List.{List, []}
use Prim.Native.Nat.{ℕ}
use lib.Dec.{eqb}
use Rattle.basics.specs.Logic.{when◌then◌else◌}
use Rattle.basics.specs.Numbers.{accepted}
use Rattle.pattern.specs.Opening.{given, with_words, answer_with}

pub given_accepted : (n : ℕ) (xs : List ℕ) → n ≡ accepted → given n xs ≡ xs
unfolding given when◌then◌else◌
given_accepted n xs e = rw e

pub given_refused : (n : ℕ) (xs : List ℕ) → eqb n accepted ≡ false → given n xs ≡ []
unfolding given when◌then◌else◌
given_refused n xs e = rw e

pub answer_accepted : (n : ℕ) (ws : List ℕ) → n ≡ accepted → answer_with n ws ≡ with_words accepted ws
unfolding answer_with
answer_accepted n ws e = rw e (ap (with_words accepted) (given_accepted accepted ws refl))

pub answer_refused : (n k : ℕ) (ws : List ℕ) → n ≡ k → eqb k accepted ≡ false → answer_with n ws ≡ with_words k []
unfolding answer_with
answer_refused n k ws e z = rw e (ap (with_words k) (given_refused k ws z))
