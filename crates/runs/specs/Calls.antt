-- Lists of calls on one record. From document 01, "What the third demand compares": "Among the calls an ABSORB stands with its lent list, a
-- SQUEEZE with its buffer's length."
use Rattle.std.specs.Prelude.{Bool, List, [], ◌∷◌, ◌++◌, ℕ, eqb}
use Rattle.basics.specs.Logic.{when◌then◌else◌}
use Rattle.basics.specs.Numbers.{accepted}
use Rattle.session.specs.Record.{squeezed_all}
use Rattle.session.specs.Calls.{absorb, squeeze, finish}
use Rattle.session.specs.declared.Session.{Session}
use Rattle.session.specs.Calls.{Answer}

-- one call: ABSORB of a list, SQUEEZE of so many elements, or FINISH
pub data Call : Type 0 where
  ABSORB : List ℕ → Call
  SQUEEZE : ℕ → Call
  FINISH : Call

-- what a call on a record answers: its number, and the record that it leaves
unfoldable pub answered : Session → Call → Answer
answered r (ABSORB xs) = absorb r xs
answered r (SQUEEZE n) = squeeze r n
answered r FINISH = finish r

-- whether the call is accepted
unfoldable pub accepts : Session → Call → Bool
accepts r c = eqb (answered r c).number accepted

-- the record that the call leaves
unfoldable pub left : Session → Call → Session
left r c = (answered r c).session

-- the record after a list of calls: "each later one gets it as the call before left it, and nobody else writes it"
unfoldable pub left_by : Session → List Call → Session
left_by r [] = r
left_by r (c ∷ cs) = left_by (left r c) cs

-- "Absorbed are the elements of the accepted ABSORB calls, in list order; a refused call adds none."
unfoldable pub absorbed_in : Session → Call → List ℕ
absorbed_in r (ABSORB xs) = when accepts r (ABSORB xs) then xs else []
absorbed_in r (SQUEEZE n) = []
absorbed_in r FINISH = []

-- what a list of calls absorbs
unfoldable pub absorbed : Session → List Call → List ℕ
absorbed r [] = []
absorbed r (c ∷ cs) = absorbed_in r c ++ absorbed (left r c) cs

-- "Squeezed are the elements that the accepted SQUEEZE calls wrote, in list order."
unfoldable pub squeezed_in : Session → Call → List ℕ
squeezed_in r (ABSORB xs) = []
squeezed_in r (SQUEEZE n) = when accepts r (SQUEEZE n) then squeezed_all r n else []
squeezed_in r FINISH = []

-- what a list of calls squeezes
unfoldable pub squeezed : Session → List Call → List ℕ
squeezed r [] = []
squeezed r (c ∷ cs) = squeezed_in r c ++ squeezed (left r c) cs
