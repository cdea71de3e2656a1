-- A session with its list of calls, and what the third demand compares of it.
use Rattle.std.specs.Prelude.{◌≡◌, List, [], ◌∷◌, ◌++◌, ℕ}
use Rattle.basics.specs.Numbers.{accepted}
use Rattle.words.specs.Words.{Phase}
use Rattle.pattern.specs.Pattern.{phases}
use Rattle.pattern.specs.Opening.{Opening}
use Rattle.tag.specs.TagString.{tag_string}
use Rattle.session.specs.Calls.{start, finish}
use Rattle.session.specs.declared.Session.{Session}
use Rattle.runs.specs.Calls.{Call, FINISH, left_by, absorbed, squeezed}
use Rattle.runs.specs.Blocks.{blocks}

-- "Let START open two sessions .. and let each have a list of ABSORB, SQUEEZE and FINISH calls, refused ones included, that ends in an
-- accepted FINISH. A list's first call gets the record that START gave"
pub record Run : Type 0 where
  -- what START got: a field number, a form number, and words and a separator
  pub field : ℕ
  pub form : ℕ
  pub opening : Opening
  -- the calls before the last, which is FINISH
  pub before : List Call
  pub opens : (start field form opening).number ≡ accepted
  pub ends : (finish (left_by (start field form opening).session before)).number ≡ accepted

-- the record that START gave
abbrev pub started_of : Run → Session
started_of a = (start a.field a.form a.opening).session

-- the whole list of calls
abbrev calls_of : Run → List Call
calls_of a = a.before ++ (FINISH ∷ [])

-- "The tag string is made by the rule under Tags from the words and separator that START got.", in the form that it got
abbrev pub tag_of : Run → List ℕ
tag_of a = tag_string a.form a.opening

-- the merged pattern, as kinds and lengths
abbrev pub pattern_of : Run → List Phase
pattern_of a = phases a.opening.words

-- the elements that the session absorbs, in list order
abbrev pub absorbed_of : Run → List ℕ
absorbed_of a = absorbed (started_of a) (calls_of a)

-- the elements that it squeezes, in list order
abbrev pub squeezed_of : Run → List ℕ
squeezed_of a = squeezed (started_of a) (calls_of a)

-- its list of blocks
abbrev pub blocks_of : Run → List (List ℕ)
blocks_of a = blocks (pattern_of a) (absorbed_of a)

-- "The number of permutations is the count in the record that the accepted FINISH gets."
abbrev pub permutations_of : Run → ℕ
permutations_of a = (left_by (started_of a) a.before).permutations
