-- The session's record, and what one element does to it. From document 01, "Session steps".
use Rattle.std.specs.Prelude.{List, [], ◌∷◌, ◌++◌, ℕ, zero, suc, ◌-◌, length, replicate}
use Rattle.basics.specs.Lists.{zero_padded}
use Rattle.basics.specs.Figures.{rate, capacity, width}
use Rattle.pattern.specs.Pattern.{max_words}
use Rattle.progress.specs.Place.{next_place}
use Rattle.progress.specs.declared.place.Place.{Place}
use Rattle.field.specs.Field.{field_of}
use Rattle.field.specs.declared.Field.{Field}
use Rattle.poseidon.specs.Permutation.{Parameters, parameters}
use Rattle.sponge.specs.Sponge.{sponge, absorb_element, squeeze_element, squeezed_element}
use Rattle.sponge.specs.Sponge.{Sponge}
use Rattle.session.specs.declared.Session.{Session}

-- "a status (1 open, otherwise closed)"
abbrev pub opened : ℕ
opened = 1

-- "Wiped means every field 0."
unfoldable pub wiped : Session
wiped =
    record {
      status = 0;
      field = 0;
      form = 0;
      state = replicate width 0;
      words = replicate max_words 0;
      count = 0;
      phase = 0;
      done = 0;
      absorb_position = 0;
      squeeze_position = 0;
      permutations = 0;
    }

-- "The state has eight outer elements and sixteen inner elements, numbered 0 to 23 with the outer ones first." "Word k is added to element
-- 8 + k of the zero state.": the state that eight tag elements open, which are the first half of the inner elements
unfoldable pub tag_state : List ℕ → List ℕ
tag_state elements = replicate rate 0 ++ elements ++ replicate (capacity - 8) 0

-- "START makes it open, with the merged words and their number; phase number, elements done, positions, permutations and unused words are
-- 0."; "START takes a field number .. and the record keeps it"; "START, writing and reading take a form number .. and the record keeps it": the record of
-- these numbers, a state and merged words
unfoldable pub open_record : ℕ → ℕ → List ℕ → List ℕ → Session
open_record field form state ws =
    record {
      status = opened;
      field = field;
      form = form;
      state = state;
      words = zero_padded max_words ws;
      count = length ws;
      phase = 0;
      done = 0;
      absorb_position = 0;
      squeeze_position = 0;
      permutations = 0;
    }

-- the record's sponge
unfoldable pub sponge_of : Session → Sponge
sponge_of r = sponge r.state r.absorb_position r.squeeze_position r.permutations

-- the record with another sponge at another place of its pattern
unfoldable pub moved : Session → Sponge → Place → Session
moved r s place =
    record {
      status = r.status;
      field = r.field;
      form = r.form;
      state = s.state;
      words = r.words;
      count = r.count;
      phase = place.phase;
      done = place.done;
      absorb_position = s.absorb_position;
      squeeze_position = s.squeeze_position;
      permutations = s.permutations;
    }

-- the record's place after one element more
abbrev pub next_place_of : Session → Place
next_place_of r = next_place r.words r.phase r.done

-- "the field that the record .. names"
abbrev pub field_in : Session → Field
field_in r = field_of r.field

-- the parameters of its permutation
abbrev pub parameters_in : Session → Parameters
parameters_in r = parameters (field_in r)

-- the record after one element is absorbed
unfoldable pub absorb_one : Session → ℕ → Session
absorb_one r x = moved r (absorb_element (parameters_in r) (sponge_of r) x) (next_place_of r)

-- the record after one element is squeezed
unfoldable pub squeeze_one : Session → Session
squeeze_one r = moved r (squeeze_element (parameters_in r) (sponge_of r)) (next_place_of r)

-- the element that comes out then
unfoldable pub squeezed_one : Session → ℕ
squeezed_one r = squeezed_element (parameters_in r) (sponge_of r)

-- the record after a list is absorbed, element by element
unfoldable pub absorb_all : Session → List ℕ → Session
absorb_all r [] = r
absorb_all r (x ∷ xs) = absorb_all (absorb_one r x) xs

-- the record after n elements are squeezed
unfoldable pub squeeze_all : Session → ℕ → Session
squeeze_all r zero = r
squeeze_all r (suc n) = squeeze_all (squeeze_one r) n

-- the n elements that come out then, in order
unfoldable pub squeezed_all : Session → ℕ → List ℕ
squeezed_all r zero = []
squeezed_all r (suc n) = squeezed_one r ∷ squeezed_all (squeeze_one r) n
